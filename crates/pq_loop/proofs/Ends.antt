-- Where a segment begins and ends, told by the places of its gates.
use Rattle.std.proofs.Common.{arith, ◌≡◌, ℕ, suc, ◌+◌, ◌-◌, ◌<◌, ◌≤◌, Option, List, length, get_or, ap, ◌∙◌}
use Rattle.std.specs.Prelude.{IsTrue}
use Rattle.pq_gate.specs.declared.gate.Gate.{Gate}
use Rattle.pq_array.specs.Cells.{rank}
use Rattle.pq_array.proofs.Ranks.{live_inside, rank-suc_live}
use Rattle.pq_loop.specs.Segments.{stands, AreOfRun}
use Rattle.pq_loop.proofs.Standing.{live_stands}

pub begins_stands : (cells : List (Option Gate)) (from to : ℕ) (places : List ℕ) (place : ℕ) → AreOfRun cells from to places → 0 < length places → place ≡ get_or places 0 0 → IsTrue (stands cells place)
begins_stands cells from to places place run some is = ap (stands cells) is ∙ live_stands cells (get_or places 0 0) (run.live 0 some)

pub begins_rank : (cells : List (Option Gate)) (from to : ℕ) (places : List ℕ) (place : ℕ) → AreOfRun cells from to places → 0 < length places → place ≡ get_or places 0 0 → rank cells place ≡ from
begins_rank cells from to places place run some is = omega (arith, ap (rank cells) is, run.ranks 0 some)

-- the last place is that of a cell
pub ends_inside : (cells : List (Option Gate)) (from to : ℕ) (places : List ℕ) (place : ℕ) → AreOfRun cells from to places → 0 < length places → place ≡ get_or places (length places - 1) 0 → place < length cells
ends_inside cells from to places place run some is = omega (arith, is, live_inside cells (get_or places (length places - 1) 0) (run.live (length places - 1) (omega (arith, some))))

-- and the gap behind it is where the segment ends
pub ends_rank : (cells : List (Option Gate)) (from to : ℕ) (places : List ℕ) (place : ℕ) → AreOfRun cells from to places → 0 < length places → place ≡ get_or places (length places - 1) 0 → from ≤ to → rank cells (place + 1) ≡ to
ends_rank cells from to places place run some is up =
    let step : place + 1 ≡ suc (get_or places (length places - 1) 0) = omega (arith, is) in
    omega (
      arith,
      ap (rank cells) step,
      rank-suc_live cells (get_or places (length places - 1) 0) (run.live (length places - 1) (omega (arith, some))),
      run.ranks (length places - 1) (omega (arith, some)),
      run.count,
    )
