-- What stands behind a gate on a wire, and what a pattern asks of that.
use Rattle.std.proofs.Common.{◌≡◌, ◌≢◌, ℕ, zero, suc, ◌-◌, ◌<◌, ◌≤◌, Bool, false, ◌&&◌, List, [], ◌∷◌, length, get_or, map, Option, Some, None, refl, sym, ap, subst, ◌∙◌, arith}
use Rattle.std.specs.Prelude.{slice_get}
use Rattle.std.proofs.lemmas.Option.{slice_get-get_or, slice_get_past}
use Rattle.pq_gate.specs.declared.gate.Gate.{Gate}
use Rattle.pq_gate.specs.Ports.{first_wire, last_wire}
use Rattle.pq_rules.specs.declared.demand.Demands.{Demands}
use Rattle.pq_rules.specs.Row.{RowView}
use Rattle.pq_rules.specs.Kinds.{row_numbered}
use Rattle.pq_gate.specs.declared.role.Role.{Role}
use Rattle.pq_gate.specs.declared.role.TheConstants.{ROLES}
use Rattle.pq_rules.specs.declared.seen.Seen.{Seen}
use Rattle.pq_rules.specs.declared.seen.Seen.TheVariants as seen
use Rattle.pq_rules.specs.Lanes.{LaneView, ended, admits_lane, admits_lanes, admits_begin, demand, demands_of, demands, meets}
use Rattle.pq_rules.specs.Seen.{role_on, roles_on, seen_number}
use Rattle.pq_rules.specs.Sights.{seen_at}
use Rattle.pq_rules.proofs.SightLaws.{seen_of_number}

-- a lane by the numbers of what is seen
abbrev numbered : List Bool → ℕ → ℕ → LaneView
numbered passed n m = record { passed = passed; near = seen_at n; far = seen_at m }

abbrev lane_with : List Bool → Seen → Seen → LaneView
lane_with passed near far = record { passed = passed; near = near; far = far }

-- a lane that ends with a gate whose role is told
pub end_clear : (lane : LaneView) (passed : List Bool) (near far : Seen) (n m : ℕ) → passed ≡ lane.passed → n ≡ seen_number near → m ≡ seen_number far → n ≤ ROLES →
    numbered passed n m ≡ ended lane near far
end_clear lane passed near far n m same near_is far_is told = by near refl
  where
    alike : (what : Seen) → near ≡ what → numbered passed n m ≡ lane_with lane.passed what far
    alike what is =
        let one : seen_at n ≡ what = ap seen_at near_is ∙ (seen_of_number near ∙ is) in
        let other : seen_at m ≡ far = ap seen_at far_is ∙ seen_of_number far in
        λ i. record { passed = same i; near = one i; far = other i }

    by : (what : Seen) → near ≡ what → numbered passed n m ≡ ended lane what far
    by seen.Nothing is = alike seen.Nothing is
    by seen.Unclear is = absurd (let e : n ≡ seen_number seen.Unclear = near_is ∙ ap seen_number is in omega arith)
    by (seen.Plays own) is = alike (seen.Plays own) is

-- what a pattern asks of a lane is met where the lane admits its roles
met_roles : (first : Role) (roles : List Role) (lane : LaneView) → meets (demand first roles) lane ≡ admits_lane first roles lane
met_roles first [] lane = refl
met_roles first (next ∷ []) lane = refl
met_roles first (next ∷ later ∷ rest) lane = refl

-- so it is with both wires of its first gate
pub met_lanes : (pattern : List Gate) (last first : LaneView) → (meets (demands_of pattern).last last && meets (demands_of pattern).first first) ≡ admits_lanes pattern last first
met_lanes [] last first = refl
met_lanes (gate ∷ rest) last first =
    ap (λ (b : Bool). b && meets (demand (role_on (first_wire gate) gate) (roles_on (first_wire gate) rest)) first)
    (met_roles (role_on (last_wire gate) gate) (roles_on (last_wire gate) rest) last)
    ∙ ap (λ (b : Bool). admits_lane (role_on (last_wire gate) gate) (roles_on (last_wire gate) rest) last && b)
    (met_roles (role_on (first_wire gate) gate) (roles_on (first_wire gate) rest) first)

-- of the row at a place
pub met_at : (rows : List RowView) (k : ℕ) (asked : Demands) (last first : LaneView) → slice_get (map demands rows) k ≡ Some asked →
    (meets asked.last last && meets asked.first first) ≡ admits_begin (slice_get rows k) last first
met_at [] k asked last first is = absurd (cc)
met_at (row ∷ rows) zero asked last first is =
    subst (λ (d : Option Demands). met_by d last first ≡ admits_lanes row.pattern last first) is (met_lanes row.pattern last first)
  where
    met_by : Option Demands → LaneView → LaneView → Bool
    met_by None last first = false
    met_by (Some d) last first = meets d.last last && meets d.first first
met_at (row ∷ rows) (suc k) asked last first is = met_at rows k asked last first is

none_at : (rows : List RowView) (k : ℕ) (last first : LaneView) → slice_get (map demands rows) k ≡ None → false ≡ admits_begin (slice_get rows k) last first
none_at [] k last first is = refl
none_at (row ∷ rows) zero last first is = absurd (cc)
none_at (row ∷ rows) (suc k) last first is = none_at rows k last first is

-- the same of the row with a number
pub met_numbered : (rows now : List RowView) (ahead : List Demands) (number : ℕ) (asked : Demands) (last first : LaneView) (result : Bool) → ahead ≡ map demands rows → rows ≡ now → number ≢ 0 →
    number - 1 < length ahead → asked ≡ get_or ahead (number - 1) asked → result ≡ (meets asked.last last && meets asked.first first) → result ≡ admits_begin (row_numbered now number) last first
met_numbered rows now ahead zero asked last first result are same some below is met = absurd (some refl)
met_numbered rows now ahead (suc k) asked last first result are same some below is met =
    let e : suc k - 1 ≡ k = omega arith in
    let found : slice_get ahead (suc k - 1) ≡ Some asked = slice_get-get_or ahead (suc k - 1) asked below ∙ ap Some (sym is) in
    met
    ∙ (met_at rows k asked last first (ap (λ (ds : List Demands). slice_get ds k) (sym are) ∙ (ap (slice_get ahead) (sym e) ∙ found))
    ∙ ap (λ (rs : List RowView). admits_begin (slice_get rs k) last first) same)

pub none_numbered : (rows now : List RowView) (ahead : List Demands) (number : ℕ) (last first : LaneView) → ahead ≡ map demands rows → rows ≡ now → number ≢ 0 →
    length ahead ≤ number - 1 → false ≡ admits_begin (row_numbered now number) last first
none_numbered rows now ahead zero last first are same some past = absurd (some refl)
none_numbered rows now ahead (suc k) last first are same some past =
    none_at rows k last first (ap (λ (ds : List Demands). slice_get ds k) (sym are) ∙ slice_get_past ahead k (omega arith))
    ∙ ap (λ (rs : List RowView). admits_begin (slice_get rs k) last first) same
