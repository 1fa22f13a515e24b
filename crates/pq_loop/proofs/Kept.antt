-- What a loop keeps, from its opening on.
use Rattle.std.proofs.Common.{◌≡◌, ℕ, zero, suc, ◌+◌, ◌*◌, ◌%◌, ◌<◌, ◌≤◌, Option, Some, List, [], ◌∷◌, length, map, refl, ap, sym, subst, ◌∙◌, arith, inl, inr, ◌⊎◌}
use Rattle.std.specs.Prelude.{All, IsTrue}
use Rattle.std.proofs.Math.Logic.{∥∥₁_map, ∥∥₁_elim}
use Rattle.std.proofs.lemmas.Bool.{cases_lt}
use Rattle.std.proofs.Math.Nat.{mul-le-mul_left}
use Rattle.std.proofs.lemmas.List.{length-map}
use Rattle.std.proofs.lemmas.List.Elements.{All-head, All-tail}
use Rattle.std.proofs.lemmas.List.FromFn.{length-map-range_with_len}
use Rattle.std.specs.Int.{div_ceil}
use Rattle.pq_gate.specs.declared.gate.Gate.{Gate}
use Rattle.pq_gate.specs.Circuit.{IsCircuit}
use Rattle.pq_gate.specs.Matrix.{Same}
use Rattle.pq_limits.specs.Limits.{IsOmega}
use Rattle.pq_limits.specs.declared.TheConstants.{MAX_GATES}
use Rattle.pq_rules.specs.Row.{RowView, IsSound}
use Rattle.pq_array.specs.Cells.{live, rank, IsLive}
use Rattle.pq_array.proofs.Ranks.{live-map_some}
use Rattle.pq_gaps.specs.Gaps.{first_fingers}
use Rattle.pq_gaps.proofs.Multiples.{below_quotient}
use Rattle.pq_method.specs.declared.step.Step.{Step}
use Rattle.pq_method.specs.Round.{State, IsState, Round}
use Rattle.pq_method.specs.Opt.{first_state, Local, Cover}
use Rattle.pq_loop.specs.Segments.{stands, state_of}
use Rattle.pq_loop.specs.Loops.{LoopView, IsCovered, IsKept}
use Rattle.pq_method.proofs.Covering.{state_after, cover_after}
use Rattle.pq_method.proofs.Joining.{round_same}
use Rattle.pq_method.proofs.Falling.{round_falls, round_selects}
use Rattle.pq_method.proofs.OneOpt.{first_is_state}
use Rattle.pq_loop.proofs.Standing.{live_stands, end_stands}
use Rattle.pq_method.proofs.Ending.{first_covers, local_without_fingers}

-- a round keeps it
pub kept_after : {old new : List (Option Gate)} {fingers moved : List ℕ} {rules : List RowView} {w rounds calls phase : ℕ} {step : Step} →
    IsKept old fingers rules w rounds calls phase → 0 < length (map (rank old) fingers) →
    Round rules w (state_of old fingers) (state_of new moved) step → All (λ place. IsTrue (stands new place)) moved → length new ≤ length old →
    IsKept new moved rules w (rounds + 1) (calls + step.selected) ((phase + step.phase) % 8)
kept_after {old} {new} {fingers} {moved} {rules} {w} {rounds} {calls} {phase} {step} kept some is stand size =
    let before : State = state_of old fingers in
    let after : State = state_of new moved in
    let least : 0 < w = omega (arith, kept.omega_is.least) in
    let falls : length (map (rank new) moved) + 2 * length (live new) + step.selected ≤ length (map (rank old) fingers) + 2 * length (live old) =
    round_falls rules w before after step least kept.sound kept.is_state is in
    let selects : 0 < step.selected = round_selects rules w before after step is some in
    record {
      omega_is = kept.omega_is;
      sound = kept.sound;
      few = omega (arith, kept.few, size);
      stand = stand;
      is_state = state_after rules w before after step least kept.sound kept.is_state is;
      cover = ∥∥₁_map kept.cover (cover_after rules w before after step least kept.sound kept.is_state is);
      bound = omega (arith, kept.bound, falls, length-map moved (rank new), length-map fingers (rank old));
      rounds_few = omega (arith, kept.rounds_few, selects);
      turn = omega arith;
    }

-- each cell of some gates has its number as rank
pub rank_number : (gates : List Gate) (place : ℕ) → place ≤ length gates → rank (map (λ gate. Some gate) gates) place ≡ place
rank_number gates zero le = refl
rank_number [] (suc place) le = absurd (omega arith)
rank_number (gate ∷ gates) (suc place) le = ap suc (rank_number gates place (omega arith))

-- and holds a gate
number_live : (gates : List Gate) (place : ℕ) → place < length gates → IsLive (map (λ gate. Some gate) gates) place
number_live [] place lt = absurd (omega arith)
number_live (gate ∷ gates) zero lt = refl
number_live (gate ∷ gates) (suc place) lt = number_live gates place (omega arith)

pub number_stands : (gates : List Gate) (place : ℕ) → place ≤ length gates → IsTrue (stands (map (λ gate. Some gate) gates) place)
number_stands gates place le = by (cases_lt place (length gates))
  where
    cells : List (Option Gate)
    cells = map (λ gate. Some gate) gates

    by : (place < length gates) ⊎ (length gates ≤ place) → IsTrue (stands (map (λ gate. Some gate) gates) place)
    by (inl before) = live_stands cells place (number_live gates place before)
    by (inr last) = end_stands cells place (omega (arith, length-map gates (λ gate. Some gate)))

pub same_ranks : (gates : List Gate) (places : List ℕ) → All (λ place. place ≤ length gates) places → map (rank (map (λ gate. Some gate) gates)) places ≡ places
same_ranks gates [] inside = refl
same_ranks gates (place ∷ places) inside =
    let first : rank (map (λ gate. Some gate) gates) place ≡ place = rank_number gates place (All-head (λ p. p ≤ length gates) place places inside) in
    let rest : map (rank (map (λ gate. Some gate) gates)) places ≡ places = same_ranks gates places (All-tail (λ p. p ≤ length gates) place places inside) in
    λ i. first i ∷ rest i

-- there are at most as many first fingers as gates
first_few : (n w : ℕ) → 0 < w → length (first_fingers n w) ≤ n
unfolding first_fingers
first_few n w some = omega (arith, length-map-range_with_len (λ k. k * w) 0 (div_ceil n w), by (div_ceil n w) (λ k lt. below_quotient n w k some lt))
  where
    by : (count : ℕ) → ((k : ℕ) → k < count → k * w < n) → count ≤ n
    by zero below = omega arith
    by (suc k) below = omega (arith, below k (omega arith), mul-le-mul_left k some)

-- the state that rounds begin with
pub opened_state : {cells : List (Option Gate)} {fingers : List ℕ} (gates : List Gate) (w : ℕ) → 0 < w →
    cells ≡ map (λ gate. Some gate) gates → fingers ≡ first_fingers (length gates) w → state_of cells fingers ≡ first_state w gates
opened_state {cells} {fingers} gates w some cells_are fingers_are =
    let lives : live cells ≡ gates = ap live cells_are ∙ live-map_some gates in
    let ranks : map (rank cells) fingers ≡ first_fingers (length gates) w =
    (λ i. map (rank (cells_are i)) (fingers_are i)) ∙
    same_ranks gates (first_fingers (length gates) w) (first_is_state w gates some).inside in
    λ i. record { gates = lives i; fingers = ranks i }

-- the opened loop keeps it
pub kept_first : {cells : List (Option Gate)} {fingers : List ℕ} {rules : List RowView} {w : ℕ} (gates : List Gate) → cells ≡ map (λ gate. Some gate) gates →
    fingers ≡ first_fingers (length gates) w → All IsSound rules → length gates ≤ MAX_GATES → IsOmega w → IsKept cells fingers rules w 0 0 0
kept_first {cells} {fingers} {rules} {w} gates cells_are fingers_are sound few is =
    let some : 0 < w = omega (arith, is.least) in
    let state : state_of cells fingers ≡ first_state w gates = opened_state gates w some cells_are fingers_are in
    let long : length cells ≡ length gates = ap (λ (c : List (Option Gate)). length c) cells_are ∙ length-map gates (λ gate. Some gate) in
    let stand : All (λ place. IsTrue (stands (map (λ gate. Some gate) gates) place)) (first_fingers (length gates) w) =
    λ k d lt. number_stands gates _ ((first_is_state w gates some).inside k d lt) in
    record {
      omega_is = is;
      sound = sound;
      few = omega (arith, long, few);
      stand = subst (λ (c : List (Option Gate)). All (λ place. IsTrue (stands c place)) fingers) (sym cells_are)
          (subst (All (λ place. IsTrue (stands (map (λ gate. Some gate) gates) place))) (sym fingers_are) stand);
      is_state = subst IsState (sym state) (first_is_state w gates some);
      cover = ∣ subst (Cover rules w) (sym state) (first_covers rules w gates some) ∣₁;
      bound = omega (
        arith,
        ap (λ (l : List ℕ). length l) fingers_are,
        first_few (length gates) w some,
        ap (λ (s : State). length s.gates) state,
        few,
      );
      rounds_few = omega arith;
      turn = omega arith;
    }

-- where it is kept and there is no finger, no run has a redex
pub local_at_end : {cells : List (Option Gate)} {fingers : List ℕ} {rules : List RowView} {w rounds calls phase : ℕ} →
    IsKept cells fingers rules w rounds calls phase → map (rank cells) fingers ≡ [] → Local rules w (live cells)
local_at_end {cells} {fingers} {rules} {w} kept none a b up in_list most redex is =
    ∥∥₁_elim kept.cover (λ x y. absurd x)
    (λ cover. local_without_fingers rules w (state_of cells fingers) (ap (λ (l : List ℕ). length l) none) cover a b up in_list most redex is)

-- what contracts see of a loop with these fields
abbrev pub view_of : List (Option Gate) → List ℕ → List RowView → ℕ → ℕ → ℕ → ℕ → ℕ → LoopView
view_of cells fingers rules w rounds calls phase first = record {
  state = state_of cells fingers;
  cells = length cells;
  omega = w;
  rules = rules;
  rounds = rounds;
  calls = calls;
  phase = phase;
  first_fingers = first;
}

-- where there is no finger, no run of the gates has a redex
pub local_of_view : {cells : List (Option Gate)} {fingers : List ℕ} {rules : List RowView} {w rounds calls phase first : ℕ} {loop : LoopView} {gates : List Gate} →
    IsKept cells fingers rules w rounds calls phase → view_of cells fingers rules w rounds calls phase first ≡ loop → loop.state.fingers ≡ [] →
    gates ≡ live cells → Local loop.rules loop.omega gates
local_of_view {cells} {fingers} {rules} {w} {rounds} {calls} {phase} {first} {loop} {gates} kept seen none gates_are =
    let P : LoopView → Type 0 = λ v. v.state.fingers ≡ [] → Local v.rules v.omega v.state.gates in
    let here : Local loop.rules loop.omega loop.state.gates = subst P seen (λ empty. local_at_end kept empty) none in
    let same : loop.state.gates ≡ gates = sym (gates_are ∙ ap (λ (v : LoopView). v.state.gates) seen) in
    subst (Local loop.rules loop.omega) same here

-- What contracts see of a loop before a round, and its state after: nothing was overlooked, and nothing is.
pub record IsAfter (rules : List RowView) (w : ℕ) (before : LoopView) (after : State) (step : Step) : Type 0 where
  pub same : (n : ℕ) → IsCircuit n before.state.gates → Same n before.state.gates after.gates step.phase
  pub covered : IsCovered before × ∥ Cover rules w after ∥₁
  pub bound : length after.fingers + 2 * length after.gates + step.selected ≤ length before.state.fingers + 2 * length before.state.gates
  pub some : 0 < step.selected

-- what a round makes of what contracts see
pub after_of_view : {old : List (Option Gate)} {fingers : List ℕ} {rules : List RowView} {w rounds calls phase first : ℕ} {loop : LoopView} {after : State} {step : Step} →
    IsKept old fingers rules w rounds calls phase → view_of old fingers rules w rounds calls phase first ≡ loop → 0 < length loop.state.fingers →
    Round rules w (state_of old fingers) after step → IsAfter rules w loop after step
after_of_view {old} {fingers} {rules} {w} {rounds} {calls} {phase} {first} {loop} {after} {step} kept seen some is =
    let before : State = state_of old fingers in
    let least : 0 < w = omega (arith, kept.omega_is.least) in
    let P : LoopView → Type 0 = λ v. 0 < length v.state.fingers → IsAfter rules w v after step in
    subst P seen
    (λ has. record {
      same = λ n circuit. round_same rules w before after step n least kept.sound kept.is_state is circuit;
      covered = (kept.cover, ∥∥₁_map kept.cover (cover_after rules w before after step least kept.sound kept.is_state is));
      bound = round_falls rules w before after step least kept.sound kept.is_state is;
      some = round_selects rules w before after step is has;
    }) some

-- what a round makes of what a loop keeps
pub kept_of_view : {old new : List (Option Gate)} {fingers moved : List ℕ} {rules : List RowView} {w rounds calls phase first : ℕ} {loop : LoopView} {step : Step} →
    IsKept old fingers rules w rounds calls phase → view_of old fingers rules w rounds calls phase first ≡ loop → 0 < length loop.state.fingers →
    Round rules w (state_of old fingers) (state_of new moved) step → All (λ place. IsTrue (stands new place)) moved → length new ≤ length old →
    IsKept new moved rules w (rounds + 1) (calls + step.selected) ((phase + step.phase) % 8)
kept_of_view kept seen some is stand size =
    kept_after kept (omega (arith, ap (λ (v : LoopView). length v.state.fingers) seen, some)) is stand size
