-- What rounds from the first fingers end with.
use Rattle.std.proofs.Common.{◌≡◌, ℕ, ◌+◌, ◌*◌, ◌/◌, ◌%◌, ◌<◌, ◌≤◌, List, [], ◌∷◌, length, refl, sym, subst, arith, inl, inr, ◌⊎◌}
use Rattle.std.specs.Prelude.{All, Contains}
use Rattle.std.proofs.Math.Nat.{mul_comm}
use Rattle.std.proofs.lemmas.Bool.{cases_lt}
use Rattle.std.proofs.lemmas.List.Sums.{sum_by-cons}
use Rattle.pq_gate.specs.declared.gate.Gate.{Gate}
use Rattle.pq_gate.specs.Circuit.{IsCircuit}
use Rattle.pq_gate.specs.Matrix.{Same}
use Rattle.pq_gate.proofs.SameLaws.{same_reflexive, same_transitive}
use Rattle.pq_rules.specs.Row.{RowView, IsSound}
use Rattle.pq_gaps.specs.Gaps.{first_fingers, segment_from, segment_to}
use Rattle.pq_gaps.proofs.Multiples.{first_contains}
use Rattle.pq_method.proofs.OneOpt.{first_is_state}
use Rattle.pq_method.specs.Round.{State, IsState}
use Rattle.pq_method.specs.Opt.{Total, RoundNumbers, numbers_of, calls_of, phase_of, Rounds, done, round, first_state, Opt, Local, Cover}
use Rattle.pq_method.proofs.Joining.{round_same}
use Rattle.pq_method.proofs.Falling.{round_falls, round_selects}
use Rattle.pq_method.proofs.Covering.{state_after, cover_after}
use Rattle.pq_method.proofs.Redexes.{redex_run_long}

-- what one round adds to the numbers of others
pub calls_more : (numbers : RoundNumbers) (rounds : List RoundNumbers) → calls_of (numbers ∷ rounds) ≡ numbers.step.selected + calls_of rounds
calls_more numbers rounds = sum_by-cons (λ (round : RoundNumbers). round.step.selected) numbers rounds

pub phase_more : (numbers : RoundNumbers) (rounds : List RoundNumbers) → phase_of (numbers ∷ rounds) ≡ (numbers.step.phase + phase_of rounds) % 8
phase_more numbers rounds = omega (arith, sum_by-cons (λ (round : RoundNumbers). round.step.phase) numbers rounds)

-- the first fingers overlook nothing
pub first_covers : (rules : List RowView) (w : ℕ) (gates : List Gate) → 0 < w → Cover rules w (first_state w gates)
first_covers rules w gates some a b redex up in_list most is = by (cases_lt ((a / w + 1) * w) (length gates))
  where
    long : a < b
    long = redex_run_long rules gates a b redex is

    whole : w * (a / w) + a % w ≡ a
    whole = omega arith

    left : a % w < w
    left = omega arith

    turned : w * (a / w) ≡ a / w * w
    turned = mul_comm w (a / w)

    more : (a / w + 1) * w ≡ a / w * w + w
    more = omega arith

    by : ((a / w + 1) * w < length gates) ⊎ (length gates ≤ (a / w + 1) * w) →
        (finger : ℕ) × Contains (first_fingers (length gates) w) finger × (segment_from w finger ≤ a) × (b ≤ segment_to w (length gates) finger)
    by (inl inner) = (
      (a / w + 1) * w,
      first_contains (length gates) w ((a / w + 1) * w) some (inner, (a / w + 1, refl)),
      omega (arith, whole, left, turned, more),
      omega (arith, whole, left, turned, more, most, in_list),
    )
    by (inr last) = (
      a / w * w,
      first_contains (length gates) w (a / w * w) some (omega (arith, whole, turned, long, in_list), (a / w, refl)),
      omega (arith, whole, turned),
      omega (arith, more, last, in_list),
    )

-- where nothing is overlooked and there is no finger, no run has a redex
pub local_without_fingers : (rules : List RowView) (w : ℕ) (state : State) → length state.fingers ≡ 0 → Cover rules w state → Local rules w state.gates
local_without_fingers rules w state none cover a b up in_list most redex is =
    let found = cover a b redex up in_list most is in omega (arith, found.1.1, none)

-- so rounds end with gates in which no run has a redex
local_from : (rules : List RowView) (w : ℕ) (before : State) (total : Total) → 0 < w → All IsSound rules → IsState before → Cover rules w before →
    Rounds rules w before total → Local rules w total.gates
local_from rules w _ _ some sound state cover (done gates) = local_without_fingers rules w (record { gates = gates; fingers = [] }) refl cover
local_from rules w _ _ some sound state cover (round before after step total fingers one rest) =
    local_from rules w after total some sound (state_after rules w before after step some sound state one)
    (cover_after rules w before after step some sound state one cover) rest

same_from : (rules : List RowView) (w : ℕ) (before : State) (total : Total) (n : ℕ) → 0 < w → All IsSound rules → IsState before →
    Rounds rules w before total → IsCircuit n before.gates → Same n before.gates total.gates (phase_of total.rounds)
same_from rules w _ _ n some sound state (done gates) circuit = same_reflexive n gates circuit
same_from rules w _ _ n some sound state (round before after step total fingers one rest) circuit =
    let first : Same n before.gates after.gates step.phase = round_same rules w before after step n some sound state one circuit in
    subst (Same n before.gates total.gates) (sym (phase_more (numbers_of before after step) total.rounds))
    (same_transitive n step.phase (phase_of total.rounds) before.gates after.gates total.gates first
    (same_from rules w after total n some sound (state_after rules w before after step some sound state one) rest first.right))

pub opt_local : (rules : List RowView) (w : ℕ) (gates : List Gate) (total : Total) → 0 < w → All IsSound rules →
    Opt rules w gates total → Local rules w total.gates
opt_local rules w gates total some sound opt =
    local_from rules w (first_state w gates) total some sound (first_is_state w gates some) (first_covers rules w gates some) opt

pub opt_same : (rules : List RowView) (w : ℕ) (gates : List Gate) (total : Total) (n : ℕ) → 0 < w → All IsSound rules →
    Opt rules w gates total → IsCircuit n gates → Same n gates total.gates (phase_of total.rounds)
opt_same rules w gates total n some sound opt circuit =
    same_from rules w (first_state w gates) total n some sound (first_is_state w gates some) opt circuit

bound_from : (rules : List RowView) (w : ℕ) (before : State) (total : Total) → 0 < w → All IsSound rules → IsState before →
    Rounds rules w before total → calls_of total.rounds + 2 * length total.gates ≤ length before.fingers + 2 * length before.gates
bound_from rules w _ _ some sound state (done gates) = omega arith
bound_from rules w _ _ some sound state (round before after step total fingers one rest) =
    omega (
      arith,
      calls_more (numbers_of before after step) total.rounds,
      round_falls rules w before after step some sound state one,
      bound_from rules w after total some sound (state_after rules w before after step some sound state one) rest,
    )

-- so the rounds have no more calls than that
pub opt_bound : (rules : List RowView) (w : ℕ) (gates : List Gate) (total : Total) → 0 < w → All IsSound rules →
    Opt rules w gates total → calls_of total.rounds + 2 * length total.gates ≤ length (first_fingers (length gates) w) + 2 * length gates
opt_bound rules w gates total some sound opt =
    bound_from rules w (first_state w gates) total some sound (first_is_state w gates some) opt

-- each round has a call
pub rounds_few : (rules : List RowView) (w : ℕ) (before : State) (total : Total) → Rounds rules w before total →
    length total.rounds ≤ calls_of total.rounds
rounds_few rules w _ _ (done gates) = omega arith
rounds_few rules w _ _ (round before after step total fingers one rest) =
    omega (
      arith,
      calls_more (numbers_of before after step) total.rounds,
      round_selects rules w before after step one fingers,
      rounds_few rules w after total rest,
    )

pub opt_rounds : (rules : List RowView) (w : ℕ) (gates : List Gate) (total : Total) → Opt rules w gates total →
    length total.rounds ≤ calls_of total.rounds
opt_rounds rules w gates total opt = rounds_few rules w (first_state w gates) total opt
