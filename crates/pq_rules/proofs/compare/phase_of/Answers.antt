use Rattle.std.proofs.Common.{ℕ, ◌*◌, ◌+◌, ◌<◌, subst, arith}
use Rattle.pq_rules.specs.Columns.{IsMatrix}
use Rattle.pq_rules.specs.Pairs.{MatchesBelow}
use Rattle.pq_rules.specs.Row.{RowView}
use Rattle.pq_rules.proofs.PairLaws.{matrix_within, same_of_matches, first_of_matches}
use Rattle.pq_rules.proofs.compare.phase_of.Goals as goal

pub matching_phase-requires-clause-within : goal.matching_phase-requires-clause-within
matching_phase-requires-clause-within c =
    matrix_within c.args.wires c.h_gates-2.result c.args.replacement.now c.matrix_of-right.result c.requires.wires.few
    (omega arith) c.matrix_of-right.ensures c.states-size.result c.states-size.ensures.value

pub returns-in-Ok : goal.returns-in-Ok
returns-in-Ok c =
    let row : RowView = record { wires = c.args.wires; pattern = c.args.pattern.now; replacement = c.args.replacement.now; phase = 0 } in
    let left = subst (λ (r : ℕ). IsMatrix c.args.wires r c.args.pattern.now c.matrix_of-left.result) c.h_gates.ensures.is c.matrix_of-left.ensures in
    let right = subst (λ (r : ℕ). IsMatrix c.args.wires r c.args.replacement.now c.matrix_of-right.result) c.h_gates-2.ensures.is c.matrix_of-right.ensures in
    let all = subst (λ (s : ℕ). MatchesBelow c.matrix_of-left.result c.matrix_of-right.result s c.in-Ok.phase (s * s)) c.states-size.ensures.value c.in-Ok.ensures.1 in
    let few : c.in-Ok.phase < 8 = c.in-Ok.ensures.0 in (
      omega arith,
      same_of_matches row c.requires.wires.few c.matrix_of-left.result c.matrix_of-right.result left right c.in-Ok.phase
          c.requires.wires.left c.requires.wires.right all,
    )

pub returns-in-Err : goal.returns-in-Err
returns-in-Err c =
    let row : RowView = record { wires = c.args.wires; pattern = c.args.pattern.now; replacement = c.args.replacement.now; phase = 0 } in
    let left = subst (λ (r : ℕ). IsMatrix c.args.wires r c.args.pattern.now c.matrix_of-left.result) c.h_gates.ensures.is c.matrix_of-left.ensures in
    let right = subst (λ (r : ℕ). IsMatrix c.args.wires r c.args.replacement.now c.matrix_of-right.result) c.h_gates-2.ensures.is c.matrix_of-right.ensures in
    let size_is = c.states-size.ensures.value in
    let inside = subst (λ (s : ℕ). c.in-Err.pair < s * s) size_is c.in-Err.ensures.0 in
    let none = subst (λ (s : ℕ). (k : ℕ) → k < 8 → MatchesBelow c.matrix_of-left.result c.matrix_of-right.result s k (c.in-Err.pair + 1) → ⊥) size_is c.in-Err.ensures.1 in
    let some = subst (λ (s : ℕ). (k : ℕ) × (k < 8) × MatchesBelow c.matrix_of-left.result c.matrix_of-right.result s k c.in-Err.pair) size_is c.in-Err.ensures.2 in
    rw size_is
    (first_of_matches row c.requires.wires.few c.matrix_of-left.result c.matrix_of-right.result left right c.in-Err.pair inside none some)
