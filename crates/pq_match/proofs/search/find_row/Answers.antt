use Rattle.std.proofs.Common.{◌≡◌, ℕ, false, List, [], ◌∷◌, length, get_or, refl, sym, subst}
use Rattle.pq_gate.specs.declared.gate.Gate.{Gate}
use Rattle.pq_match.specs.Found.{IsFoundAmong}
use Rattle.pq_match.specs.Search.{HasNoFull, IsFirstFull, IsOfRow}
use Rattle.pq_match.proofs.SearchNear.{none_near}
use Rattle.pq_match.proofs.SearchRow.{none_of_row, first_of_row}
use Rattle.pq_match.proofs.search.find_row.Goals as goal

pub returns-then-not-near-kind : goal.returns-then-not-near-kind
returns-then-not-near-kind c =
    none_of_row c.args.rules.now c.args.gates.now c.args.number c.args.start c.args.end c.in-Some.row.now (sym c.in-Some.ensures.row) c.in-Some.ensures.sound
    (c.args.start ∷ []) refl (subst (λ (p : List Gate). HasNoFull c.args.gates.now p c.args.end (c.args.start ∷ []) 1) c.pattern-pattern.ensures.pattern
    (none_near c.args.gates.now c.pattern-pattern.result.now c.args.start c.args.end c.nearest_of-second.result c.args.near.now (c.args.start ∷ []) refl c.requires.near
    c.nearest_of-second.ensures.some c.if-second-pattern.true c.nearest_of-second.ensures.others (c.nearest_of-second.ensures.uses c.if-second-pattern.true)
    (subst (λ (k : ℕ). get_or c.args.near.now k false ≡ false) c.kind.ensures.kind c.if-not-near-kind.true)))

pub returns-in_default-extend_by_kind : goal.returns-in_default-extend_by_kind
returns-in_default-extend_by_kind c =
    none_of_row c.args.rules.now c.args.gates.now c.args.number c.args.start c.args.end c.in-Some.row.now (sym c.in-Some.ensures.row) c.in-Some.ensures.sound
    (c.args.start ∷ 0 ∷ 0 ∷ 0 ∷ 0 ∷ 0 ∷ 0 ∷ 0 ∷ []) refl (subst (λ (p : List Gate). HasNoFull c.args.gates.now p c.args.end (c.args.start ∷ 0 ∷ 0 ∷ 0 ∷ 0 ∷ 0 ∷ 0 ∷ 0 ∷ []) 1) c.pattern-pattern.ensures.pattern c.in_default-extend_by_kind.ensures)

pub returns : goal.returns
returns c =
    let found = c.in-Some-extend_by_kind.ensures in
    subst (λ (p : List Gate). IsFoundAmong (IsOfRow c.args.number c.args.start c.args.end) c.args.rules.now c.args.gates.now
    (record { row = c.args.number; count = length p; places = c.in-Some-extend_by_kind.places })) (sym c.pattern-pattern.ensures.pattern)
    (first_of_row c.args.rules.now c.args.gates.now c.args.number c.args.start c.args.end c.in-Some.row.now (sym c.in-Some.ensures.row) c.in-Some.ensures.sound
    (c.args.start ∷ 0 ∷ 0 ∷ 0 ∷ 0 ∷ 0 ∷ 0 ∷ 0 ∷ []) refl c.requires.end c.in-Some-extend_by_kind.places (subst (λ (p : List Gate). IsFirstFull c.args.gates.now p c.args.end (c.args.start ∷ 0 ∷ 0 ∷ 0 ∷ 0 ∷ 0 ∷ 0 ∷ 0 ∷ []) 1 c.in-Some-extend_by_kind.places) c.pattern-pattern.ensures.pattern found))
