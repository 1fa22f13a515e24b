use Rattle.std.proofs.Common.{List, [], ◌∷◌, refl, sym, subst}
use Rattle.pq_gate.specs.declared.gate.Gate.{Gate}
use Rattle.pq_match.specs.Found.{IsFoundAmong}
use Rattle.pq_match.specs.Seek.{HasNoFullAlike, IsRowAt}
use Rattle.pq_match.specs.Search.{IsFirstFull}
use Rattle.std.proofs.Common.{length}
use Rattle.pq_match.proofs.SeekRow.{none_of_row_alike, first_of_row_alike}
use Rattle.pq_match.proofs.seek.seek_row.Goals as goal

pub returns-in_default-choose_by_kind-clause-finds : goal.returns-in_default-choose_by_kind-clause-finds
returns-in_default-choose_by_kind-clause-finds c =
    none_of_row_alike (c.args.start ∷ 0 ∷ 0 ∷ 0 ∷ 0 ∷ 0 ∷ 0 ∷ 0 ∷ []) (sym c.in-Some.ensures.row) c.in-Some.ensures.sound refl
    (subst (λ (p : List Gate). HasNoFullAlike c.args.gates.now p c.choose_by_kind.new.looked (c.args.start ∷ 0 ∷ 0 ∷ 0 ∷ 0 ∷ 0 ∷ 0 ∷ 0 ∷ []) 1) c.pattern-pattern.ensures.pattern c.in_default-choose_by_kind.ensures.finds)

pub returns-clause-finds : goal.returns-clause-finds
returns-clause-finds c =
    subst (λ (p : List Gate). IsFoundAmong (IsRowAt c.args.number c.args.start) c.args.rules.now c.args.gates.now
    (record { row = c.args.number; count = length p; places = c.in-Some-choose_by_kind.places })) (sym c.pattern-pattern.ensures.pattern)
    (first_of_row_alike (c.args.start ∷ 0 ∷ 0 ∷ 0 ∷ 0 ∷ 0 ∷ 0 ∷ 0 ∷ []) (sym c.in-Some.ensures.row) c.in-Some.ensures.sound refl
    (subst (λ (p : List Gate). IsFirstFull c.args.gates.now p (length c.args.gates.now) (c.args.start ∷ 0 ∷ 0 ∷ 0 ∷ 0 ∷ 0 ∷ 0 ∷ 0 ∷ []) 1 c.in-Some-choose_by_kind.places) c.pattern-pattern.ensures.pattern c.in-Some-choose_by_kind.ensures.finds))
