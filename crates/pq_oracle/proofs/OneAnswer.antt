-- The oracle has one answer to each list of gates.
use Rattle.std.proofs.Common.{◌≡◌, ℕ, zero, suc, ◌<◌, List, length, refl, ap, sym, subst, arith}
use Rattle.std.specs.Prelude.{All, Option, Some, None}
use Rattle.pq_gate.specs.declared.gate.Gate.{Gate}
use Rattle.pq_rules.specs.Row.{RowView, IsSound}
use Rattle.pq_match.specs.Redex.{RedexView, HasNoRedex}
use Rattle.pq_match.specs.First.{IsFirst, FirstWithin}
use Rattle.pq_match.specs.Rewrite.{rewritten}
use Rattle.pq_match.proofs.OneFirst.{one_row, one_first, first_of_all}
use Rattle.pq_match.proofs.SomeFirst.{some_first}
use Rattle.pq_match.proofs.Moving.{rewriting_shortens}
use Rattle.pq_oracle.specs.Ora.{Answer, untouched, after_one, Ora, ends, goes}
use Rattle.pq_oracle.proofs.Answering.{sound_row}

module _ (rules : List RowView) (sound : All IsSound rules) where
  -- one step, where each shorter list has its answer
  some_step : (gates : List Gate) → ((shorter : List Gate) → length shorter < length gates → (answer : Answer) × Ora rules shorter answer) →
      (found : Option RedexView) → FirstWithin rules gates (length gates) found → (answer : Answer) × Ora rules gates answer
  some_step gates before None none = (untouched gates, ends gates (first_of_all rules gates none))
  some_step gates before (Some redex) first =
      let rest = before (rewritten gates first.is.row.replacement redex) (rewriting_shortens rules gates redex first.is (sound_row rules gates redex first.is sound)) in
      (after_one first.is.row.phase rest.0, goes gates redex first rest.0 rest.1)

  some_below : (n : ℕ) (gates : List Gate) → length gates < n → (answer : Answer) × Ora rules gates answer
  some_below zero gates short = absurd (omega arith)
  some_below (suc n) gates short =
      let first = some_first rules gates sound (length gates) in
      some_step gates (λ shorter less. some_below n shorter (omega arith)) first.0 first.1

  pub some_answer : (gates : List Gate) → (answer : Answer) × Ora rules gates answer
  some_answer gates = some_below (suc (length gates)) gates (omega arith)

  one_at_end : {gates : List Gate} {other : Answer} → HasNoRedex rules gates → Ora rules gates other → untouched gates ≡ other
  one_at_end none (ends gates still_none) = refl
  one_at_end none (goes gates redex first answer rest) = absurd (none redex first.is)

  one_step : {gates : List Gate} {other : Answer} (redex : RedexView) (first : IsFirst rules gates (length gates) redex) (answer : Answer) →
      ((next : Answer) → Ora rules (rewritten gates first.is.row.replacement redex) next → answer ≡ next) → Ora rules gates other →
      after_one first.is.row.phase answer ≡ other
  one_step redex first answer same (ends gates none) = absurd (none redex first.is)
  one_step redex first answer same (goes gates found found_first next rest) =
      let one : redex ≡ found = one_first rules gates (length gates) redex found sound first found_first in
      let row : first.is.row ≡ found_first.is.row =
      one_row rules gates redex found first.is found_first.is (ap (λ (r : RedexView). r.row) one) in
      let list : rewritten gates found_first.is.row.replacement found ≡ rewritten gates first.is.row.replacement redex =
      sym (λ i. rewritten gates (row i).replacement (one i)) in
      let answers : answer ≡ next = same next (subst (λ (c : List Gate). Ora rules c next) list rest) in
      λ i. after_one (row i).phase (answers i)

  pub one_answer : {gates : List Gate} {answer other : Answer} → Ora rules gates answer → Ora rules gates other → answer ≡ other
  one_answer (ends gates none) right = one_at_end none right
  one_answer (goes gates redex first answer rest) right = one_step redex first answer (λ next other. one_answer rest other) right
