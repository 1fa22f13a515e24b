use Rattle.std.proofs.Common.{◌≡◌, ℕ, ◌<◌, ◌≤◌, false, List, length, refl, arith}
use Rattle.std.specs.Prelude.{All, ◌↔◌}
use Rattle.pq_gate.specs.declared.gate.Gate.{Gate}
use Rattle.pq_gate.specs.Circuit.{IsCircuit}
use Rattle.pq_gate.specs.Matrix.{Same}
use Rattle.pq_gate.proofs.SameLaws.{same_reflexive, same_transitive}
use Rattle.pq_rules.specs.Row.{RowView, IsSound}
use Rattle.pq_match.specs.Redex.{RedexView, IsRedex, HasNoRedex}
use Rattle.pq_match.specs.Rewrite.{rewritten}
use Rattle.pq_match.proofs.Moving.{rewriting_keeps, rewriting_shortens}
use Rattle.pq_match.proofs.OneFirst.{row_sound}
use Rattle.pq_oracle.specs.Ora.{Answer, Ora, ends, goes}

-- no redex is left
pub clean : (rules : List RowView) (gates : List Gate) (answer : Answer) → Ora rules gates answer → HasNoRedex rules answer.gates
clean rules _ _ (ends gates none) = none
clean rules _ _ (goes gates redex first answer rest) =
    clean rules (rewritten gates first.is.row.replacement redex) answer rest

-- the oracle improves where there is a redex
pub improved : (rules : List RowView) (gates : List Gate) (answer : Answer) → Ora rules gates answer →
    answer.improved ≡ false ↔ HasNoRedex rules gates
improved rules _ _ (ends gates none) = (λ same. none, λ free. refl)
improved rules _ _ (goes gates redex first answer rest) = (λ same. absurd (cc), λ free. absurd (free redex first.is))

-- and elsewhere changes nothing
pub unchanged : (rules : List RowView) (gates : List Gate) (answer : Answer) → Ora rules gates answer →
    answer.improved ≡ false → (answer.gates ≡ gates) × (answer.phase ≡ 0)
unchanged rules _ _ (ends gates none) same = (refl, refl)
unchanged rules _ _ (goes gates redex first answer rest) same = absurd (cc)

pub phase : (rules : List RowView) (gates : List Gate) (answer : Answer) → Ora rules gates answer → answer.phase < 8
phase rules _ _ (ends gates none) = omega arith
phase rules _ _ (goes gates redex first answer rest) = omega arith

-- the row of a redex is sound
pub sound_row : (rules : List RowView) (gates : List Gate) (redex : RedexView) (is : IsRedex rules gates redex) → All IsSound rules → IsSound is.row
sound_row rules gates redex is sound = row_sound rules redex.row is.row is.numbered sound

-- each step shortens
pub shorter : (rules : List RowView) (gates : List Gate) (answer : Answer) → All IsSound rules → Ora rules gates answer →
    length answer.gates ≤ length gates
shorter rules _ _ sound (ends gates none) = omega arith
shorter rules _ _ sound (goes gates redex first answer rest) =
    let step : length (rewritten gates first.is.row.replacement redex) < length gates =
    rewriting_shortens rules gates redex first.is (sound_row rules gates redex first.is sound) in
    let later : length answer.gates ≤ length (rewritten gates first.is.row.replacement redex) =
    shorter rules (rewritten gates first.is.row.replacement redex) answer sound rest in
    omega arith

-- each step turns the matrix back by the row's phase
pub same : (rules : List RowView) (gates : List Gate) (answer : Answer) (n : ℕ) → All IsSound rules → Ora rules gates answer →
    IsCircuit n gates → Same n gates answer.gates answer.phase
same rules _ _ n sound (ends gates none) circuit = same_reflexive n gates circuit
same rules _ _ n sound (goes gates redex first answer rest) circuit =
    let new : List Gate = rewritten gates first.is.row.replacement redex in
    let step : Same n gates new first.is.row.phase =
    rewriting_keeps rules gates redex first.is n (sound_row rules gates redex first.is sound) circuit in
    same_transitive n first.is.row.phase answer.phase gates new answer.gates step (same rules new answer n sound rest step.right)
