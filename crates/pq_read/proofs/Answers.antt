-- Each text has one answer.
use Rattle.std.proofs.Common.{◌≡◌, ◌⊎◌, ℕ, List, Result, Ok, Err, refl, sym, ◌∙◌, inl, inr}
use Rattle.pq_text.specs.Program.{ProgramView}
use Rattle.pq_read.specs.declared.refusal.Refusal.{Refusal}
use Rattle.pq_read.specs.declared.program.Options.{Options}
use Rattle.pq_read.specs.Reads.{read_of, HasOneAnswer}

ok_same : (p q : ProgramView) → (let r : Result ProgramView Refusal = Ok p in r) ≡ Ok q → p ≡ q
ok_same p q h = cc

err_same : (d e : Refusal) → (let r : Result ProgramView Refusal = Err d in r) ≡ Err e → d ≡ e
err_same d e h = cc

ok_not_err : (p : ProgramView) (e : Refusal) → (let r : Result ProgramView Refusal = Ok p in r) ≡ Err e → ⊥
ok_not_err p e h = cc

some_answer : (r : Result ProgramView Refusal) → ((p : ProgramView) × (r ≡ Ok p)) ⊎ ((fault : Refusal) × (r ≡ Err fault))
some_answer (Ok p) = inl (p, refl)
some_answer (Err e) = inr (e, refl)

pub one_answer : (text : List ℕ) (options : Options) → HasOneAnswer text options
one_answer text options = record {
  some = some_answer (read_of text options);
  one_program = λ p q a b. ok_same p q (sym a ∙ b);
  one_fault = λ d e a b. err_same d e (sym a ∙ b);
  not_both = λ p e a b. ok_not_err p e (sym a ∙ b);
}
