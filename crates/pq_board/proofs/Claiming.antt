-- What the answer of a claim says.
use Rattle.std.proofs.Common.{◌≡◌, ℕ, ◌-◌, ◌<◌, ◌≤◌, Bool, true, false, cond, ltb, Some, None, [], ◌∷◌, ◌++◌, length, refl, sym, ap, ◌∙◌, subst, arith}
use Rattle.std.specs.Prelude.{All, Contains}
use Rattle.std.proofs.lemmas.Bool.Decides.{nat_tests}
use Rattle.std.proofs.lemmas.List.Elements.{Contains-push}
use Rattle.pq_board.specs.Steps.{Claimed}
use Rattle.pq_board.specs.declared.plan.View.{View}

-- a ticket that is answered has a job, and no right is lost
pub record Drawn (old new : View) (ticket : ℕ) : Type 0 where
  pub early : ticket < length old.plan.jobs
  pub plan : new.plan ≡ old.plan
  pub rights : new.rights ≡ old.rights
  pub tickets : new.tickets ≡ old.tickets ++ ticket ∷ []
  pub lowered : new.lowered ≡ old.lowered
  pub greatest : All (λ before. before < ticket) old.tickets
  pub held : Contains new.tickets ticket

-- one that isn't has none, and a right is lost
pub record DrawnLate (old new : View) : Type 0 where
  pub ticket : ℕ
  pub late : length old.plan.jobs ≤ ticket
  pub plan : new.plan ≡ old.plan
  pub rights : new.rights ≡ old.rights - 1
  pub tickets : new.tickets ≡ old.tickets ++ ticket ∷ []
  pub lowered : new.lowered ≡ old.lowered
  pub greatest : All (λ before. before < ticket) old.tickets

some_is : (b : Bool) (t u : ℕ) → Some t ≡ cond b (Some u) None → (b ≡ true) × (t ≡ u)
some_is true t u e = (refl, cc)
some_is false t u e = absurd (cc)

none_is : (b : Bool) (u : ℕ) → None ≡ cond b (Some u) None → b ≡ false
none_is true u e = absurd (cc)
none_is false u e = refl

lt_of : (u k : ℕ) → ltb u k ≡ true → u < k
lt_of u k e = grind (arith, nat_tests)

le_of : (u k : ℕ) → ltb u k ≡ false → k ≤ u
le_of u k e = grind (arith, nat_tests)

pub claimed_some : (old new : View) (ticket : ℕ) → Claimed old (Some ticket) new → Drawn old new ticket
claimed_some old new ticket c =
    let is = some_is (ltb c.ticket (length old.plan.jobs)) ticket c.ticket c.answer_is in
    subst (λ (t : ℕ). Drawn old new t) (sym is.1)
    (record {
      early = lt_of c.ticket (length old.plan.jobs) is.0;
      plan = ap (λ (v : View). v.plan) c.new_is;
      rights = ap (λ (v : View). v.rights) c.new_is ∙ ap (λ (b : Bool). cond b old.rights (old.rights - 1)) is.0;
      tickets = ap (λ (v : View). v.tickets) c.new_is;
      lowered = ap (λ (v : View). v.lowered) c.new_is;
      greatest = c.greatest;
      held = subst (λ (v : View). Contains v.tickets c.ticket) (sym c.new_is) (Contains-push old.tickets c.ticket);
    })

pub claimed_none : (old new : View) → Claimed old None new → DrawnLate old new
claimed_none old new c =
    let is = none_is (ltb c.ticket (length old.plan.jobs)) c.ticket c.answer_is in
    record {
      ticket = c.ticket;
      late = le_of c.ticket (length old.plan.jobs) is;
      plan = ap (λ (v : View). v.plan) c.new_is;
      rights = ap (λ (v : View). v.rights) c.new_is ∙ ap (λ (b : Bool). cond b old.rights (old.rights - 1)) is;
      tickets = ap (λ (v : View). v.tickets) c.new_is;
      lowered = ap (λ (v : View). v.lowered) c.new_is;
      greatest = c.greatest;
    }
