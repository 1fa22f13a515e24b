-- Each kind of step on the table keeps the law, and tells what it is said to tell.
use Rattle.std.proofs.Common.{◌≡◌, ℕ, suc, ◌+◌, ◌-◌, ◌%◌, ◌^◌, ◌<◌, ◌≤◌, List, [], ◌∷◌, ◌++◌, length, set, get_or, refl, sym, subst, arith}
use Rattle.std.specs.Prelude.{All, Contains}
use Rattle.std.proofs.lemmas.List.{set-get_or}
use Rattle.std.proofs.lemmas.Nat.{pow_pos}
use Rattle.std.proofs.lemmas.List.Elements.{Contains-get_or}
use Rattle.atomic_table.specs.Table.{State, Me, keeps, Allows, Splits, Joins}
use Rattle.atomic_table.proofs.Lists.{set_again}
use Rattle.pq_board.specs.Ways.{way}
use Rattle.pq_board.specs.Law.{IsPlan, Lawful, leaves, job, nodes_at, spent}
use Rattle.pq_board.specs.Steps.{unused, without_rights, with_ticket, with_lowered, with_both, at_nodes, Looked}
use Rattle.pq_board.specs.declared.plan.Plan.{Plan}
use Rattle.pq_board.specs.declared.plan.View.{View}
use Rattle.pq_board.proofs.Keeping.{ticket_below, few_drawn, looked, claims, splits, lowers, lowers_room, joins}

-- there are at least two words
pub plan_words : (plan : Plan) → IsPlan plan → 2 ≤ length plan.words.items
plan_words plan is = omega (arith, is.tree.size, pow_pos is.tree.height)

-- and at least one leaf
pub plan_leaves : (plan : Plan) → IsPlan plan → 1 ≤ leaves plan
plan_leaves plan is = omega (arith, plan_words plan is)

-- the law, as a fact of a table
abbrev pub Keeps : Plan → State (Unit {0}) View → Type 0
Keeps plan s = Lawful plan s.words s.views

-- a table's law is that of the pass's plan
pub own : (plan : Plan) (v : View) (words : List ℕ) (views : List View) → plan ≡ v.plan → Lawful plan words views → Lawful v.plan words views
own plan v words views same law = subst (λ (p : Plan). Lawful p words views) same law

pub back : (plan : Plan) (v : View) (words : List ℕ) (views : List View) → plan ≡ v.plan → Lawful v.plan words views → Lawful plan words views
back plan v words views same law = subst (λ (p : Plan). Lawful p words views) (sym same) law

pub claim_allowed : (plan : Plan) (slots id : ℕ) (me : Me (Unit {0}) View) → plan ≡ me.0.plan → 1 ≤ me.0.rights →
    Allows (Keeps plan) slots id me 0 (λ n. (n + 1) % 2 ^ 64)
    (λ found after. (after.0 ≡ with_ticket found me.0) × (after.1 ≡ me.1) × All (λ before. before < found) me.0.tickets)
claim_allowed plan slots id me same right s law homes at fits =
    let v : View = me.0 in
    let n : ℕ = get_or s.words 0 0 in
    let its : Lawful v.plan s.words s.views = own plan v s.words s.views same law in
    let few : n ≤ length plan.jobs + plan.passes = few_drawn plan s.words s.views law in
    let next : (n + 1) % 2 ^ 64 ≡ suc n = omega (arith, law.opened.few, law.opened.passes.most) in
    let long : 0 < length s.words = omega (arith, law.size, plan_words plan law.opened) in (
      with_ticket n v,
      keeps,
      tt,
      rw next (back plan v (set s.words 0 (suc n)) (set s.views id (with_ticket n v)) same (claims s.words s.views id v its at right long)),
      (refl, refl, λ k d lt. ticket_below v.plan s.words s.views id v its at (get_or v.tickets k d) (Contains-get_or v.tickets k d lt)),
    )

pub look_allowed : (plan : Plan) (slots id : ℕ) (me : Me (Unit {0}) View) → plan ≡ me.0.plan →
    Allows (Keeps plan) slots id me 0 (λ n. n) (λ found after. (after.0 ≡ me.0) × (after.1 ≡ me.1) × Looked me.0 found)
look_allowed plan slots id me same s law homes at fits =
    let v : View = me.0 in
    let its : Lawful v.plan s.words s.views = own plan v s.words s.views same law in
    let words : set s.words 0 (get_or s.words 0 0) ≡ s.words = set-get_or s.words 0 0 in
    let views : set s.views id v ≡ s.views = set_again s.views id v at in
    (v, keeps, tt, rw (words, views) law, (refl, refl, looked s.words s.views id v its at))

pub lower_allowed : (plan : Plan) (slots id : ℕ) (me : Me (Unit {0}) View) (ticket place node : ℕ) (rest : List ℕ) → plan ≡ me.0.plan → 1 ≤ node → Contains me.0.tickets ticket →
    ticket < length me.0.plan.jobs → Contains (job me.0.plan ticket) place → nodes_at place me.0.lowered ++ node ∷ rest ≡ way (leaves me.0.plan) place →
    Allows (Keeps plan) slots id me node (λ n. (n + (2 ^ 64 - 1)) % 2 ^ 64)
    (λ found after. (after.0 ≡ with_lowered (at_nodes ticket place (node ∷ [])) me.0) × (after.1 ≡ me.1))
lower_allowed plan slots id me ticket place node rest same low held early there next s law homes at fits =
    let v : View = me.0 in
    let n : ℕ = get_or s.words node 0 in
    let its : Lawful v.plan s.words s.views = own plan v s.words s.views same law in
    let room : 1 ≤ n = lowers_room s.words s.views id v ticket place node rest its at low held there next in
    let less : (n + (2 ^ 64 - 1)) % 2 ^ 64 ≡ n - 1 = omega arith in (
      with_lowered (at_nodes ticket place (node ∷ [])) v,
      keeps,
      tt,
      rw less
          (back plan v (set s.words node (n - 1)) (set s.views id (with_lowered (at_nodes ticket place (node ∷ [])) v)) same
          (lowers s.words s.views id v ticket place node (n - 1) rest its at low held early there next (omega arith))),
      (refl, refl),
    )

pub split_allowed : (plan : Plan) (id : ℕ) (v : View) (rights : ℕ) → plan ≡ v.plan → 1 ≤ rights → rights < v.rights →
    Splits (Keeps plan) id v (without_rights rights v) (unused v.plan rights)
split_allowed plan id v rights same few less s law at =
    back plan v s.words (set s.views id (without_rights rights v) ++ unused v.plan rights ∷ []) same
    (splits s.words s.views id v rights (own plan v s.words s.views same law) at few less)

pub join_allowed : (plan : Plan) (id : ℕ) (v : View) (other : ℕ) (w : View) → plan ≡ v.plan → plan ≡ w.plan → Joins (Keeps plan) id v other w (with_both v w) spent
join_allowed plan id v other w same too s law at apart there = joins plan s.words s.views id other v w law at apart there (sym same) (sym too)
