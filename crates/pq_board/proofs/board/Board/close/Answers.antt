use Rattle.std.proofs.Common.{◌≡◌, ℕ, List, ◌+◌, ◌-◌, length, get_or, ap, ◌∙◌, subst, arith}
use Rattle.std.specs.Mem.Slots.{slots_items}
use Rattle.pq_board.specs.Law.{leaves, stake, late}
use Rattle.pq_board.specs.Steps.{AreWhole, early, lowered_places}
use Rattle.pq_board.specs.declared.plan.Plan.{Plan}
use Rattle.pq_board.specs.declared.plan.View.{View}
use Rattle.pq_board.proofs.Closing.{Closes, closes, closing_follow}
use Rattle.pq_board.proofs.Whole.{hold_all, early_late}
use Rattle.pq_board.proofs.board.Board.close.Goals as goal
use Rattle.pq_board.proofs.board.Board.close.Goals.{After-put_words}

-- the pass has the whole stake
all_of : (c : After-put_words) → stake c.self.inside.plan c.pass.inside.seat.me.0 ≡ c.self.inside.plan.passes
all_of c = rw (← c.self.view_is, ← c.pass.view_is) at c.requires.alone

-- what it knows
known : (c : After-put_words) → Closes c.self.inside.plan c.pass.inside.seat.me.0 c.put_words.new.words.items
known c =
    let belongs = rw (← c.self.view_is, ← c.pass.view_is) at c.requires.belongs in
    let v : View = c.pass.inside.seat.me.0 in
    let ways : AreWhole (leaves c.self.inside.plan) v.lowered = subst (λ (p : Plan). AreWhole (leaves p) v.lowered) belongs.plan c.pass.invariant.2 in
    rw c.put_words.ensures.items
    (closes c.self.inside.plan c.self.inside.table.shared.key c.pass.inside.seat.id v (slots_items c.close_with-last.result.words) (slots_items c.close_with-last.result.slots)
    c.self.invariant.0 belongs.plan (all_of c) ways c.close_with-last.ensures.values.2)

pub put_words-requires-clause-follow : goal.put_words-requires-clause-follow
put_words-requires-clause-follow c =
    let belongs = rw (← c.self.view_is, ← c.pass.view_is) at c.requires.belongs in
    let alone = rw (← c.self.view_is, ← c.pass.view_is) at c.requires.alone in
    let plan : Plan = c.self.inside.plan in
    let v : View = c.pass.inside.seat.me.0 in
    let ways : AreWhole (leaves plan) v.lowered = subst (λ (p : Plan). AreWhole (leaves p) v.lowered) belongs.plan c.pass.invariant.2 in
    closing_follow plan (slots_items c.close_with-last.result.words) (lowered_places v.lowered)
    (closes plan c.self.inside.table.shared.key c.pass.inside.seat.id v (slots_items c.close_with-last.result.words) (slots_items c.close_with-last.result.slots)
    c.self.invariant.0 belongs.plan alone ways c.close_with-last.ensures.values.2).counts

-- no more tickets are late than were drawn
pub receipt_of-receipt-requires-clause-few : goal.receipt_of-receipt-requires-clause-few
receipt_of-receipt-requires-clause-few c =
    let now = (goal.at.receipt_of-receipt-requires-clause-few c).After-put_words in
    let v : View = c.pass.inside.seat.me.0 in
    let plan : Plan = c.self.inside.plan in
    let all : v.rights + late plan v.tickets ≡ plan.passes = all_of now in
    let rights : c.pass.inside.rights ≡ v.rights = c.pass.invariant.0 in
    omega (arith, c.from.ensures, (known now).drawn, early_late plan v.tickets)

pub returns-clause-drawn : goal.returns-clause-drawn
returns-clause-drawn c = rw (← c.pass.view_is) (known (goal.at.returns-clause-drawn c).After-put_words).drawn

pub returns-clause-counts : goal.returns-clause-counts
returns-clause-counts c = rw (← c.self.view_is, ← c.pass.view_is) (known (goal.at.returns-clause-counts c).After-put_words).counts

pub returns-clause-tree : goal.returns-clause-tree
returns-clause-tree c = rw (← c.self.view_is, ← c.pass.view_is) (known (goal.at.returns-clause-tree c).After-put_words).tree

pub returns-clause-first : goal.returns-clause-first
returns-clause-first c = rw (← c.pass.view_is) (known (goal.at.returns-clause-first c).After-put_words).first

pub returns-clause-all : goal.returns-clause-all
returns-clause-all c = rw (← c.self.view_is, ← c.pass.view_is)
    (hold_all c.self.inside.plan c.pass.inside.seat.me.0.tickets (known (goal.at.returns-clause-all c).After-put_words).first)

pub returns-clause-receipt : goal.returns-clause-receipt
returns-clause-receipt c =
    let now = (goal.at.returns-clause-receipt c).After-put_words in
    let v : View = c.pass.inside.seat.me.0 in
    let plan : Plan = c.self.inside.plan in
    let all : v.rights + late plan v.tickets ≡ plan.passes = all_of now in
    let rights : c.pass.inside.rights ≡ v.rights = c.pass.invariant.0 in
    let claimed : get_or c.put_words.new.words.items 0 0 - c.from.result ≡ early plan v.tickets = omega (arith, c.from.ensures, (known now).drawn, early_late plan v.tickets) in
    let opened : get_or c.as_slice.result.now 1 0 ≡ get_or plan.words.items 1 0 = ap (λ (w : List ℕ). get_or w 1 0) c.as_slice.ensures in
    let closing : ℕ = get_or c.put_words.new.words.items 1 0 in
    rw (← c.self.view_is, ← c.pass.view_is)
    (c.receipt_of-receipt.ensures ∙ (λ i. record { jobs = length plan.jobs; claimed = claimed i; opened = opened i; closed = closing }))
