use Rattle.std.proofs.Common.{◌≡◌, ◌++◌, ◌∙◌, sym, subst}
use Rattle.std.proofs.lemmas.Result.{IfOk-weaker, IfOk-at_ok}
use Rattle.pq_board.specs.declared.plan.View.{View}
use Rattle.pq_round.specs.Workers.{HasDone}
use Rattle.pq_round.proofs.Working.{done_both}
use Rattle.pq_round.proofs.workers.+workers.Goals as goal

-- what two parts of the workers have done together
pub work_by-returns-clause-done : goal.work_by-returns-clause-done
work_by-returns-clause-done g t c =
    let near = c.in_ok-near.field-0.items in
    let far = c.in_ok-far.field-0.items in
    let cells = c.args.context.now.cells.now in
    let rules = c.args.context.now.rules.now in
    IfOk-weaker c.joined.result (λ list. list.items ≡ near ++ far) (λ list. HasDone cells rules c.join.new.into.view list.items)
    (λ list is. subst (HasDone cells rules c.join.new.into.view) (sym is) (subst (λ (v : View). HasDone cells rules v (near ++ far)) (sym c.join.ensures.both)
    (done_both cells rules c.work_both-near.new.near.view c.work_both-near.new.far.view near far (c.work_both-near.ensures.far_belongs.plan ∙ sym c.work_both-near.ensures.near_belongs.plan)
    (IfOk-at_ok (λ list. HasDone cells rules c.work_both-near.new.near.view list.items) c.in_ok-near.was c.work_both-near.ensures.near_done)
    (IfOk-at_ok (λ list. HasDone cells rules c.work_both-near.new.far.view list.items) c.in_ok-far.was c.work_both-near.ensures.far_done))))
    c.joined.ensures
