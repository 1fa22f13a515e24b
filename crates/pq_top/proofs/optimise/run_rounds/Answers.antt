use Rattle.std.proofs.Common.{◌∙◌}
use Rattle.std.specs.Prelude.{IfOk}
use Rattle.std.proofs.lemmas.Result.{IfOk-weaker}
use Rattle.pq_rules.specs.Table.{builtin_rows}
use Rattle.pq_top.proofs.Leading.{first_on_its_way, next_on_its_way, some_finger}
use Rattle.pq_top.proofs.Logging.{logging_follows, logged_at_end, on_ok, same_logging}
use Rattle.pq_top.proofs.Optimising.{IsLeft, left_at_end}
use Rattle.pq_top.proofs.optimise.run_rounds.Given.{Over}
use Rattle.pq_top.proofs.optimise.run_rounds.Goals as goal

pub rounds-init : goal.rounds-init
rounds-init g c =
    let made = c.in_ok-looping.ensures in
    first_on_its_way builtin_rows c.args.omega c.args.gates.items c.args.log.now.items c.in_ok-looping.looping made.state made.omega
    (made.rules ∙ c.in_ok-rules.ensures.rows) made.counts made.first_fingers

pub rounds-preserved : goal.rounds-preserved
rounds-preserved g c =
    let made = c.in_ok-next.ensures in
    next_on_its_way builtin_rows c.args.omega c.args.gates.items c.rounds.looping c.in_ok-next.next c.in_ok-next._step c.in_ok-next.receipt _ c.rounds.log.items _ c.rounds.invariant
    (some_finger c.rounds.looping.state.fingers c.is_done.result c.rounds-test.true c.is_done.ensures.1) made.round made.settings made.rounds made.calls made.phase
    made.receipt c.in_ok-push.ensures.items

left : (g : Over) (c : goal.After-finish g) → IfOk c.finish.result (λ finished. IsLeft c.args.omega c.args.gates.items finished)
left g c =
    left_at_end c.finish.result c.in_ok-rules.rules c.args.omega c.args.gates.items _ _ c.rounds.looping c.requires.omega.least c.in_ok-rules.ensures.rows
    c.count-count.ensures.sound c.rounds.invariant (c.is_done.ensures.0 c.rounds-test.false) c.finish.ensures.gates c.finish.ensures.counts

pub returns-clause-opt : goal.returns-clause-opt
returns-clause-opt g c = IfOk-weaker c.finish.result _ _ (λ finished is. is.opt) (left g c)

pub returns-clause-same : goal.returns-clause-same
returns-clause-same g c = IfOk-weaker c.finish.result _ _ (λ finished is. is.same) (left g c)

pub returns-clause-local : goal.returns-clause-local
returns-clause-local g c = IfOk-weaker c.finish.result _ _ (λ finished is. is.local) (left g c)

pub returns-clause-shorter : goal.returns-clause-shorter
returns-clause-shorter g c = IfOk-weaker c.finish.result _ _ (λ finished is. is.shorter) (left g c)

pub returns-clause-bound : goal.returns-clause-bound
returns-clause-bound g c = IfOk-weaker c.finish.result _ _ (λ finished is. is.bound) (left g c)

pub returns-clause-first_fingers : goal.returns-clause-first_fingers
returns-clause-first_fingers g c = IfOk-weaker c.finish.result _ _ (λ finished counts. counts.3 ∙ c.rounds.invariant.first_fingers_are) c.finish.ensures.counts

pub returns-clause-log : goal.returns-clause-log
returns-clause-log g c = on_ok c.finish.result (logged_at_end c.rounds.invariant (c.is_done.ensures.0 c.rounds-test.false))

pub returns-clause-log_keeps : goal.returns-clause-log_keeps
returns-clause-log_keeps g c = logging_follows c.rounds.invariant

pub returns-in_err-next-clause-log_keeps : goal.returns-in_err-next-clause-log_keeps
returns-in_err-next-clause-log_keeps g c = logging_follows c.rounds.invariant

pub returns-in_err-push-clause-log_keeps : goal.returns-in_err-push-clause-log_keeps
returns-in_err-push-clause-log_keeps g c = same_logging c.rounds.invariant c.in_err-push.ensures.items
