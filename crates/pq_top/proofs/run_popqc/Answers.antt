use Rattle.pq_top.specs.Device.{moved}
use Rattle.pq_top.proofs.Statuses.{done_comes, made_comes, not_4, not_5}
use Rattle.pq_top.proofs.Logging.{log_follows, log_rounds, log_stays}
use Rattle.pq_top.proofs.run_popqc.Goals as goal

pub returns-clause-done_comes : goal.returns-clause-done_comes
returns-clause-done_comes g c = λ options asks calm quiet.
    done_comes c.work-answer.result c.status.result _ (moved g.S.Source.left g.S.Source.faults c.args.source.now c.work-answer.new.source)
    (moved g.K.Sink.held g.K.Sink.faults c.args.sink.now c.work-answer.new.sink) options c.status.ensures c.work-answer.ensures.means asks calm quiet

pub returns-clause-made_comes : goal.returns-clause-made_comes
returns-clause-made_comes g c = λ asks quiet.
    made_comes c.work-answer.result c.status.result _ (moved g.S.Source.left g.S.Source.faults c.args.source.now c.work-answer.new.source)
    (moved g.K.Sink.held g.K.Sink.faults c.args.sink.now c.work-answer.new.sink) c.status.ensures c.work-answer.ensures.means asks quiet

pub returns-clause-no_read_fault : goal.returns-clause-no_read_fault
returns-clause-no_read_fault g c = λ never.
    not_4 c.work-answer.result c.status.result _ (moved g.S.Source.left g.S.Source.faults c.args.source.now c.work-answer.new.source)
    (moved g.K.Sink.held g.K.Sink.faults c.args.sink.now c.work-answer.new.sink) c.status.ensures c.work-answer.ensures.means (never _ _)

pub returns-clause-no_write_fault : goal.returns-clause-no_write_fault
returns-clause-no_write_fault g c = λ never.
    not_5 c.work-answer.result c.status.result _ (moved g.S.Source.left g.S.Source.faults c.args.source.now c.work-answer.new.source)
    (moved g.K.Sink.held g.K.Sink.faults c.args.sink.now c.work-answer.new.sink) c.status.ensures c.work-answer.ensures.means (never _ _)

pub returns-clause-log : goal.returns-clause-log
returns-clause-log g c = λ either.
    log_rounds c.work-answer.result c.status.result _ (moved g.S.Source.left g.S.Source.faults c.args.source.now c.work-answer.new.source)
    _ _ c.status.ensures c.work-answer.ensures.log either

pub returns-clause-log_keeps : goal.returns-clause-log_keeps
returns-clause-log_keeps g c =
    log_follows c.work-answer.result _ (moved g.S.Source.left g.S.Source.faults c.args.source.now c.work-answer.new.source)
    _ _ c.work-answer.ensures.log

pub returns-clause-log_unchanged : goal.returns-clause-log_unchanged
returns-clause-log_unchanged g c = λ not_0 not_5 not_6.
    log_stays c.work-answer.result c.status.result _ (moved g.S.Source.left g.S.Source.faults c.args.source.now c.work-answer.new.source)
    _ _ c.status.ensures c.work-answer.ensures.log not_0 not_5 not_6
