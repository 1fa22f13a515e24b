use Rattle.std.proofs.Common.{List, All, subst, take_all}
use Rattle.std.proofs.lemmas.List.Elements.{All-more}
use Rattle.pq_rules.specs.Row.{RowView, IsSound}
use Rattle.pq_rules.proofs.rules.rows_are_sound.Goals as goal

pub loop-row-preserved : goal.loop-row-preserved
loop-row-preserved c =
    All-more IsSound c.args.rows.now c.loop-row.row-index c.row-item.result c.loop-row-test.true c.loop-row.invariant
    (subst IsSound c.row-item.is c.phase-phase.ensures.sound)

pub returns : goal.returns
returns c =
    subst (λ (rows : List RowView). All IsSound rows) (take_all c.loop-row.row-index c.args.rows.now c.loop-row-test.false) c.loop-row.invariant
