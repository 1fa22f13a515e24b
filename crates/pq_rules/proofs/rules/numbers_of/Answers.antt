use Rattle.std.proofs.Common.{ap, ◌∙◌, arith}
use Rattle.pq_rules.specs.Kinds.{begins}
use Rattle.pq_rules.specs.Row.{RowView}
use Rattle.pq_rules.proofs.KindLaws.{number_pushed}
use Rattle.pq_rules.proofs.rules.numbers_of.Goals as goal

pub loop-row-preserved : goal.loop-row-preserved
loop-row-preserved c = record {
  numbers = number_pushed (λ row. begins c.args.of_kind row.pattern) c.args.rows.now c.loop-row.row-index c.loop-row.number c.row-item.result c.loop-row.numbers.items _ c.starts.result
      c.loop-row-test.true c.loop-row.invariant.number c.loop-row.invariant.numbers
      (c.starts.ensures ∙ ap (λ (row : RowView). begins c.args.of_kind row.pattern) c.row-item.is) c.in_ok-push_where.ensures;
  number = omega arith;
}
