use Rattle.std.proofs.Common.{ap, ◌∙◌, arith}
use Rattle.pq_rules.specs.Seen.{is_admitting}
use Rattle.pq_rules.proofs.KindLaws.{number_pushed}
use Rattle.pq_rules.proofs.rules.numbers_admitting.Goals as goal

pub loop-row-preserved : goal.loop-row-preserved
loop-row-preserved c = record {
  numbers = number_pushed (is_admitting c.args.of_kind c.args.near c.args.far) c.args.rows.now c.loop-row.row-index c.loop-row.number c.row-item.result c.loop-row.numbers.items _ c.admits_seen.result
      c.loop-row-test.true c.loop-row.invariant.number c.loop-row.invariant.numbers
      (c.admits_seen.ensures ∙ ap (is_admitting c.args.of_kind c.args.near c.args.far) c.row-item.is) c.in_ok-push_where.ensures;
  number = omega arith;
}
