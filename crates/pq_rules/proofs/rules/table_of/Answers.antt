use Rattle.std.proofs.Common.{List, ap, ◌∙◌, get_or, arith}
use Rattle.pq_rules.specs.Seen.{entry_of}
use Rattle.pq_rules.proofs.SeenLaws.{table_more}
use Rattle.pq_rules.proofs.rules.table_of.Goals as goal

pub loop-entry-preserved : goal.loop-entry-preserved
loop-entry-preserved c = record {
  len = omega arith;
  capacity = c.push_reserved.ensures.capacity ∙ c.loop-entry.invariant.capacity;
  numbers = λ k near far d below less.
      ap (λ (xs : List _). (get_or xs (entry_of k near far) d).items) c.push_reserved.ensures.items
      ∙ table_more (λ x. x.items) c.args.rows.now c.loop-entry.table.items c.loop-entry.entry c.in_ok-numbers_admitting.field-0 d c.seen_numbered-near.result c.seen_numbered-far.result
      (omega arith) c.seen_numbered-near.ensures c.seen_numbered-far.ensures c.in_ok-numbers_admitting.ensures (λ k one other. c.loop-entry.invariant.numbers k one other d) k near far below less;
}
