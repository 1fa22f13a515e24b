use Rattle.std.proofs.Common.{◌≡◌, length, map, take, vec_len, vec_capacity}
use Rattle.pq_rules.specs.Shapes.{rule_row}
use Rattle.pq_rules.proofs.rules.rows_of.Given as goal

abbrev pub invariant-loop-rule : goal.invariant-loop-rule
invariant-loop-rule l = record {
  rows : l.rows.items ≡ map rule_row (take l.rule-index l.rules);
  len : vec_len l.rows ≡ l.rule-index;
  capacity : vec_capacity l.rows ≡ length l.rules;
}
