use Rattle.std.proofs.Common.{◌≡◌, ◌+◌, take}
use Rattle.pq_rules.specs.Kinds.{numbers_where}
use Rattle.pq_rules.specs.Seen.{is_admitting}
use Rattle.pq_rules.proofs.rules.numbers_admitting.Given as goal

abbrev pub invariant-loop-row : goal.invariant-loop-row
invariant-loop-row l = record {
  numbers : l.numbers.items ≡ numbers_where (is_admitting l.of_kind l.near l.far) 1 (take l.row-index l.rows);
  number : l.number ≡ l.row-index + 1;
}
