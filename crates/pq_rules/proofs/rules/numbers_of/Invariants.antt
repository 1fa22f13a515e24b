use Rattle.std.proofs.Common.{◌≡◌, ◌+◌, take}
use Rattle.pq_rules.specs.Kinds.{numbers_starting}
use Rattle.pq_rules.proofs.rules.numbers_of.Given as goal

abbrev pub invariant-loop-row : goal.invariant-loop-row
invariant-loop-row l = record {
  numbers : l.numbers.items ≡ numbers_starting l.of_kind 1 (take l.row-index l.rows);
  number : l.number ≡ l.row-index + 1;
}
