use Rattle.std.proofs.Common.{◌≡◌, length, map, take, vec_len, vec_capacity}
use Rattle.pq_rules.specs.Lanes.{demands}
use Rattle.pq_rules.proofs.rules.ahead_of.Given as goal

abbrev pub invariant-loop-row : goal.invariant-loop-row
invariant-loop-row l = record {
  ahead : l.ahead.items ≡ map demands (take l.row-index l.rows);
  len : vec_len l.ahead ≡ l.row-index;
  capacity : vec_capacity l.ahead ≡ length l.rows;
}
