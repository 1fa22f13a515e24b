use Rattle.std.proofs.Common.{◌≡◌, ℕ, ◌<◌, ◌%◌, eqb, cond, length, get_or}
use Rattle.pq_rules.specs.Bounds.{zeros}
use Rattle.pq_rules.proofs.column.column_at.Given as goal

abbrev pub invariant-loop-from : goal.invariant-loop-from
invariant-loop-from l = record {
  len : length l.column ≡ 8;
  done : (x : ℕ) → x < l.from → get_or l.column x zeros ≡ cond (eqb (x % l.size) l.to) l.unit zeros;
}
