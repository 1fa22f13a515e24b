use Rattle.std.proofs.Common.{◌≤◌, length}
use Rattle.pq_lex.proofs.ends.before_line.Given as goal

abbrev pub invariant-bytes : goal.invariant-bytes
invariant-bytes l = l.left ≤ length l.text

abbrev pub decreases-bytes : goal.decreases-bytes
decreases-bytes l = l.left
