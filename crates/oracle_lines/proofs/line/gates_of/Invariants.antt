use Rattle.std.proofs.Common.{◌≤◌, vec_len}
use Rattle.pq_limits.specs.declared.TheConstants.{MAX_SEGMENT}
use Rattle.oracle_lines.proofs.line.gates_of.Given as goal

abbrev pub invariant-loop-word : goal.invariant-loop-word
invariant-loop-word l = vec_len l.gates ≤ MAX_SEGMENT
