use Rattle.std.proofs.Common.{◌≡◌, drop}
use Rattle.pq_rules.specs.Seen.{roles_on}
use Rattle.pq_rules.proofs.seen.first_on.Given as goal

abbrev pub invariant-loop-number : goal.invariant-loop-number
invariant-loop-number l = roles_on l.wire l.gates ≡ roles_on l.wire (drop l.number l.gates)
