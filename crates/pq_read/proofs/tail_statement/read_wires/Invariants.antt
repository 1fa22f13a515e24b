use Rattle.std.proofs.Common.{◌≡◌, [], length}
use Rattle.pq_read.specs.After.{barrier_wires}
use Rattle.pq_read.specs.Gives.{left, later}
use Rattle.pq_read.proofs.tail_statement.read_wires.Given as goal

abbrev pub invariant-loop-wires : goal.invariant-loop-wires
invariant-loop-wires l =
    (barrier_wires l.quantum l.wires 0 (left l.lexer) ≡ barrier_wires l.quantum [] 0 (left l.initial.lexer)) × (later l.lexer ≡ later l.initial.lexer)

abbrev pub decreases-loop-wires : goal.decreases-loop-wires
decreases-loop-wires l = length (left l.lexer)
