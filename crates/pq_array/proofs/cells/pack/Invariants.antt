use Rattle.pq_array.proofs.Flags.{Packs}
use Rattle.pq_array.proofs.cells.pack.Given as goal

-- the gates with a set flag before the place are moved
abbrev pub invariant-loop-place : goal.invariant-loop-place
invariant-loop-place l = Packs l.initial.gates l.gates l.flags l.next l.place
