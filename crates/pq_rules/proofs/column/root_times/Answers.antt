use Rattle.std.proofs.Common.{arith}
use Rattle.std.proofs.lemmas.Int.{ints}
use Rattle.pq_gate.specs.Ring.{root}
use Rattle.pq_gate.proofs.RingLaws.{same_numbers}
use Rattle.pq_rules.proofs.column.root_times.Goals as goal

pub returns : goal.returns
unfolding root
returns c = same_numbers _ _ (omega (arith, ints)) (omega (arith, ints)) (omega (arith, ints)) (omega (arith, ints))
