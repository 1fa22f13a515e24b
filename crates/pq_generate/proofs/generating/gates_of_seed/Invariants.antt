use Rattle.std.proofs.Common.{◌≡◌, ◌-◌, ◌++◌, length}
use Rattle.rand_core.specs.Steps.{stream_of}
use Rattle.rand_xoshiro.specs.SplitMix64.{splitmix_steps}
use Rattle.pq_generate.specs.Generated.{gates_from}
use Rattle.pq_generate.proofs.Words.{gates_of}
use Rattle.pq_generate.proofs.generating.gates_of_seed.Given as goal

abbrev pub invariant-loop-number : goal.invariant-loop-number
invariant-loop-number l = record {
  room : l.list.room ≡ l.fn.gates;
  count : length l.list.items ≡ l._number;
  made : gates_from l.fn.gates l.fn.qubits l.fn.seed ≡ l.list.items ++ gates_of (l.fn.gates - l._number) l.fn.qubits (stream_of splitmix_steps l.words);
}
