use Rattle.std.proofs.Common.{◌≡◌}
use Rattle.pq_array.proofs.Lowering.{Lowers}
use Rattle.pq_array.proofs.array.GateArray.replace.Given as goal

-- the words count the live cells without the places that are lowered, and the cells are unchanged
abbrev pub invariant-loop-place : goal.invariant-loop-place
invariant-loop-place l = record {
  same : l.self-inside.cells ≡ l.initial.self-inside.cells;
  lowers : Lowers l.initial.self-inside.cells l.initial.self-inside.words.items l.self-inside.words.items l.place-items l.place-index;
}
