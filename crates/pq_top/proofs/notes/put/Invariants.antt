use Rattle.std.proofs.Common.{◌≤◌, take, flat_map}
use Rattle.std.specs.Io.KnownBytes.{Appends}
use Rattle.pq_top.specs.Notes.{piece_text}
use Rattle.pq_top.proofs.notes.put.Given as goal

-- the pieces so far were put
abbrev pub invariant-loop-piece : goal.invariant-loop-piece
invariant-loop-piece g l = record {
  put : Appends (g.N.Sink.held l.fn.notes) (g.N.Sink.held l.notes) (flat_map piece_text (take l.piece-index l.pieces));
  never_falls : g.N.Sink.faults l.fn.notes ≤ g.N.Sink.faults l.notes;
}
