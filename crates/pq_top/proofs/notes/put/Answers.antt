use Rattle.std.proofs.Common.{arith}
use Rattle.std.proofs.lemmas.List.{take_all}
use Rattle.pq_top.proofs.Noting.{around, noted_stop, noted_all}
use Rattle.pq_top.specs.Notes.{piece_text}
use Rattle.pq_top.proofs.notes.put.Goals as goal

pub returns-in-Err : goal.returns-in-Err
returns-in-Err g c =
    noted_stop _ _ _ _ _ _ _ _ _ _ _ (around piece_text c.args.pieces.now c.loop-piece.piece-index _ c.loop-piece-test.true) c.loop-piece.invariant.put
    c.loop-piece.invariant.never_falls c.in-Err.ensures.answer

pub returns : goal.returns
returns g c = let e = take_all c.loop-piece.piece-index c.args.pieces.now (omega arith) in noted_all _ _ _ _ _ (rw e at c.loop-piece.invariant.put)
