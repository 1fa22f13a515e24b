use Rattle.std.proofs.Common.{◌≡◌, ◌≤◌, length, take, ◌∙◌, arith}
use Rattle.std.proofs.lemmas.List.{length-take-le}
use Rattle.pq_top.proofs.Pieces.{has_taken_more, gives_too_many, fails_at}
use Rattle.pq_top.proofs.feeding.fed_reader.Goals as goal

pub returns-in-Err-clause-fault : goal.returns-in-Err-clause-fault
returns-in-Err-clause-fault g c =
    let i = c.feeding.invariant in
    fails_at (g.S.Source.left c.args.source.now) (g.S.Source.left c.feeding.source) (g.S.Source.left c.take_piece.new.source) (g.S.Source.faults c.args.source.now) (g.S.Source.faults c.feeding.source)
    (g.S.Source.faults c.take_piece.new.source) c.feeding.taken c.feeding.reader i.taken c.in-Err.ensures.keeps i.never_falls c.in-Err.ensures.rose i.fed i.few

pub returns-then-count-taken-clause-fault : goal.returns-then-count-taken-clause-fault
returns-then-count-taken-clause-fault g c =
    let i = c.feeding.invariant in
    let within : c.in-Ok.count ≤ c.min-most.result = c.in-Ok.ensures.within in
    let long : length c.take_piece.new.room ≡ 65536 = omega (arith, c.take_piece.auto.room, i.room) in
    gives_too_many (g.S.Source.left c.args.source.now) (g.S.Source.left c.feeding.source) (g.S.Source.left c.take_piece.new.source) c.feeding.reader c.take_piece.new.room c.in-Ok.count
    i.taken c.in-Ok.ensures.taken (omega (arith, c.min-most.ensures, within, long)) (omega (arith, c.min-most.ensures, within, c.if-count-taken.true, i.fed, i.few))

pub feeding-preserved : goal.feeding-preserved
feeding-preserved g c =
    let i = c.feeding.invariant in
    let within : c.in-Ok.count ≤ c.min-most.result = c.in-Ok.ensures.within in
    let long : length c.take_piece.new.room ≡ 65536 = omega (arith, c.take_piece.auto.room, i.room) in
    let piece : length (take c.in-Ok.count c.take_piece.new.room) ≡ c.in-Ok.count = length-take-le c.in-Ok.count c.take_piece.new.room (omega (arith, c.min-most.ensures, within, long)) in
    record {
      room = omega (arith, c.take_piece.auto.room, i.room);
      taken = has_taken_more (g.S.Source.left c.args.source.now) (g.S.Source.left c.feeding.source) (g.S.Source.left c.take_piece.new.source) c.feeding.reader c.in_ok-reader-in-Ok.reader
          (take c.in-Ok.count c.take_piece.new.room) i.taken c.in-Ok.ensures.taken c.in_ok-reader-in-Ok.ensures.text;
      fed = omega (arith, c.in_ok-reader-in-Ok.ensures.fed, i.fed, piece);
      few = omega (arith, c.if-count-taken.false, i.few);
      options = c.in_ok-reader-in-Ok.ensures.options ∙ i.options;
      never_falls = omega (arith, c.take_piece.ensures.never_falls, i.never_falls);
    }
