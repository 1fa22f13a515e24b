use Rattle.std.proofs.Common.{◌-◌, length, drop, arith, length-take, length-drop}
use Rattle.pq_io.proofs.Pieces.{Appends-more}
use Rattle.pq_io.proofs.whole.write_whole.Goals as goal

pub putting-preserved : goal.putting-preserved
putting-preserved g c =
    let text = c.args.text.now in
    let sent = c.putting.sent in
    record {
      within = omega (arith, c.in-Ok.ensures.bound, length-take (length text - sent) (drop sent text), length-drop sent text);
      put = Appends-more _ _ _ text sent c.in-Ok.count c.putting.invariant.put c.in-Ok.ensures.bytes;
      never_falls = omega (arith, c.putting.invariant.never_falls, c.in-Ok.ensures.never_falls);
    }
