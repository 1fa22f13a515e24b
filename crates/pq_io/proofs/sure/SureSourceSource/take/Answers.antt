use Rattle.std.proofs.Common.{length, ap, arith, ◌∙◌, sym}
use Rattle.pq_io.proofs.Pieces.{Copies, Copies-front, Copies-end}
use Rattle.pq_io.proofs.sure.SureSourceSource.take.Goals as goal

pub returns-clause-bytes : goal.returns-clause-bytes
returns-clause-bytes c =
    let items = c.as_slice.result.now in
    let at = c.self.inside.at in
    let copied = c.copy_front-count.new.into in
    let count = c.copy_front-count.result in
    let copies : Copies items c.args.into.now copied at c.self.inside.step count = record {
      within = omega (arith, c.self.invariant, ap length c.as_slice.ensures);
      some = omega (arith, c.self.invariant);
      number = c.copy_front-count.ensures.count;
      bytes = c.copy_front-count.ensures.copied;
    } in
    let front = Copies-front items c.args.into.now copied at c.self.inside.step count copies in
    let end = Copies-end items c.args.into.now copied at c.self.inside.step count copies in
    (ap (λ source. source.left) (sym c.self.view_is) ∙ rw c.as_slice.ensures at front, λ none room. rw c.as_slice.ensures at (end c.requires none))
