use Rattle.std.proofs.Common.{◌≡◌, ◌≤◌, length, take, sym, ap, ◌∙◌, arith}
use Rattle.std.proofs.lemmas.List.{with_items_is, take-take}
use Rattle.pq_io.proofs.Pieces.{Consumes-more}
use Rattle.pq_io.proofs.filling.Filling.take_from.Goals as goal

pub returns-in-Ok-clause-bytes : goal.returns-in-Ok-clause-bytes
returns-in-Ok-clause-bytes g c = λ before taken.
    let filled = c.self.inside.filled in
    let old = c.self.inside.buffer in
    let grown = c.make_room.new.buffer in
    let bytes = c.take_at.new.buffer in
    let long : length bytes ≡ grown.len = omega (arith, c.take_at.auto.buffer, ap length c.as_mut_slice.ensures.value, grown.ok.0) in
    let within : filled ≤ old.len = omega (arith, c.self.invariant) in
    let front : take filled bytes ≡ c.args.self.now =
    c.in-Ok.ensures.front ∙ ap (take filled) c.as_mut_slice.ensures.value ∙ sym (take-take filled old.len grown.items within) ∙ ap (take filled) c.make_room.ensures.front ∙ c.self.view_is in
    rw (with_items_is grown bytes long)
    (Consumes-more before _ _ c.args.self.now bytes filled c.in-Ok.count front taken c.in-Ok.ensures.ok)
