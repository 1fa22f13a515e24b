use Rattle.std.proofs.Common.{map, ◌∙◌}
use Rattle.pq_text.specs.Print.{register_line}
use Rattle.pq_read.specs.Environment.{register_view}
use Rattle.pq_write.proofs.Listing.{appended_more, viewed, inside}
use Rattle.pq_write.proofs.Room.{room_at}
use Rattle.pq_write.proofs.register.push_register_lines.Goals as goal

pub push_register_line-requires : goal.push_register_line-requires
push_register_line-requires c =
    let items = c.args.registers.now in
    let i = c.loop-register.register-index in
    let r = c.register-item.result in
    record { room = room_at (register_line c.args.word.now) (map register_view items) i (register_view r) c.args.out.now c.loop-register.out (inside register_view items i c.loop-register-test.true) (viewed register_view items i r c.loop-register-test.true c.register-item.is) c.requires.room c.loop-register.invariant.items c.loop-register.invariant.room }

pub loop-register-preserved : goal.loop-register-preserved
loop-register-preserved c =
    let items = c.args.registers.now in
    let i = c.loop-register.register-index in
    let r = c.register-item.result in
    record {
      items = appended_more (register_line c.args.word.now) (map register_view items) i (register_view r) c.args.out.now.items c.loop-register.out.items _ (inside register_view items i c.loop-register-test.true) (viewed register_view items i r c.loop-register-test.true c.register-item.is) c.loop-register.invariant.items c.push_register_line.ensures.items;
      room = c.push_register_line.ensures.room ∙ c.loop-register.invariant.room;
    }
