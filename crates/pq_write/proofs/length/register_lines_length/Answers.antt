use Rattle.std.proofs.Common.{map, arith}
use Rattle.pq_text.specs.Print.{register_line}
use Rattle.pq_read.specs.Environment.{register_view}
use Rattle.pq_write.proofs.Listing.{length_more, viewed, inside}
use Rattle.pq_write.proofs.length.register_lines_length.Goals as goal

pub overflow_add-sum : goal.overflow_add-sum
overflow_add-sum c =
    let items = c.args.registers.now in
    let i = c.loop-register.register-index in
    let r = c.register-item.result in
    let more = length_more (register_line c.args.word.now) (map register_view items) i (register_view r) c.loop-register.sum c.register_line_length-sum.result (inside register_view items i c.loop-register-test.true) (viewed register_view items i r c.loop-register-test.true c.register-item.is) c.loop-register.invariant c.register_line_length-sum.ensures in
    omega (arith, more.within)

pub loop-register-preserved : goal.loop-register-preserved
loop-register-preserved c =
    let items = c.args.registers.now in
    let i = c.loop-register.register-index in
    let r = c.register-item.result in
    let more = length_more (register_line c.args.word.now) (map register_view items) i (register_view r) c.loop-register.sum c.register_line_length-sum.result (inside register_view items i c.loop-register-test.true) (viewed register_view items i r c.loop-register-test.true c.register-item.is) c.loop-register.invariant c.register_line_length-sum.ensures in
    more.count
