use Rattle.std.proofs.Common.{◌++◌, codes, decimal, ap, ◌∙◌, arith}
use Rattle.pq_write.proofs.Reports.{five_left, reported}
use Rattle.pq_write.proofs.Room.{room_left, short_digits}
use Rattle.pq_write.proofs.report.push_report.Goals as goal

pub put_number-requires-6 : goal.put_number-requires-6
put_number-requires-6 c =
    let five = five_left c.args.out.now c.put_number.new.out c.put_number-2.new.out c.put_number-3.new.out c.put_number-4.new.out c.put_number-5.new.out c.args.report (omega arith) (omega arith) (omega arith) (omega arith) (omega arith)
    c.put_number.ensures.items c.put_number.ensures.room c.put_number-2.ensures.items c.put_number-2.ensures.room c.put_number-3.ensures.items c.put_number-3.ensures.room c.put_number-4.ensures.items c.put_number-4.ensures.room c.put_number-5.ensures.items c.put_number-5.ensures.room c.requires.room
    in
    record { room = omega (arith, five, short_digits c.from.result (omega (arith, c.from.ensures))) }

pub put-requires : goal.put-requires
put-requires c =
    let five = five_left c.args.out.now c.put_number.new.out c.put_number-2.new.out c.put_number-3.new.out c.put_number-4.new.out c.put_number-5.new.out c.args.report (omega arith) (omega arith) (omega arith) (omega arith) (omega arith)
    c.put_number.ensures.items c.put_number.ensures.room c.put_number-2.ensures.items c.put_number-2.ensures.room c.put_number-3.ensures.items c.put_number-3.ensures.room c.put_number-4.ensures.items c.put_number-4.ensures.room c.put_number-5.ensures.items c.put_number-5.ensures.room c.requires.room
    in
    let six = room_left c.put_number-5.new.out c.put_number-6.new.out (codes "\n// phase " ++ decimal c.from.result) 1 c.put_number-6.ensures.items c.put_number-6.ensures.room (omega (arith, five, short_digits c.from.result (omega (arith, c.from.ensures)))) in
    record { room = omega (arith, six) }

pub returns-clause-items : goal.returns-clause-items
returns-clause-items c =
    let five = c.put_number-5.new.out.items in
    reported _ _ _ _ _ _ _ _ c.args.report c.put_number.ensures.items c.put_number-2.ensures.items c.put_number-3.ensures.items c.put_number-4.ensures.items c.put_number-5.ensures.items
    (c.put_number-6.ensures.items ∙ ap (λ n. five ++ (codes "\n// phase " ++ decimal n)) c.from.ensures) c.put.ensures.items
