use Rattle.std.proofs.Common.{arith}
use Rattle.pq_read.specs.Environment.{view}
use Rattle.pq_write.proofs.Bounds.{quantum, classical, print_short}
use Rattle.pq_write.proofs.program.text_with_room.Goals as goal

pub of-requires-clause-each : goal.of-requires-clause-each
of-requires-clause-each c = rw c.as_slice.ensures (quantum (view c.args.program.now) c.requires.well_formed)

pub of-requires-2-clause-each : goal.of-requires-2-clause-each
of-requires-2-clause-each c = rw c.as_slice-2.ensures (classical (view c.args.program.now) c.requires.well_formed)

pub overflow_add-room : goal.overflow_add-room
overflow_add-room c =
    let short = print_short (view c.args.program.now) c.requires.well_formed in
    omega (arith, c.text_length.ensures)
