use Rattle.pq_match.proofs.Exchanging.{gap_here, own_put}
use Rattle.std.proofs.Common.{true, false}
use Rattle.pq_match.proofs.exchange.put_gate.Goals as goal

pub insert-requires-clause-wires : goal.insert-requires-clause-wires
insert-requires-clause-wires c = own_put c.args.wires.now c.args.gate c.rename.result c.rename.ensures c.requires.own

pub insert-requires-clause-first : goal.insert-requires-clause-first
insert-requires-clause-first c =
    gap_here c.args.slots.now c.args.place c.args.end c.args.wires.now c.args.gaps.now c.args.gate c.rename.result false c.first_wire-one.result c.requires.run c.requires.place c.requires.own
    c.requires.gaps c.rename.ensures c.first_wire-one.ensures

pub insert-requires-clause-last : goal.insert-requires-clause-last
insert-requires-clause-last c =
    gap_here c.args.slots.now c.args.place c.args.end c.args.wires.now c.args.gaps.now c.args.gate c.rename.result true c.last_wire-other.result c.requires.run c.requires.place c.requires.own
    c.requires.gaps c.rename.ensures c.last_wire-other.ensures
