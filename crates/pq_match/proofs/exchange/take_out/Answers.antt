use Rattle.std.proofs.Common.{rules, arith}
use Rattle.pq_match.proofs.Exchanging.{freed_more, gaps_more, still_there, own_wires}
use Rattle.pq_match.proofs.exchange.take_out.Goals as goal

pub take_gate-requires-clause-own : goal.take_gate-requires-clause-own
take_gate-requires-clause-own c =
    own_wires c.args.wires.now c.args.pattern.now c.loop-index.index _ c.requires.own (omega arith)
    (still_there c.args.slots.now c.loop-index.slots c.args.places.now c.args.wires.now c.args.pattern.now c.loop-index.index c.requires.rising c.requires.count (omega arith)
    (let low = c.requires.inside c.loop-index.index 0 (omega arith) in omega (arith, low, c.requires.end)) c.requires.chosen c.loop-index.invariant.freed)

pub loop-index-preserved : goal.loop-index-preserved
loop-index-preserved c =
    let low = c.requires.inside c.loop-index.index 0 (omega arith) in
    let there =
    still_there c.args.slots.now c.loop-index.slots c.args.places.now c.args.wires.now c.args.pattern.now c.loop-index.index c.requires.rising c.requires.count (omega arith)
    (omega (arith, low, c.requires.end)) c.requires.chosen c.loop-index.invariant.freed in
    record {
      freed = freed_more c.args.slots.now c.loop-index.slots c.take_gate.new.slots c.args.places.now c.loop-index.index (omega arith) (omega (arith, low, c.requires.end)) c.take_gate.ensures.slots
          c.loop-index.invariant.freed;
      whole = c.take_gate.ensures.whole;
      gaps = gaps_more c.loop-index.slots c.take_gate.new.slots c.loop-index.chains c.args.wires.now c.args.pattern.now c.args.end _ c.loop-index.index c.loop-index.gaps c.take_gate.new.gaps
          c.loop-index.invariant.whole c.requires.own (omega arith) low (omega (arith, c.loop-index.invariant.freed.whole, c.requires.end)) there c.take_gate.ensures.slots c.loop-index.invariant.gaps
          c.take_gate.ensures.gaps c.take_gate.ensures.others;
      room = search rules;
    }
