use Rattle.std.proofs.Common.{List, subst, sym}
use Rattle.pq_gate.specs.declared.gate.Gate.{Gate}
use Rattle.pq_gate.specs.Circuit.{IsCircuit}
use Rattle.pq_match.specs.Work.{AreGaps, AreFilled}
use Rattle.pq_match.proofs.Placed.{circuit_wider, gaps_replacement, replacement_read, chosen_below}
use Rattle.pq_match.proofs.exchange.exchange.Goals as goal

pub take_out-gaps-requires-clause-inside : goal.take_out-gaps-requires-clause-inside
take_out-gaps-requires-clause-inside c = chosen_below c.args.slots.now c.args.places.now _ c.args.run c.requires.placed.1.matches.rising c.requires.run

pub take_out-gaps-requires-clause-on_wires : goal.take_out-gaps-requires-clause-on_wires
take_out-gaps-requires-clause-on_wires c =
    let sound = c.pattern-pattern.ensures.sound in
    subst (IsCircuit 3) (sym c.pattern-pattern.ensures.pattern) (circuit_wider c.args.row.now.wires 3 sound.wires.few c.args.row.now.pattern sound.wires.left)

pub put_in-requires-clause-on_wires : goal.put_in-requires-clause-on_wires
put_in-requires-clause-on_wires c =
    let sound = c.pattern-pattern.ensures.sound in
    subst (IsCircuit 3) (sym c.replacement-replacement.ensures.replacement) (circuit_wider c.args.row.now.wires 3 sound.wires.few c.args.row.now.replacement sound.wires.right)

pub put_in-requires-clause-gaps : goal.put_in-requires-clause-gaps
put_in-requires-clause-gaps c =
    let read = rw c.pattern-pattern.ensures.pattern at c.read_wires-wires.ensures in
    subst (AreGaps c.take_out-gaps.new.slots c.read_wires-wires.result c.args.run.end c.take_out-gaps.result) (sym c.replacement-replacement.ensures.replacement)
    (gaps_replacement c.args.slots.now c.requires.whole.taken c.args.row.now c.pattern-pattern.ensures.sound c.requires.placed.0 c.args.places.now c.requires.placed.1 c.read_wires-wires.result
    (read c.requires.placed.0 c.requires.placed.1.matches.chosen) c.take_out-gaps.new.slots c.args.run.end c.take_out-gaps.result
    (subst (AreGaps c.take_out-gaps.new.slots c.read_wires-wires.result c.args.run.end c.take_out-gaps.result) c.pattern-pattern.ensures.pattern c.take_out-gaps.ensures.gaps))

pub returns-clause-exchanged : goal.returns-clause-exchanged
returns-clause-exchanged c wires placed =
    let read = rw c.pattern-pattern.ensures.pattern at c.read_wires-wires.ensures in
    let filled = rw c.replacement-replacement.ensures.replacement at c.put_in.ensures.filled in
    record {
      between = c.take_out-gaps.new.slots;
      freed = c.take_out-gaps.ensures.freed;
      filled = subst (λ (gates : List Gate). AreFilled c.take_out-gaps.new.slots c.put_in.new.slots c.args.run.start gates)
          (replacement_read c.args.slots.now c.requires.whole.taken c.args.row.now c.pattern-pattern.ensures.sound wires c.args.places.now placed c.read_wires-wires.result
          (read wires placed.matches.chosen)) filled;
    }
