use Rattle.std.proofs.Common.{set, sym, subst, true, false}
use Rattle.pq_gate.specs.declared.gate.Gate.{Gate}
use Rattle.pq_links.specs.Wires.{wire_of}
use Rattle.pq_links.specs.Places.{gate_at}
use Rattle.pq_links.specs.Slots.{IsGap}
use Rattle.pq_links.proofs.Linking.{sides_at, gap_on_first, gap_on_last}
use Rattle.pq_links.proofs.chains.unlink.Goals as goal

pub returns-clause-first : goal.returns-clause-first
returns-clause-first c = λ valid.
    subst (λ (g : Gate). IsGap (set c.args.slots.now c.args.place g) (wire_of false (gate_at c.args.slots.now c.args.place)) c.args.place (sides_at c.args.previous.now c.args.place).first (sides_at c.args.next.now c.args.place).first)
    (sym c.cx.ensures) (gap_on_first c.args.slots.now c.args.place c.args.next.now c.args.previous.now c.requires.few c.requires.place c.requires.chained valid)

pub returns-clause-last : goal.returns-clause-last
returns-clause-last c = λ valid.
    subst (λ (g : Gate). IsGap (set c.args.slots.now c.args.place g) (wire_of true (gate_at c.args.slots.now c.args.place)) c.args.place (sides_at c.args.previous.now c.args.place).second (sides_at c.args.next.now c.args.place).second)
    (sym c.cx.ensures) (gap_on_last c.args.slots.now c.args.place c.args.next.now c.args.previous.now c.requires.few c.requires.place c.requires.chained valid)
