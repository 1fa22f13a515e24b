use Rattle.std.proofs.Common.{sym, subst, ap, ◌∙◌, add-one}
use Rattle.pq_gate.specs.Ring.{turn}
use Rattle.pq_gate.specs.declared.ring.Ring.{Ring}
use Rattle.pq_rules.specs.Bounds.{IsWithin}
use Rattle.pq_rules.proofs.BoundLaws.{IsWithin-turned}
use Rattle.pq_rules.proofs.column.turned_by.Goals as goal

pub turned_once-turned-requires : goal.turned_once-turned-requires
turned_once-turned-requires c =
    subst (λ (r : Ring). IsWithin 32768 r) (sym c.loop-turn.invariant) (IsWithin-turned c.loop-turn.turn c.requires)

pub loop-turn-preserved : goal.loop-turn-preserved
loop-turn-preserved c = rw add-one (c.turned_once-turned.ensures ∙ ap turn c.loop-turn.invariant)
