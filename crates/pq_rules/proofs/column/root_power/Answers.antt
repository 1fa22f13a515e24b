use Rattle.std.proofs.Common.{◌+◌, sym, subst, ap, ◌∙◌, add-one, arith, rules}
use Rattle.pq_gate.specs.Ring.{one, root}
use Rattle.pq_gate.specs.declared.ring.Ring.{Ring}
use Rattle.pq_rules.specs.Bounds.{IsWithin}
use Rattle.pq_rules.proofs.BoundLaws.{IsWithin-more, IsWithin-one, IsWithin-rooted, pow_grows}
use Rattle.pq_rules.proofs.column.root_power.Goals as goal

pub root_times-power-requires : goal.root_times-power-requires
root_times-power-requires c =
    subst (λ (r : Ring). IsWithin 32768 r) (sym c.loop-root.invariant)
    (IsWithin-more 32768 (IsWithin-rooted 0 c.loop-root.root one IsWithin-one) (pow_grows (c.loop-root.root + 0) 15 (omega arith)))

pub loop-root-preserved : goal.loop-root-preserved
loop-root-preserved c = rw add-one (c.root_times-power.ensures ∙ ap root c.loop-root.invariant)

pub loop-root-init : goal.loop-root-init
unfolding one
loop-root-init c = search rules
