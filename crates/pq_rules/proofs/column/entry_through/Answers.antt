use Rattle.std.proofs.Common.{arith, subst, sym}
use Rattle.pq_gate.specs.declared.ring.Ring.{Ring}
use Rattle.pq_rules.specs.Bounds.{IsWithin}
use Rattle.pq_rules.proofs.BoundLaws.{IsWithin-more, IsWithin-turned_if}
use Rattle.pq_rules.proofs.column.entry_through.Goals as goal

pub added-requires-clause-first : goal.added-requires-clause-first
added-requires-clause-first c = IsWithin-more 32768 (c.requires.rest c.with_bit.result c.with_bit.ensures.number) (omega arith)

pub added-requires-clause-second : goal.added-requires-clause-second
added-requires-clause-second c =
    subst (λ (r : Ring). IsWithin 32768 r) (sym c.turned_where.ensures)
    (IsWithin-turned_if c.has_bit.result 4 (IsWithin-more 32768 (c.requires.rest c.with_bit-in-H.result c.with_bit-in-H.ensures.number) (omega arith)))
