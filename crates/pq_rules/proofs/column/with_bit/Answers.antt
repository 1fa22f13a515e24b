use Rattle.std.proofs.Common.{◌<◌, ℕ, ◌-◌, Bool, set, ap, sym, subst, ◌∙◌}
use Rattle.std.specs.Prelude.{bit_and, bit_or}
use Rattle.pq_rules.specs.States.{state}
use Rattle.pq_rules.proofs.StateLaws.{bits_of, range_of}
use Rattle.pq_rules.proofs.column.with_bit.Goals as goal

pub returns-then-value-clause-number : goal.returns-then-value-clause-number
returns-then-value-clause-number c =
    subst (λ (m : ℕ). bit_or c.args.number m < 8) (sym c.mask.ensures.value) (range_of c.args.wire c.args.number c.requires.wire c.requires.number).0

pub returns-then-value-clause-state : goal.returns-then-value-clause-state
returns-then-value-clause-state c = λ n few below.
    ap (λ (m : ℕ). state n (bit_or c.args.number m)) c.mask.ensures.value ∙
    (bits_of n c.args.wire c.args.number few below c.requires.number).high ∙
    sym (ap (λ (p : Bool). set (state n c.args.number) c.args.wire p) c.if-value.true)

pub returns-else-value-clause-state : goal.returns-else-value-clause-state
returns-else-value-clause-state c = λ n few below.
    ap (λ (m : ℕ). state n (bit_and c.args.number (7 - m))) c.mask-else-value.ensures.value ∙
    (bits_of n c.args.wire c.args.number few below c.requires.number).low ∙
    sym (ap (λ (p : Bool). set (state n c.args.number) c.args.wire p) c.if-value.false)
