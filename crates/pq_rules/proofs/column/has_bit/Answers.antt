use Rattle.std.proofs.Common.{ℕ, ◌/◌, ◌%◌, ap, ◌∙◌, eqb}
use Rattle.pq_rules.proofs.StateLaws.{bits_of}
use Rattle.pq_rules.proofs.column.has_bit.Goals as goal

pub returns : goal.returns
returns c = λ n few below. ap (λ (m : ℕ). eqb (c.args.number / m % 2) 1) c.mask.ensures.value ∙ (bits_of n c.args.wire c.args.number few below c.requires.number).bit
