use Rattle.std.proofs.Common.{ℕ, false, true, ap, subst, ◌∙◌, sym}
use Rattle.pq_links.specs.Links.{bucket_of, side_at, IsLastIn}
use Rattle.pq_links.specs.Places.{gate_at}
use Rattle.pq_links.proofs.Buckets.{back_starts, back_more, other_side, uses_neither, earlier_less}
use Rattle.pq_links.proofs.links.last_before.Goals as goal

pub back-init : goal.back-init
back-init c = back_starts c.args.wire c.args.from c.requires.from

pub back-preserved-then-bucket_in-bucket : goal.back-preserved-then-bucket_in-bucket
back-preserved-then-bucket_in-bucket c =
    back_more c.args.buckets c.args.gates.now c.args.wire c.back.place _ c.requires.few c.back.invariant c.back-test.true
    (uses_neither (gate_at c.args.gates.now c.back.place) c.args.wire _ _ c.first_wire-first.ensures c.last_wire.ensures (c.is_either.ensures.not_first c.if-is_either.false) (c.is_either.ensures.not_second c.if-is_either.false))
    (subst (λ (k : ℕ). IsLastIn c.args.buckets k c.args.gates.now c.back.place (side_at false c.args.before.now c.back.place))
    (ap (λ (w : ℕ). bucket_of c.args.buckets w) (sym c.first_wire-first.ensures) ∙ (sym c.bucket_in.ensures.is ∙ (c.if-bucket_in-bucket.true ∙ c.bucket_in-bucket.ensures.is)))
    (c.requires.before c.back.place false c.back-test.true))

pub back-preserved : goal.back-preserved
back-preserved c =
    back_more c.args.buckets c.args.gates.now c.args.wire c.back.place _ c.requires.few c.back.invariant c.back-test.true
    (uses_neither (gate_at c.args.gates.now c.back.place) c.args.wire _ _ c.first_wire-first.ensures c.last_wire.ensures (c.is_either.ensures.not_first c.if-is_either.false) (c.is_either.ensures.not_second c.if-is_either.false))
    (subst (λ (k : ℕ). IsLastIn c.args.buckets k c.args.gates.now c.back.place (side_at true c.args.before.now c.back.place))
    (other_side c.args.buckets (bucket_of c.args.buckets c.args.wire) (gate_at c.args.gates.now c.back.place) (c.back.invariant.«in» c.back-test.true)
    (λ same. c.if-bucket_in-bucket.false (c.bucket_in.ensures.is ∙ (ap (λ (w : ℕ). bucket_of c.args.buckets w) c.first_wire-first.ensures ∙ (same ∙ sym c.bucket_in-bucket.ensures.is)))))
    (c.requires.before c.back.place true c.back-test.true))

pub back-smaller-then-bucket_in-bucket : goal.back-smaller-then-bucket_in-bucket
back-smaller-then-bucket_in-bucket c = earlier_less c.requires.few c.back-test.true (c.requires.before c.back.place false c.back-test.true)
