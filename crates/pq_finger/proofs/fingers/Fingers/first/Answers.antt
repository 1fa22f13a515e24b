use Rattle.std.proofs.Common.{◌≡◌, ℕ, ◌*◌, ◌<◌, List, [], ◌∷◌, ◌++◌, sym, ap, ◌∙◌, arith}
use Rattle.std.proofs.lemmas.List.FromFn.{map-range_with_len_more}
use Rattle.pq_gaps.specs.Gaps.{first_fingers}
use Rattle.pq_gaps.proofs.Multiples.{multiples_rise, first_is}
use Rattle.pq_finger.proofs.fingers.Fingers.first.Goals as goal

pub push_reserved-requires : goal.push_reserved-requires
push_reserved-requires c = omega (arith, c.loop-number.invariant.count, c.loop-number.invariant.capacity, c.loop-number-test.true)

pub loop-number-preserved : goal.loop-number-preserved
loop-number-preserved c = record {
  places = c.push_reserved.ensures.items ∙
      (ap (λ (r : List ℕ). r ++ c.loop-number.number * c.from-omega.result ∷ []) c.loop-number.invariant.places ∙
      sym (map-range_with_len_more (λ k. k * c.from-omega.result) 0 c.loop-number.number c.loop-number.number (omega arith)));
  count = omega (arith, c.push_reserved.ensures.len, c.loop-number.invariant.count);
  capacity = c.push_reserved.ensures.capacity ∙ c.loop-number.invariant.capacity;
}

pub invariant_of-result : goal.invariant_of-result
invariant_of-result c =
    let some : 0 < c.from-omega.result = omega (arith, c.from-omega.ensures, c.requires.least) in
    rw c.loop-number.invariant.places (multiples_rise c.from-omega.result c.loop-number.number some)

pub returns : goal.returns
returns c =
    let all : c.loop-number.number ≡ c.div_ceil-count.result = omega (arith, c.loop-number-test.false, c.loop-number.auto.number-end) in
    c.loop-number.invariant.places ∙
    (first_is c.args.live c.from-omega.result c.loop-number.number (all ∙ c.div_ceil-count.ensures) ∙
    ap (first_fingers c.args.live) c.from-omega.ensures)
