-- A board is opened with word 0 at 0, whatever it was.
use Rattle.std.proofs.Common.{◌≡◌, ◌≢◌, ℕ, zero, suc, ◌+◌, ◌/◌, ◌^◌, ◌≤◌, List, [], ◌∷◌, length, drop, set, get_or, refl, sym, ap, ◌∙◌, subst, arith, length-set, get_or-set_same, get_or-set_other}
use Rattle.std.specs.Prelude.{All, Contains}
use Rattle.std.specs.List.{concat}
use Rattle.std.specs.List.Sorted.{IsStrictlyIncreasing}
use Rattle.std.proofs.lemmas.Nat.{pow_pos}
use Rattle.pq_limits.specs.declared.TheConstants.{MAX_JOBS}
use Rattle.pq_limits.specs.Limits.{AreWorkers}
use Rattle.pq_array.specs.Counts.{Counts, HalvesTo, HowMany}
use Rattle.pq_board.specs.Ways.{live_leaves, live_from}
use Rattle.pq_board.specs.Law.{IsPlan, Lawful}
use Rattle.pq_board.specs.Steps.{unused}
use Rattle.pq_board.specs.declared.plan.Plan.{Plan}
use Rattle.pq_board.proofs.Keeping.{opens}

-- word 0 is no part of what is counted
pub counts_first : (words live : List ℕ) (x : ℕ) → Counts words live → Counts (set words 0 x) live
counts_first words live x counts = record {
  height = counts.height;
  size = length-set words 0 x ∙ counts.size;
  in_order = counts.in_order;
  in_range = counts.in_range;
  counted = λ node low lt.
      let apart : node ≢ 0 = omega arith in
      subst (HowMany (λ place. HalvesTo (2 ^ counts.height + place) node) live) (sym (get_or-set_other words 0 node x 0 apart)) (counts.counted node low lt);
}

drop_set : (words : List ℕ) (n x : ℕ) → 1 ≤ n → drop n (set words 0 x) ≡ drop n words
drop_set [] n x low = refl
drop_set (w ∷ ws) zero x low = absurd (omega arith)
drop_set (w ∷ ws) (suc n) x low = refl

pub leaves_first : (words : List ℕ) (x : ℕ) → 2 ≤ length words → live_leaves (set words 0 x) ≡ live_leaves words
leaves_first words x long =
    ap (λ (n : ℕ). live_from 0 (drop (n / 2) (set words 0 x))) (length-set words 0 x)
    ∙ ap (λ (l : List ℕ). live_from 0 l) (drop_set words (length words / 2) x (omega arith))

-- there are at least two words
pub long_enough : (words live : List ℕ) → Counts words live → 2 ≤ length words
long_enough words live counts = omega (arith, counts.size, pow_pos counts.height)

-- what a board is opened with
pub plan_of : (plan : Plan) (words : List ℕ) → plan.words.items ≡ set words 0 0 → length plan.jobs ≤ MAX_JOBS → AreWorkers plan.passes → Counts words (live_leaves words) →
    IsStrictlyIncreasing (concat plan.jobs) → All (Contains (live_leaves words)) (concat plan.jobs) → IsPlan plan
plan_of plan words is few passes counts rising live =
    let leaves : live_leaves plan.words.items ≡ live_leaves words = ap (λ (w : List ℕ). live_leaves w) is ∙ leaves_first words 0 (long_enough words (live_leaves words) counts) in
    record {
      few = few;
      passes = passes;
      tree = rw leaves (rw is (counts_first words (live_leaves words) 0 counts));
      rising = rising;
      live = rw leaves live;
    }

-- its law holds at once
pub opened_law : (plan : Plan) (words : List ℕ) → plan.words.items ≡ set words 0 0 → 2 ≤ length words → IsPlan plan → Lawful plan plan.words.items (unused plan plan.passes ∷ [])
opened_law plan words is long plan_is = opens plan plan_is (ap (λ (w : List ℕ). get_or w 0 0) is ∙ get_or-set_same words 0 0 0 (omega arith))

-- and what was there comes back
pub put_back : (words : List ℕ) → set (set words 0 0) 0 (get_or words 0 0) ≡ words
put_back [] = refl
put_back (w ∷ ws) = refl
