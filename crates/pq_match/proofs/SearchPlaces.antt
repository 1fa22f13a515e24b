use Rattle.std.proofs.Common.{◌≡◌, ℕ, zero, suc, ◌-◌, ◌<◌, ◌≤◌, ◌⊎◌, inl, inr, true, false, List, [], ◌∷◌, length, get_or, take, refl, sym, ap, subst, ◌∙◌, arith}
use Rattle.std.specs.List.{AllPairs}
use Rattle.std.specs.Prelude.{◌==◌}
use Rattle.std.proofs.lemmas.Bool.{cases_order, eqb-true, eq-eqb, ne_eqb}
use Rattle.std.proofs.lemmas.List.{get_or-take}
use Rattle.std.proofs.lemmas.List.Folds.{Any-from_list_any, list_any_at, list_any_none}
use Rattle.std.proofs.lemmas.Grind.{get_or_default_zero}
use Rattle.pq_match.specs.Redex.{last_place, is_chosen}
use Rattle.pq_match.specs.First.{Precedes}
use Rattle.pq_match.specs.Search.{IsPassed, IsBefore}
use Rattle.pq_match.specs.Settled.{StandsAt}

pub last_place_at : (places : List ℕ) → last_place places ≡ get_or places (length places - 1) 0
last_place_at [] = refl
last_place_at (p ∷ []) = refl
last_place_at (p ∷ q ∷ places) = last_place_at (q ∷ places) ∙ ap (λ (k : ℕ). get_or (p ∷ q ∷ places) k 0) e
  where
    e : suc (length (q ∷ places) - 1) ≡ length (p ∷ q ∷ places) - 1
    e = omega arith

-- no place is behind the last one
pub place_upto_last : (places : List ℕ) → AllPairs (λ i j. i < j) places → (s : ℕ) → s < length places → get_or places s 0 ≤ last_place places
place_upto_last places rising s below = by (cases_order s (length places - 1))
  where
    at : last_place places ≡ get_or places (length places - 1) 0
    at = last_place_at places

    by : (s ≡ length places - 1) ⊎ ((s < length places - 1) ⊎ (length places - 1 < s)) → get_or places s 0 ≤ last_place places
    by (inl same) =
        let e : get_or places s 0 ≡ get_or places (length places - 1) 0 = ap (λ (k : ℕ). get_or places k 0) same in
        let l : last_place places ≡ get_or places (length places - 1) 0 = at in omega arith
    by (inr (inl less)) =
        let r : get_or places s 0 < get_or places (length places - 1) 0 = rising s (length places - 1) 0 less (omega arith) in
        let l : last_place places ≡ get_or places (length places - 1) 0 = at in omega arith
    by (inr (inr more)) = absurd (omega arith)

pub place_is_chosen : (places : List ℕ) (s : ℕ) → s < length places → is_chosen places (get_or places s 0) ≡ true
place_is_chosen places s below =
    list_any_at (λ (p : ℕ). p == get_or places s 0) places s 0 below (eq-eqb (get_or places s 0) (get_or places s 0) refl)

pub passed_not_chosen : (places : List ℕ) (place : ℕ) → IsPassed places (length places) place → is_chosen places place ≡ false
passed_not_chosen places place passed =
    list_any_none (λ (p : ℕ). p == place) places
    (λ s d below. ne_eqb (get_or places s d) place (λ same. passed s below (sym (get_or_default_zero places s d below) ∙ same)))

-- where a chosen place stands
pub chosen_stands : (places : List ℕ) (place : ℕ) → is_chosen places place ≡ true → StandsAt places place
chosen_stands places place chosen =
    let found = Any-from_list_any (λ (p : ℕ). p == place) places chosen in
    record {
      at = found.0;
      below = found.2;
      is = sym (get_or_default_zero places found.0 found.1 found.2) ∙ (found.3 ∙ eqb-true found.1 place found.4);
    }

pub not_chosen_passed : (places : List ℕ) (place : ℕ) → is_chosen places place ≡ false → IsPassed places (length places) place
not_chosen_passed places place not_chosen s below same =
    let chosen : is_chosen places place ≡ true = subst (λ (p : ℕ). is_chosen places p ≡ true) same (place_is_chosen places s below) in
    let no : false ≡ true = sym not_chosen ∙ chosen in cc

-- lists as long as each other, of which one comes before the other, differ first at a place
pub before_at : (n : ℕ) (xs ys : List ℕ) → length xs ≡ n → length ys ≡ n → Precedes xs ys → IsBefore n xs ys
before_at n [] ys xs_whole ys_whole before = absurd before
before_at n (x ∷ xs) [] xs_whole ys_whole before = absurd before
before_at n (x ∷ xs) (y ∷ ys) xs_whole ys_whole (inl less) = record {
  at = 0;
  below = omega arith;
  same = λ s below. absurd (omega arith);
  less = less;
}
before_at zero (x ∷ xs) (y ∷ ys) xs_whole ys_whole (inr later) = absurd (omega arith)
before_at (suc n) (x ∷ xs) (y ∷ ys) xs_whole ys_whole (inr later) = later_before n x y xs ys later.0 (before_at n xs ys (omega arith) (omega arith) later.1)
  where
    later_before : (n x y : ℕ) (xs ys : List ℕ) → x ≡ y → IsBefore n xs ys → IsBefore (suc n) (x ∷ xs) (y ∷ ys)
    later_before n x y xs ys same rest = record {
      at = suc rest.at;
      below = (let b : rest.at < n = rest.below in omega arith);
      same = λ s below. by s below;
      less = rest.less;
    }
      where
        by : (s : ℕ) → s < suc rest.at → get_or (x ∷ xs) s 0 ≡ get_or (y ∷ ys) s 0
        by zero below = same
        by (suc s) below = rest.same s (omega arith)

-- the same, where the second list is the prefix of one
pub before_in_front : (n : ℕ) (xs ys : List ℕ) → IsBefore n xs (take n ys) → IsBefore n xs ys
before_in_front n xs ys before = record {
  at = before.at;
  below = before.below;
  same = λ s below. before.same s below ∙ get_or-take n ys s 0 (let b : before.at < n = before.below in omega arith);
  less = subst (λ (p : ℕ). get_or xs before.at 0 < p) (get_or-take n ys before.at 0 before.below) before.less;
}
