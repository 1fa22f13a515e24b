-- Which cells are live where some became tombstones.
use Rattle.std.proofs.Common.{◌≡◌, ◌≢◌, ℕ, suc, ◌+◌, Option, Some, None, Bool, true, false, cond, eqb, List, [], ◌∷◌, length, refl, sym, ap, ◌∙◌, subst, arith}
use Rattle.std.specs.Prelude.{Contains}
use Rattle.std.proofs.lemmas.Bool.Decides.{nat_tests}
use Rattle.pq_array.specs.Cells.{IsLive, live_places, live_places_from}
use Rattle.pq_board.specs.Sums.{times}
use Rattle.pq_board.specs.Steps.{without}
use Rattle.pq_board.proofs.Sums.{times_contains}
use Rattle.pq_board.proofs.Ways.{times_none}

-- a number that is among the others is left out, and one that isn't stays
out_of : (x : ℕ) (others xs : List ℕ) → times x others ≢ 0 → without others (x ∷ xs) ≡ without others xs
out_of x others xs is =
    let t : eqb (times x others) 0 ≡ false = grind (arith, nat_tests) in
    ap (λ (b : Bool). cond b (x ∷ without others xs) (without others xs)) t

stays_in : (x : ℕ) (others xs : List ℕ) → times x others ≡ 0 → without others (x ∷ xs) ≡ x ∷ without others xs
stays_in x others xs is =
    let t : eqb (times x others) 0 ≡ true = grind (arith, nat_tests) in
    ap (λ (b : Bool). cond b (x ∷ without others xs) (without others xs)) t

-- The live places, where each cell is live that was live and isn't gone.
pub record Left {A : Type 0} (first : ℕ) (old new : List (Option A)) (gone : List ℕ) : Type 0 where
  pub size : length new ≡ length old
  pub stays : (i : ℕ) → IsLive old i → (Contains gone (first + i) → ⊥) → IsLive new i
  pub was : (i : ℕ) → IsLive new i → IsLive old i
  pub not_gone : (i : ℕ) → IsLive new i → Contains gone (first + i) → ⊥

left_tail : {A : Type 0} (first : ℕ) (c n : Option A) (old new : List (Option A)) (gone : List ℕ) → Left first (c ∷ old) (n ∷ new) gone → Left (first + 1) old new gone
left_tail first c n old new gone l = record {
  size = omega (arith, l.size);
  stays = λ i live not. l.stays (suc i) live (λ at. not (subst (Contains gone) (next i) at));
  was = λ i live. l.was (suc i) live;
  not_gone = λ i live at. l.not_gone (suc i) live (subst (Contains gone) (sym (next i)) at);
}
  where
    next : (i : ℕ) → first + suc i ≡ first + 1 + i
    next i = omega arith

pub left_places : {A : Type 0} (first : ℕ) (old new : List (Option A)) (gone : List ℕ) → Left first old new gone → live_places_from first new ≡ without gone (live_places_from first old)
left_places first [] [] gone l = refl
left_places first [] (n ∷ new) gone l = absurd (omega (arith, l.size))
left_places first (c ∷ old) [] gone l = absurd (omega (arith, l.size))
left_places first (None ∷ old) (None ∷ new) gone l = left_places (first + 1) old new gone (left_tail first None None old new gone l)
left_places first (None ∷ old) (Some b ∷ new) gone l = absurd (let no_cell = l.was 0 refl in cc)
left_places first (Some a ∷ old) (None ∷ new) gone l =
    let there : times first gone ≢ 0 =
    (λ none.
    let live = l.stays 0 refl (λ at. let e : first + 0 ≡ first = omega arith in omega (arith, none, times_contains first gone (subst (Contains gone) e at))) in
    absurd (cc)) in
    left_places (first + 1) old new gone (left_tail first (Some a) None old new gone l) ∙ sym (out_of first gone (live_places_from (first + 1) old) there)
left_places first (Some a ∷ old) (Some b ∷ new) gone l =
    let none : times first gone ≡ 0 =
    times_none first gone (λ at. let e : first ≡ first + 0 = omega arith in l.not_gone 0 refl (subst (Contains gone) e at)) in
    ap (λ (ps : List ℕ). first ∷ ps) (left_places (first + 1) old new gone (left_tail first (Some a) (Some b) old new gone l))
    ∙ sym (stays_in first gone (live_places_from (first + 1) old) none)

-- from the first cell on
pub cells_left : {A : Type 0} (old new : List (Option A)) (gone : List ℕ) → length new ≡ length old →
    ((place : ℕ) → IsLive old place → (Contains gone place → ⊥) → IsLive new place) →
    ((place : ℕ) → IsLive new place → IsLive old place × (Contains gone place → ⊥)) → live_places new ≡ without gone (live_places old)
cells_left old new gone size stays was =
    left_places 0 old new gone
    (record {
      size = size;
      stays = λ i live not. stays i live (λ at. not (subst (Contains gone) (from_zero i) at));
      was = λ i live. (was i live).0;
      not_gone = λ i live at. (was i live).1 (subst (Contains gone) (sym (from_zero i)) at);
    })
  where
    from_zero : (i : ℕ) → i ≡ 0 + i
    from_zero i = omega arith
