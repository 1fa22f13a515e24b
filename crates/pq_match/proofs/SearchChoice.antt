use Rattle.std.proofs.Common.{◌≡◌, ℕ, zero, suc, ◌<◌, List, [], ◌∷◌, ◌++◌, length, get_or, refl, sym, subst, arith, inl, inr, ◌⊎◌, length-append}
use Rattle.std.proofs.Math.ListN.{get_or-append}
use Rattle.std.proofs.lemmas.Bool.{cases_order}
use Rattle.std.proofs.lemmas.List.{get_or_push}

-- a list with, for each number below n, something that goes with it
pub record IsChoice (Q : ℕ → ℕ → Type 0) (n : ℕ) : Type 0 where
  pub choice : List ℕ
  pub whole : length choice ≡ n
  pub each : (w : ℕ) → w < n → Q w (get_or choice w 0)

choice_more : (Q : ℕ → ℕ → Type 0) (n : ℕ) → IsChoice Q n → (v : ℕ) → Q n v → IsChoice Q (suc n)
choice_more Q n so_far v goes = record {
  choice = so_far.choice ++ v ∷ [];
  whole = (let e : length so_far.choice ≡ n = so_far.whole in omega (arith, length-append so_far.choice (v ∷ [])));
  each = λ w below. each w below (cases_order w n);
}
  where
    each : (w : ℕ) → w < suc n → (w ≡ n) ⊎ ((w < n) ⊎ (n < w)) → Q w (get_or (so_far.choice ++ v ∷ []) w 0)
    each w below (inl same) =
        subst (λ (k : ℕ). Q k (get_or (so_far.choice ++ v ∷ []) k 0)) (sym same)
        (subst (Q n) (sym (get_or_push so_far.choice v 0 n so_far.whole)) goes)
    each w below (inr (inl less)) =
        let e : length so_far.choice ≡ n = so_far.whole in
        subst (Q w) (sym (get_or-append so_far.choice (v ∷ []) 0 w (omega arith))) (so_far.each w less)
    each w below (inr (inr more)) = absurd (omega arith)

-- what can be chosen for each number can be chosen for all of them
pub choose : (Q : ℕ → ℕ → Type 0) (n : ℕ) → ((w : ℕ) → w < n → (v : ℕ) × Q w v) → IsChoice Q n
choose Q zero can = record { choice = []; whole = refl; each = λ w below. absurd (omega arith) }
choose Q (suc n) can =
    let last : (v : ℕ) × Q n v = can n (omega arith) in
    choice_more Q n (choose Q n (λ w below. can w (omega arith))) last.0 last.1
