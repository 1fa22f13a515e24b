use Rattle.std.proofs.Common.{◌≡◌, ◌≢◌, ℕ, suc, ◌+◌, ◌-◌, ◌/◌, ◌^◌, ◌<◌, ◌≤◌, ◌⊎◌, inl, inr, ⊎_elim, List, length, set, get_or, refl, ap, sym, ◌∙◌, arith, length-set, get_or-set_same, get_or-set_other}
use Rattle.std.proofs.lemmas.Bool.{cases_lt, cases_eq}
use Rattle.std.proofs.lemmas.Nat.{shr_le, shr-shr}
use Rattle.pq_array.specs.Counts.{HalvesTo, IsLowered}

-- On the way up from the leaf of a place: the words of the nodes passed are one less, and no other
-- word changed.
pub record Climbs (width place : ℕ) (old now : List ℕ) (node : ℕ) : Type 0 where
  pub size : length now ≡ length old
  pub halvings : ℕ
  pub is : (width + place) / 2 ^ halvings ≡ node
  pub passed : (v : ℕ) → node < v → HalvesTo (width + place) v → get_or now v 0 + 1 ≡ get_or old v 0
  pub kept : (v : ℕ) → (node < v → HalvesTo (width + place) v → ⊥) → get_or now v 0 ≡ get_or old v 0

-- at the leaf
pub climbs : (width place : ℕ) (old : List ℕ) → Climbs width place old old (width + place)
climbs width place old = record {
  size = refl;
  halvings = 0;
  is = omega arith;
  passed = λ v lt halves. absurd (omega (arith, lt, halves.1, shr_le (width + place) halves.0));
  kept = λ v not_passed. refl;
}

-- what halves to a node, but not later than this one, is not below it
halves_above : (n k t v node : ℕ) → n / 2 ^ k ≡ node → n / 2 ^ t ≡ v → v < node → v ≤ node / 2
halves_above n k t v node is halves lt = ⊎_elim later (λ le. absurd (sooner (k - t) (omega arith))) (cases_lt k t)
  where
    -- fewer halvings leave more
    sooner : (more : ℕ) → k ≡ t + more → ⊥
    sooner more high =
        let split : n / 2 ^ k ≡ n / 2 ^ t / 2 ^ more = ap (λ (x : ℕ). n / 2 ^ x) high ∙ sym (shr-shr n t more) in
        omega (arith, shr_le (n / 2 ^ t) more)

    -- and more leave at most the half
    later : k < t → v ≤ node / 2
    later high =
        let steps : t ≡ k + (1 + (t - suc k)) = omega arith in
        let split : n / 2 ^ t ≡ n / 2 ^ k / 2 ^ (1 + (t - suc k)) = ap (λ (x : ℕ). n / 2 ^ x) steps ∙ sym (shr-shr n k (1 + (t - suc k))) in
        let again : n / 2 ^ k / 2 ^ 1 / 2 ^ (t - suc k) ≡ n / 2 ^ k / 2 ^ (1 + (t - suc k)) = shr-shr (n / 2 ^ k) 1 (t - suc k) in
        let small : n / 2 ^ k / 2 / 2 ^ (t - suc k) ≤ n / 2 ^ k / 2 = shr_le (n / 2 ^ k / 2) (t - suc k) in
        let half : n / 2 ^ k / 2 ≡ node / 2 = ap (λ (x : ℕ). x / 2) is in
        omega arith

-- to the parent
pub climbs_on : {width place : ℕ} {old now : List ℕ} {node : ℕ} → 0 < node → node < length old → 1 ≤ get_or old node 0 → Climbs width place old now node →
    Climbs width place old (set now node (get_or now node 0 - 1)) (node / 2)
climbs_on {width} {place} {old} {now} {node} some inside counted at = record {
  size = length-set now node (get_or now node 0 - 1) ∙ at.size;
  halvings = suc at.halvings;
  is =
      let one_more : at.halvings + 1 ≡ suc at.halvings = omega arith in
      sym (ap (λ (x : ℕ). (width + place) / 2 ^ x) one_more) ∙ (sym (shr-shr (width + place) at.halvings 1) ∙ ap (λ (x : ℕ). x / 2) at.is);
  passed = λ v lt halves. ⊎_elim (here v halves) (λ other. there v lt halves other (cases_lt node v)) (cases_eq v node);
  kept = λ v not_passed.
      ⊎_elim
      (λ same. absurd (not_passed (omega arith) (at.halvings, at.is ∙ sym same)))
      (λ other. get_or-set_other now node v (get_or now node 0 - 1) 0 other ∙ at.kept v (λ lt. not_passed (omega arith)))
      (cases_eq v node);
}
  where
    unchanged : get_or now node 0 ≡ get_or old node 0
    unchanged = at.kept node (λ lt. absurd (omega arith))

    written : get_or (set now node (get_or now node 0 - 1)) node 0 ≡ get_or now node 0 - 1
    written = get_or-set_same now node (get_or now node 0 - 1) 0 (omega (arith, at.size))

    here : (v : ℕ) → HalvesTo (width + place) v → v ≡ node → get_or (set now node (get_or now node 0 - 1)) v 0 + 1 ≡ get_or old v 0
    here v halves same = rw same (omega (arith, unchanged, written))

    there : (v : ℕ) → node / 2 < v → HalvesTo (width + place) v → v ≢ node → (node < v) ⊎ (v ≤ node) →
        get_or (set now node (get_or now node 0 - 1)) v 0 + 1 ≡ get_or old v 0
    there v lt halves other (inl above) =
        let same : get_or (set now node (get_or now node 0 - 1)) v 0 ≡ get_or now v 0 = get_or-set_other now node v (get_or now node 0 - 1) 0 other in
        omega (arith, at.passed v above halves)
    there v lt halves other (inr below) =
        absurd (omega (arith, halves_above (width + place) at.halvings halves.0 v node at.is halves.1 (omega arith)))

-- above the root all are passed
pub climbed : {width place : ℕ} {old now : List ℕ} {node : ℕ} → node ≤ 0 → Climbs width place old now node → IsLowered width place old now
climbed {width} {place} {old} {now} {node} end at = record {
  size = at.size;
  on_the_way = λ v some halves. at.passed v (omega arith) halves;
  elsewhere = λ v off. at.kept v (λ lt. off (omega arith));
}

-- a node on the way is inside, and its word is still there
pub climb_inside : {width place : ℕ} {old now : List ℕ} {node : ℕ} → width + place < length old → Climbs width place old now node → node < length old
climb_inside {width} {place} {old} {now} {node} inside at = omega (arith, at.is, shr_le (width + place) at.halvings)

pub climb_halves : {width place : ℕ} {old now : List ℕ} {node : ℕ} → Climbs width place old now node → HalvesTo (width + place) node
climb_halves at = (at.halvings, at.is)

pub climb_word : {width place : ℕ} {old now : List ℕ} {node : ℕ} → Climbs width place old now node → get_or now node 0 ≡ get_or old node 0
climb_word {width} {place} {old} {now} {node} at = at.kept node (λ lt. absurd (omega arith))
