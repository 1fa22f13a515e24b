use Rattle.std.proofs.Common.{◌≡◌, ℕ, ◌+◌, ◌<◌, ◌≤◌, List, length, get_or, set, refl, sym, ap, subst, ◌∙◌, arith, inl, inr, ◌⊎◌}
use Rattle.std.proofs.lemmas.Bool.{cases_order}
use Rattle.std.proofs.lemmas.Grind.{get_or-set_at}
use Rattle.std.proofs.lemmas.List.{length-set, get_or-set_other}
use Rattle.pq_gate.specs.declared.gate.Gate.{Gate}
use Rattle.pq_gate.specs.Commuting.{Commutes}
use Rattle.pq_gate.specs.Kind.{kind_of}
use Rattle.pq_match.specs.Redex.{gate_at}
use Rattle.pq_match.specs.Search.{AreAlike, IsFitting, IsPassed, AreClear, IsNext, IsGrown, Begins, AreEight, IsFirstFull, HasNoFull}

-- Putting a place behind the first `count` of eight.
module _ (places : List ℕ) (count place : ℕ) (eight : length places ≡ 8) (room : count < 8) where
  pub put_at : get_or (set places count place) count 0 ≡ place
  put_at = get_or-set_at places count count place 0 refl (omega arith)

  pub put_before : (s : ℕ) → s < count → get_or (set places count place) s 0 ≡ get_or places s 0
  put_before s below = get_or-set_other places count s place 0 (omega arith)

  pub begins_front : (other : List ℕ) → Begins (set places count place) (count + 1) other → Begins places count other
  begins_front other begins s below = begins s (omega arith) ∙ put_before s below

  pub begins_at : (other : List ℕ) → Begins (set places count place) (count + 1) other → get_or other count 0 ≡ place
  begins_at other begins = begins count (omega arith) ∙ put_at

  pub begins_more : (other : List ℕ) → Begins places count other → get_or other count 0 ≡ place → Begins (set places count place) (count + 1) other
  begins_more other begins at s below = by (cases_order s count)
    where
      by : (s ≡ count) ⊎ ((s < count) ⊎ (count < s)) → get_or other s 0 ≡ get_or (set places count place) s 0
      by (inl same) = ap (λ (k : ℕ). get_or other k 0) same ∙ (at ∙ sym (get_or-set_at places count s place 0 same (omega arith)))
      by (inr (inl less)) = begins s less ∙ sym (put_before s less)
      by (inr (inr more)) = absurd (omega arith)

  more_of_eight : AreEight places count → AreEight (set places count place) (count + 1)
  more_of_eight are = record {
    eight = length-set places count place ∙ eight;
    rest = λ s past. get_or-set_other places count s place 0 (omega arith) ∙ are.rest s (omega arith);
  }

-- What is said of the first places holds of other lists that begin with these places.
module _ (gates pattern : List Gate) (places other : List ℕ) where
  pub fitting_same : (last : ℕ) → ((s : ℕ) → s ≤ last → get_or places s 0 ≡ get_or other s 0) → IsFitting gates pattern places last → IsFitting gates pattern other last
  fitting_same last same fits = record {
    kind = subst (λ (p : ℕ). kind_of (gate_at gates p) ≡ kind_of (gate_at pattern last)) (same last (omega arith)) fits.kind;
    wires = λ s upto.
        subst (λ (p : ℕ). AreAlike (gate_at pattern s) (gate_at pattern last) (gate_at gates p) (gate_at gates (get_or other last 0))) (same s upto)
        (subst (λ (q : ℕ). AreAlike (gate_at pattern s) (gate_at pattern last) (gate_at gates (get_or places s 0)) (gate_at gates q)) (same last (omega arith)) (fits.wires s upto));
  }

  pub grown_same : (end count : ℕ) → ((s : ℕ) → s < count → get_or places s 0 ≡ get_or other s 0) → IsGrown gates pattern end places count → IsGrown gates pattern end other count
  grown_same end count same grown = record {
    rising = λ s t less below.
        subst (λ (p : ℕ). p < get_or other t 0) (same s (omega arith)) (subst (λ (q : ℕ). get_or places s 0 < q) (same t below) (grown.rising s t less below));
    inside = λ s below. subst (λ (p : ℕ). p < end) (same s below) (grown.inside s below);
    fitting = λ s below. fitting_same s (λ t upto. same t (omega arith)) (grown.fitting s below);
    clear = λ t t_below s p s_below passed more less.
        subst (λ (q : ℕ). Commutes (gate_at gates q) (gate_at gates p)) (same s s_below)
        (grown.clear t t_below s p s_below (λ r r_below at. passed r r_below (sym (same r r_below) ∙ at))
        (subst (λ (q : ℕ). q < p) (sym (same s s_below)) more) (subst (λ (q : ℕ). p < q) (sym (same t t_below)) less));
  }

-- The gate that is put in fits, and what it passes commutes with the gates before it: then all of them have grown.
module _ (gates pattern : List Gate) (end : ℕ) (places : List ℕ) (count place : ℕ) where
  one_more : IsGrown gates pattern end places count → length places ≡ 8 → count < 8 → ((s : ℕ) → s < count → get_or places s 0 < place) → AreClear gates places count place →
      place < end → IsFitting gates pattern (set places count place) count → IsGrown gates pattern end (set places count place) (count + 1)
  one_more grown eight room above clear inside fits = record {
    rising = λ s t less below. rising s t less below (cases_order t count);
    inside = λ s below. within s below (cases_order s count);
    fitting = λ s below. fitting s below (cases_order s count);
    clear = λ t t_below s p s_below passed more less. commuting t t_below s p s_below passed more less (cases_order t count) (cases_order s count);
  }
    where
      grown_places : List ℕ
      grown_places = set places count place

      at : get_or (set places count place) count 0 ≡ place
      at = put_at places count place eight room

      before : (s : ℕ) → s < count → get_or (set places count place) s 0 ≡ get_or places s 0
      before s below = put_before places count place eight room s below

      rising : (s t : ℕ) → s < t → t < count + 1 → (t ≡ count) ⊎ ((t < count) ⊎ (count < t)) → get_or (set places count place) s 0 < get_or (set places count place) t 0
      rising s t less below (inl same) =
          let s_below : s < count = omega arith in
          let low : get_or (set places count place) s 0 < place = subst (λ (p : ℕ). p < place) (sym (before s s_below)) (above s s_below) in
          subst (λ (p : ℕ). get_or (set places count place) s 0 < p) (sym (ap (λ (k : ℕ). get_or (set places count place) k 0) same ∙ at)) low
      rising s t less below (inr (inl t_below)) =
          let s_below : s < count = omega arith in
          subst (λ (p : ℕ). p < get_or (set places count place) t 0) (sym (before s s_below))
          (subst (λ (p : ℕ). get_or places s 0 < p) (sym (before t t_below)) (grown.rising s t less t_below))
      rising s t less below (inr (inr more)) = absurd (omega arith)

      within : (s : ℕ) → s < count + 1 → (s ≡ count) ⊎ ((s < count) ⊎ (count < s)) → get_or (set places count place) s 0 < end
      within s below (inl same) = subst (λ (p : ℕ). p < end) (sym (ap (λ (k : ℕ). get_or (set places count place) k 0) same ∙ at)) inside
      within s below (inr (inl less)) = subst (λ (p : ℕ). p < end) (sym (before s less)) (grown.inside s less)
      within s below (inr (inr more)) = absurd (omega arith)

      fitting : (s : ℕ) → s < count + 1 → (s ≡ count) ⊎ ((s < count) ⊎ (count < s)) → IsFitting gates pattern (set places count place) s
      fitting s below (inl same) = subst (λ (k : ℕ). IsFitting gates pattern (set places count place) k) (sym same) fits
      fitting s below (inr (inl less)) =
          fitting_same gates pattern places (set places count place) s (λ t upto. sym (before t (omega arith))) (grown.fitting s less)
      fitting s below (inr (inr more)) = absurd (omega arith)

      front_passed : (p : ℕ) → IsPassed (set places count place) (count + 1) p → IsPassed places count p
      front_passed p passed s below same = passed s (omega arith) (before s below ∙ same)

      commuting : (t : ℕ) → t < count + 1 → (s p : ℕ) → s < count + 1 → IsPassed (set places count place) (count + 1) p →
          get_or (set places count place) s 0 < p → p < get_or (set places count place) t 0 →
          (t ≡ count) ⊎ ((t < count) ⊎ (count < t)) → (s ≡ count) ⊎ ((s < count) ⊎ (count < s)) →
          Commutes (gate_at gates (get_or (set places count place) s 0)) (gate_at gates p)
      commuting t t_below s p s_below passed more less (inl same) (inr (inl s_less)) =
          let e : get_or (set places count place) t 0 ≡ place = ap (λ (k : ℕ). get_or (set places count place) k 0) same ∙ at in
          let f : get_or (set places count place) s 0 ≡ get_or places s 0 = before s s_less in
          subst (λ (q : ℕ). Commutes (gate_at gates q) (gate_at gates p)) (sym f)
          (clear s p s_less (front_passed p passed) (omega arith) (omega arith))
      commuting t t_below s p s_below passed more less (inr (inl t_less)) (inr (inl s_less)) =
          let e : get_or (set places count place) t 0 ≡ get_or places t 0 = before t t_less in
          let f : get_or (set places count place) s 0 ≡ get_or places s 0 = before s s_less in
          subst (λ (q : ℕ). Commutes (gate_at gates q) (gate_at gates p)) (sym f)
          (grown.clear t t_less s p s_less (front_passed p passed) (omega arith) (omega arith))
      commuting t t_below s p s_below passed more less (inl same) (inl s_same) =
          let e : get_or (set places count place) t 0 ≡ place = ap (λ (k : ℕ). get_or (set places count place) k 0) same ∙ at in
          let f : get_or (set places count place) s 0 ≡ place = ap (λ (k : ℕ). get_or (set places count place) k 0) s_same ∙ at in
          absurd (omega arith)
      commuting t t_below s p s_below passed more less (inr (inl t_less)) (inl s_same) =
          let e : get_or (set places count place) t 0 ≡ get_or places t 0 = before t t_less in
          let f : get_or (set places count place) s 0 ≡ place = ap (λ (k : ℕ). get_or (set places count place) k 0) s_same ∙ at in
          let low : get_or places t 0 < place = above t t_less in
          absurd (omega arith)
      commuting t t_below s p s_below passed more less (inr (inr t_more)) _ = absurd (omega arith)
      commuting t t_below s p s_below passed more less _ (inr (inr s_more)) = absurd (omega arith)

-- a place more of eight
pub eight_more : {places : List ℕ} {count : ℕ} (place : ℕ) → AreEight places count → count < 8 → AreEight (set places count place) (count + 1)
eight_more {places} {count} place are room = more_of_eight places count place are.eight room are

-- a place more that fits
pub grown_more : {gates pattern : List Gate} {end : ℕ} {places : List ℕ} {count place : ℕ} → IsGrown gates pattern end places count → AreEight places count → count < 8 →
    IsNext gates places count place → place < end → IsFitting gates pattern (set places count place) count → IsGrown gates pattern end (set places count place) (count + 1)
grown_more {gates} {pattern} {end} {places} {count} {place} grown are room next inside fits =
    one_more gates pattern end places count place grown are.eight room next.above next.clear inside fits

-- where the gate doesn't fit, nothing begins with it
pub nothing_fits : {gates pattern : List Gate} {places : List ℕ} {count : ℕ} (end : ℕ) → count < length pattern → (IsFitting gates pattern places count → ⊥) →
    HasNoFull gates pattern end places (count + 1)
nothing_fits {gates} {pattern} {places} {count} end next misfit = record {
  none = λ other full begins. misfit (fitting_same gates pattern other places count (λ s upto. begins s (omega arith)) (full.fitting count next));
}

-- nor where the gate at the next place is of another kind than the pattern's
pub nothing_of_kind : {gates pattern : List Gate} {places : List ℕ} {count : ℕ} (end place : ℕ) → count < length pattern → AreEight places count → count < 8 →
    (kind_of (gate_at gates place) ≡ kind_of (gate_at pattern count) → ⊥) → HasNoFull gates pattern end (set places count place) (count + 1)
nothing_of_kind {gates} {pattern} {places} {count} end place next are room other_kind =
    nothing_fits end next
    (λ fits. other_kind (subst (λ (p : ℕ). kind_of (gate_at gates p) ≡ kind_of (gate_at pattern count)) (put_at places count place are.eight room) fits.kind))

-- grown places that are all of the pattern's are the only ones that begin with them
pub grown_is_full : {gates pattern : List Gate} {end : ℕ} {places : List ℕ} (count : ℕ) → count + 1 ≡ length pattern → IsGrown gates pattern end places (count + 1) →
    AreEight places (count + 1) → IsFirstFull gates pattern end places (count + 1) places
grown_is_full {gates} {pattern} {end} {places} count all grown are = record {
  full = subst (IsGrown gates pattern end places) all grown;
  begins = λ s below. refl;
  first = λ other full begins before.
      (let same : get_or other before.at 0 ≡ get_or places before.at 0 = begins before.at (let b : before.at < length pattern = before.below in omega arith) in
      let less : get_or other before.at 0 < get_or places before.at 0 = before.less in
      absurd (omega arith));
  eight = subst (AreEight places) all are;
}
