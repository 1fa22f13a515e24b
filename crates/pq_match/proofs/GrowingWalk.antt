use Rattle.std.proofs.Common.{◌≡◌, ◌≢◌, ℕ, ◌+◌, ◌-◌, ◌<◌, ◌≤◌, List, length, get_or, set, sym, ap, subst, ◌∙◌, arith, inl, inr, ◌⊎◌}
use Rattle.std.proofs.lemmas.Bool.{cases_order}
use Rattle.pq_gate.specs.declared.gate.Gate.{Gate}
use Rattle.pq_gate.specs.Commuting.{Commutes}
use Rattle.pq_match.specs.Redex.{gate_at}
use Rattle.pq_match.specs.Search.{IsPassed, IsNext, IsPassable, IsGrown, IsFull, Begins, IsBefore, AreEight, IsFirstFull, HasNoFull}
use Rattle.pq_match.proofs.Growing.{begins_front, begins_at, begins_more}

-- The gates up to a place were passed over: they commute with the chosen ones, and no full match has its next gate there.
pub record IsWalked (gates pattern : List Gate) (end : ℕ) (places : List ℕ) (count place : ℕ) : Type 0 where
  pub next : IsNext gates places count place
  pub none : (other : List ℕ) → IsFull gates pattern end other → Begins places count other → place ≤ get_or other count 0

module _ (gates pattern : List Gate) (end : ℕ) (places : List ℕ) (count place : ℕ) where
  plain_starts : 0 < count → count < length pattern → IsGrown gates pattern end places count → IsWalked gates pattern end places count (get_or places (count - 1) 0 + 1)
  plain_starts some next grown = record {
    next = record {
      above = λ s below. above s below (cases_order s (count - 1));
      clear = λ s p below passed more less.
          (let ne : get_or places (count - 1) 0 ≢ p = passed (count - 1) (omega arith) in
          grown.clear (count - 1) (omega arith) s p below passed more (omega arith));
    };
    none = λ other full begins.
        (let rise : get_or other (count - 1) 0 < get_or other count 0 = full.rising (count - 1) count (omega arith) next in
        let same : get_or other (count - 1) 0 ≡ get_or places (count - 1) 0 = begins (count - 1) (omega arith) in
        omega arith);
  }
    where
      above : (s : ℕ) → s < count → (s ≡ count - 1) ⊎ ((s < count - 1) ⊎ (count - 1 < s)) → get_or places s 0 < get_or places (count - 1) 0 + 1
      above s below (inl same) =
          let e : get_or places s 0 ≡ get_or places (count - 1) 0 = ap (λ (k : ℕ). get_or places k 0) same in omega arith
      above s below (inr (inl less)) =
          let rise : get_or places s 0 < get_or places (count - 1) 0 = grown.rising s (count - 1) less (omega arith) in omega arith
      above s below (inr (inr more)) = absurd (omega arith)

  -- nothing that begins with this place next leaves the place behind
  pub behind : length places ≡ 8 → count < 8 → IsWalked gates pattern end places count place →
      HasNoFull gates pattern end (set places count place) (count + 1) →
      (other : List ℕ) → IsFull gates pattern end other → Begins places count other → place < get_or other count 0
  behind eight room walked none other full begins =
      let ne : get_or other count 0 ≢ place = λ same. none.none other full (begins_more places count place eight room other begins same) in
      let low : place ≤ get_or other count 0 = walked.none other full begins in
      omega arith

  plain_goes_on : length places ≡ 8 → count < 8 → IsWalked gates pattern end places count place →
      HasNoFull gates pattern end (set places count place) (count + 1) → IsPassable gates places count place →
      IsWalked gates pattern end places count (place + 1)
  plain_goes_on eight room walked none passes = record {
    next = record {
      above = λ s below. (let low : get_or places s 0 < place = walked.next.above s below in omega arith);
      clear = λ s p below passed more less. clear s p below passed more less (cases_order p place);
    };
    none = λ other full begins. (let low : place < get_or other count 0 = behind eight room walked none other full begins in omega arith);
  }
    where
      clear : (s p : ℕ) → s < count → IsPassed places count p → get_or places s 0 < p → p < place + 1 → (p ≡ place) ⊎ ((p < place) ⊎ (place < p)) →
          Commutes (gate_at gates (get_or places s 0)) (gate_at gates p)
      clear s p below passed more less (inl same) = subst (λ (q : ℕ). Commutes (gate_at gates (get_or places s 0)) (gate_at gates q)) (sym same) (passes.commute s below)
      clear s p below passed more less (inr (inl lower)) = walked.next.clear s p below passed more lower
      clear s p below passed more less (inr (inr higher)) = absurd (omega arith)

  plain_is_stuck : length places ≡ 8 → count < 8 → count < length pattern → IsWalked gates pattern end places count place →
      HasNoFull gates pattern end (set places count place) (count + 1) → ¬ IsPassable gates places count place →
      HasNoFull gates pattern end places count
  plain_is_stuck eight room next walked none stuck = record { none = λ other full begins. stuck (passes other full begins) }
    where
      passed : (other : List ℕ) → IsFull gates pattern end other → Begins places count other → IsPassed other (length pattern) place
      passed other full begins t below same = by (cases_order t count)
        where
          high : place < get_or other count 0
          high = behind eight room walked none other full begins

          by : (t ≡ count) ⊎ ((t < count) ⊎ (count < t)) → ⊥
          by (inl at) =
              let e : get_or other t 0 ≡ get_or other count 0 = ap (λ (k : ℕ). get_or other k 0) at in
              let h : place < get_or other count 0 = high in omega arith
          by (inr (inl less)) =
              let e : get_or other t 0 ≡ get_or places t 0 = begins t less in
              let low : get_or places t 0 < place = walked.next.above t less in omega arith
          by (inr (inr more)) =
              let rise : get_or other count 0 < get_or other t 0 = full.rising count t more below in
              let h : place < get_or other count 0 = high in omega arith

      passing : (other : List ℕ) → IsFull gates pattern end other → Begins places count other → (s : ℕ) → s < count → Commutes (gate_at gates (get_or places s 0)) (gate_at gates place)
      passing other full begins s below =
          let e : get_or other s 0 ≡ get_or places s 0 = begins s below in
          let low : get_or places s 0 < place = walked.next.above s below in
          let high : place < get_or other count 0 = behind eight room walked none other full begins in
          subst (λ (q : ℕ). Commutes (gate_at gates q) (gate_at gates place)) e
          (full.clear count next s place (omega arith) (passed other full begins) (omega arith) high)

      passes : (other : List ℕ) → IsFull gates pattern end other → Begins places count other → IsPassable gates places count place
      passes other full begins = record { commute = λ s below. passing other full begins s below }

  plain_ends : count < length pattern → end ≤ place → IsWalked gates pattern end places count place → HasNoFull gates pattern end places count
  plain_ends next ended walked = record {
    none = λ other full begins.
        (let low : place ≤ get_or other count 0 = walked.none other full begins in
        let inside : get_or other count 0 < end = full.inside count next in
        omega arith);
  }

  plain_finds : length places ≡ 8 → count < 8 → count < length pattern → IsWalked gates pattern end places count place → (found : List ℕ) →
      IsFirstFull gates pattern end (set places count place) (count + 1) found → IsFirstFull gates pattern end places count found
  plain_finds eight room next walked found is = record {
    full = is.full;
    begins = begins_front places count place eight room found is.begins;
    first = λ other full begins before. by other full begins before (cases_order before.at count);
    eight = is.eight;
  }
    where
      at : get_or found count 0 ≡ place
      at = begins_at places count place eight room found is.begins

      front : Begins places count found
      front = begins_front places count place eight room found is.begins

      by : (other : List ℕ) → IsFull gates pattern end other → Begins places count other → (before : IsBefore (length pattern) other found) →
          (before.at ≡ count) ⊎ ((before.at < count) ⊎ (count < before.at)) → ⊥
      by other full begins before (inl same) =
          let low : place ≤ get_or other count 0 = walked.none other full begins in
          let less : get_or other count 0 < get_or found count 0 = subst (λ (k : ℕ). get_or other k 0 < get_or found k 0) same before.less in
          let e : get_or found count 0 ≡ place = at in
          omega arith
      by other full begins before (inr (inl lower)) =
          let e : get_or other before.at 0 ≡ get_or places before.at 0 = begins before.at lower in
          let f : get_or found before.at 0 ≡ get_or places before.at 0 = front before.at lower in
          let less : get_or other before.at 0 < get_or found before.at 0 = before.less in
          omega arith
      by other full begins before (inr (inr higher)) =
          is.first other full (begins_more places count place eight room other begins (before.same count higher ∙ at)) before

-- the walk over the places for the next gate: before it,
pub walk_starts : {gates pattern : List Gate} {end : ℕ} {places : List ℕ} {count : ℕ} → 0 < count → count < length pattern → IsGrown gates pattern end places count →
    IsWalked gates pattern end places count (get_or places (count - 1) 0 + 1)
walk_starts {gates} {pattern} {end} {places} {count} some next grown = plain_starts gates pattern end places count 0 some next grown

-- one place further,
pub walk_goes_on : {gates pattern : List Gate} {end : ℕ} {places : List ℕ} {count place : ℕ} → AreEight places count → count < 8 → IsWalked gates pattern end places count place →
    HasNoFull gates pattern end (set places count place) (count + 1) → IsPassable gates places count place → IsWalked gates pattern end places count (place + 1)
walk_goes_on {gates} {pattern} {end} {places} {count} {place} are room walked none passes =
    plain_goes_on gates pattern end places count place are.eight room walked none passes

-- where a gate can't be passed,
pub walk_is_stuck : {gates pattern : List Gate} {end : ℕ} {places : List ℕ} {count : ℕ} (place : ℕ) → AreEight places count → count < 8 → count < length pattern →
    IsWalked gates pattern end places count place → HasNoFull gates pattern end (set places count place) (count + 1) → (IsPassable gates places count place → ⊥) →
    HasNoFull gates pattern end places count
walk_is_stuck {gates} {pattern} {end} {places} {count} place are room next walked none stuck =
    plain_is_stuck gates pattern end places count place are.eight room next walked none stuck

-- at the end,
pub walk_ends : {gates pattern : List Gate} {end : ℕ} {places : List ℕ} {count : ℕ} (place : ℕ) → count < length pattern → end ≤ place →
    IsWalked gates pattern end places count place → HasNoFull gates pattern end places count
walk_ends {gates} {pattern} {end} {places} {count} place next ended walked = plain_ends gates pattern end places count place next ended walked

-- and where the least places are found
pub walk_finds : {gates pattern : List Gate} {end : ℕ} {places : List ℕ} {count : ℕ} {found : List ℕ} (place : ℕ) →
    IsFirstFull gates pattern end (set places count place) (count + 1) found → IsWalked gates pattern end places count place →
    AreEight places count → count < 8 → count < length pattern → IsFirstFull gates pattern end places count found
walk_finds {gates} {pattern} {end} {places} {count} {found} place is walked are room next =
    plain_finds gates pattern end places count place are.eight room next walked found is
