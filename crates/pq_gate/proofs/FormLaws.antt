use Rattle.std.proofs.Common.{◌≡◌, ℕ, zero, suc, Bool, true, false, cond, List, [], ◌∷◌, length, refl, ap, sym, subst, ◌∙◌, arith}
use Rattle.std.specs.Prelude.{ℤ, pos, negsuc}
use Rattle.std.specs.Bool.{beq}
use Rattle.std.proofs.lemmas.Int.{ints}
use Rattle.pq_gate.specs.declared.gate.Gate.{Gate}
use Rattle.pq_gate.specs.declared.ring.Ring.{Ring}
use Rattle.pq_gate.specs.Bits.{same_bits}
use Rattle.pq_gate.specs.Ring.{nought, one, plus, turn, turned}
use Rattle.pq_gate.proofs.RingLaws.{same_numbers, plus-nought, nought-plus, turn-nought, plus-turned_4}
use Rattle.pq_gate.proofs.ActLaws.{IsLinear, Act, Act-linear, Act-plus, Act_reads, IsLinear-turned, point}

-- a number with the weights of all states of n bits, linear in them
pub record IsForm (n : ℕ) (p : (List Bool → Ring) → Ring) : Type 0 where
  pub reads : (f h : List Bool → Ring) → ((z : List Bool) → length z ≡ n → f z ≡ h z) → p f ≡ p h
  pub sums : (f h : List Bool → Ring) → p (λ z. plus (f z) (h z)) ≡ plus (p f) (p h)
  pub turns : (f : List Bool → Ring) → p (λ z. turn (f z)) ≡ turn (p f)

-- the circuit's weights at one state
pub IsForm-Act : (n : ℕ) (c : List Gate) (x : List Bool) → length x ≡ n → IsForm n (λ f. Act c f x)
IsForm-Act n c x is = record {
  reads = λ f h agree. Act_reads n c f h agree x is;
  sums = λ f h. Act-plus c f h x;
  turns = λ f. Act-linear (IsLinear-turned 1) c f x;
}

-- a multiple of a form
pub IsForm-linear : {n : ℕ} {m : Ring → Ring} {p : (List Bool → Ring) → Ring} → IsLinear m → IsForm n p → IsForm n (λ f. m (p f))
IsForm-linear {n} {m} {p} linear form = record {
  reads = λ f h agree. ap m (form.reads f h agree);
  sums = λ f h. ap m (form.sums f h) ∙ linear.sums (p f) (p h);
  turns = λ f. ap m (form.turns f) ∙ linear.turns (p f);
}

-- a whole number
abbrev whole : ℤ → Ring
whole z = record { a = z; b = pos 0; c = pos 0; d = pos 0 }

module _ (P : Ring → Type 0) (unit : P one) (sums : (r s : Ring) → P r → P s → P (plus r s)) (turns : (r : Ring) → P r → P (turn r)) where
  at_nought : P nought
  at_nought = subst P (plus-turned_4 one) (sums one (turned 4 one) unit (turns _ (turns _ (turns _ (turns _ unit)))))

  at_natural : (n : ℕ) → P (whole (pos n))
  unfolding nought one plus
  at_natural zero = at_nought
  at_natural (suc n) = subst P (same_numbers _ _ (omega (arith, ints)) refl refl refl) (sums one (whole (pos n)) unit (at_natural n))

  at_whole : (z : ℤ) → P (whole z)
  unfolding turn
  at_whole (pos n) = at_natural n
  at_whole (negsuc n) =
      subst P (same_numbers (turned 4 (whole (pos (suc n)))) (whole (negsuc n)) (omega (arith, ints)) refl refl refl)
      (turns _ (turns _ (turns _ (turns _ (at_natural (suc n))))))

  -- what holds at 1, and is kept by sums and by ω, holds everywhere
  pub everywhere : (r : Ring) → P r
  unfolding plus turn
  everywhere r =
      subst P (same_numbers (plus (whole r.a) (turn (plus (whole r.b) (turn (plus (whole r.c) (turn (whole r.d))))))) r
      (omega (arith, ints)) (omega (arith, ints)) (omega (arith, ints)) (omega (arith, ints)))
      (sums _ _ (at_whole r.a) (turns _ (sums _ _ (at_whole r.b) (turns _ (sums _ _ (at_whole r.c) (turns _ (at_whole r.d)))))))

cond-plus : (p : Bool) (r s : Ring) → cond p (plus r s) nought ≡ plus (cond p r nought) (cond p s nought)
cond-plus true r s = refl
cond-plus false r s = sym (plus-nought nought)

cond-turn : (p : Bool) (r : Ring) → cond p (turn r) nought ≡ turn (cond p r nought)
cond-turn true r = refl
cond-turn false r = sym turn-nought

-- a weight at one state
abbrev weighted : Ring → List Bool → List Bool → Ring
weighted r y x = cond (same_bits x y) r nought

-- two forms that agree where a state has the weight 1 agree where it has any
weighted_agree : {n : ℕ} {p q : (List Bool → Ring) → Ring} → IsForm n p → IsForm n q → (y : List Bool) →
    p (point y) ≡ q (point y) → (r : Ring) → p (weighted r y) ≡ q (weighted r y)
weighted_agree {n} {p} {q} left right y same r =
    everywhere (λ s. p (weighted s y) ≡ q (weighted s y)) same
    (λ s t here there. ap p (split s t) ∙ left.sums (weighted s y) (weighted t y) ∙ (λ i. plus (here i) (there i)) ∙
    sym (ap q (split s t) ∙ right.sums (weighted s y) (weighted t y)))
    (λ s here. ap p (turned_all s) ∙ left.turns (weighted s y) ∙ ap turn here ∙ sym (ap q (turned_all s) ∙ right.turns (weighted s y)))
    r
  where
    split : (s t : Ring) → weighted (plus s t) y ≡ (λ (z : List Bool). plus (weighted s y z) (weighted t y z))
    split s t = λ i z. cond-plus (same_bits z y) s t i

    turned_all : (s : Ring) → weighted (turn s) y ≡ (λ (z : List Bool). turn (weighted s y z))
    turned_all s = λ i z. cond-turn (same_bits z y) s i

-- the weights where the first bit is b, and 0 elsewhere
abbrev behind : Bool → (List Bool → Ring) → List Bool → Ring
behind b f [] = nought
behind b f (c ∷ x) = cond (beq c b) (f x) nought

behind-plus : (b : Bool) (f h : List Bool → Ring) (x : List Bool) →
    behind b (λ z. plus (f z) (h z)) x ≡ plus (behind b f x) (behind b h x)
behind-plus b f h [] = sym (plus-nought nought)
behind-plus b f h (c ∷ x) = cond-plus (beq c b) (f x) (h x)

behind-turn : (b : Bool) (f : List Bool → Ring) (x : List Bool) → behind b (λ z. turn (f z)) x ≡ turn (behind b f x)
behind-turn b f [] = sym turn-nought
behind-turn b f (c ∷ x) = cond-turn (beq c b) (f x)

behind_reads : (n : ℕ) (b : Bool) (f h : List Bool → Ring) → ((z : List Bool) → length z ≡ n → f z ≡ h z) →
    (x : List Bool) → length x ≡ suc n → behind b f x ≡ behind b h x
behind_reads n b f h agree [] is = absurd (omega (arith, is))
behind_reads n b f h agree (c ∷ x) is = ap (λ (r : Ring). cond (beq c b) r nought) (agree x (omega (arith, is)))

behind-point : (b : Bool) (y x : List Bool) → behind b (point y) x ≡ point (b ∷ y) x
behind-point b y [] = refl
behind-point true y (true ∷ x) = refl
behind-point true y (false ∷ x) = refl
behind-point false y (true ∷ x) = refl
behind-point false y (false ∷ x) = refl

-- the form of the weights behind a first bit
IsForm-behind : {n : ℕ} {p : (List Bool → Ring) → Ring} (b : Bool) → IsForm (suc n) p → IsForm n (λ f. p (behind b f))
IsForm-behind {n} {p} b form = record {
  reads = λ f h agree. form.reads (behind b f) (behind b h) (behind_reads n b f h agree);
  sums = λ f h. ap p (λ i x. behind-plus b f h x i) ∙ form.sums (behind b f) (behind b h);
  turns = λ f. ap p (λ i x. behind-turn b f x i) ∙ form.turns (behind b f);
}

-- the empty list alone has no bits
only_empty : (f : List Bool → Ring) (x : List Bool) → length x ≡ 0 → f x ≡ weighted (f []) [] x
only_empty f [] is = refl
only_empty f (b ∷ x) is = absurd (omega (arith, is))

-- all weights by the first bit
by_first_bit : (n : ℕ) (f : List Bool → Ring) (x : List Bool) → length x ≡ suc n →
    f x ≡ plus (behind false (λ z. f (false ∷ z)) x) (behind true (λ z. f (true ∷ z)) x)
by_first_bit n f [] is = absurd (omega (arith, is))
by_first_bit n f (false ∷ x) is = sym (plus-nought (f (false ∷ x)))
by_first_bit n f (true ∷ x) is = sym (nought-plus (f (true ∷ x)))

-- forms that agree on the points agree everywhere
pub forms_agree : (n : ℕ) (p q : (List Bool → Ring) → Ring) → IsForm n p → IsForm n q →
    ((y : List Bool) → length y ≡ n → p (point y) ≡ q (point y)) → (f : List Bool → Ring) → p f ≡ q f
forms_agree zero p q left right same f =
    left.reads f (weighted (f []) []) (only_empty f) ∙
    weighted_agree left right [] (same [] refl) (f []) ∙
    sym (right.reads f (weighted (f []) []) (only_empty f))
forms_agree (suc n) p q left right same f =
    let low : List Bool → Ring = λ z. f (false ∷ z) in
    let high : List Bool → Ring = λ z. f (true ∷ z) in
    let below = λ (b : Bool). forms_agree n (λ h. p (behind b h)) (λ h. q (behind b h)) (IsForm-behind b left) (IsForm-behind b right)
    (λ y is. ap p (λ i x. behind-point b y x i) ∙ same (b ∷ y) (ap suc is) ∙ sym (ap q (λ i x. behind-point b y x i))) in
    left.reads f _ (by_first_bit n f) ∙ left.sums (behind false low) (behind true high) ∙
    (λ i. plus (below false low i) (below true high i)) ∙
    sym (right.reads f _ (by_first_bit n f) ∙ right.sums (behind false low) (behind true high))
