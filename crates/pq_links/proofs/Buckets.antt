-- The last place on a wire, found along the places in the wire's bucket.
use Rattle.std.proofs.Common.{◌≡◌, ◌≢◌, ℕ, ◌+◌, ◌-◌, ◌/◌, ◌%◌, ◌<◌, ◌≤◌, ◌==◌, Bool, true, false, min, bit_xor, List, length, sym, ap, subst, ◌∙◌, arith, inl, inr, ◌⊎◌}
use Rattle.std.proofs.lemmas.Bool.{cases_order, cases_lt}
use Rattle.std.proofs.lemmas.Nat.{and_le_r}
use Rattle.std.specs.Int.Bits.{xor_self, xor_zero_l, xor_zero_r, xor_assoc}
use Rattle.pq_gate.specs.declared.gate.Gate.{Gate}
use Rattle.pq_gate.specs.Commuting.{Touches}
use Rattle.pq_links.specs.Wires.{wire_of}
use Rattle.pq_links.specs.Places.{gate_at}
use Rattle.pq_links.specs.declared.links.Head.{Head}
use Rattle.pq_links.specs.declared.links.Spot.{Spot}
use Rattle.pq_links.specs.Links.{bucket_of, is_on, head_at, far, IsHead, IsEndOn, IsLastIn, IsLastOn, LinksView, AreLinked}
use Rattle.pq_links.specs.Leading.{IsHeadOf, IsSpot}
use Rattle.pq_links.proofs.Touching.{touched, touching}

-- each wire has its bucket
pub bucket_below : (buckets wire : ℕ) → 0 < buckets → bucket_of buckets wire < buckets
bucket_below buckets wire some = omega (arith, and_le_r (bit_xor (bit_xor wire (wire / 64)) (wire / 4096)) (buckets - 1))

-- No gate behind the place uses the wire, and the place is in the wire's bucket, or past the end.
pub record IsBack (buckets bucket : ℕ) (gates : List Gate) (wire place : ℕ) : Type 0 where
  pub «in» : place < length gates → (one : Bool) × (bucket_of buckets (wire_of one (gate_at gates place)) ≡ bucket)
  pub none : (p : ℕ) → p < length gates → (place < length gates → place < p) → ¬ Touches (gate_at gates p) wire
  pub past : length gates ≤ place → place ≡ far

-- a gate with no wire in the bucket doesn't use the wire
not_in : (buckets : ℕ) (gate : Gate) (wire : ℕ) → ((one : Bool) → bucket_of buckets (wire_of one gate) ≢ bucket_of buckets wire) → ¬ Touches gate wire
not_in buckets gate wire none uses =
    let side = touched gate wire uses in
    none side.0 (ap (λ (w : ℕ). bucket_of buckets w) (sym side.1))

pub back_starts : {buckets : ℕ} {gates : List Gate} (wire place : ℕ) → IsLastIn buckets (bucket_of buckets wire) gates (length gates) place →
    IsBack buckets (bucket_of buckets wire) gates wire place
back_starts {buckets} {gates} wire place last = record {
  «in» = last.«in»;
  none = λ p below behind. not_in buckets (gate_at gates p) wire (last.none p below behind);
  past = last.past;
}

-- one place further back
pub back_more : (buckets : ℕ) (gates : List Gate) (wire place earlier : ℕ) → length gates < far → IsBack buckets (bucket_of buckets wire) gates wire place →
    place < length gates → ¬ Touches (gate_at gates place) wire → IsLastIn buckets (bucket_of buckets wire) gates place earlier →
    IsBack buckets (bucket_of buckets wire) gates wire earlier
back_more buckets gates wire place earlier few back inside other last = record {
  «in» = λ below. last.«in» (before below (cases_order earlier place));
  none = λ p below behind. none p below behind (cases_order p place);
  past = λ above. past above (cases_order earlier place);
}
  where
    before : earlier < length gates → (earlier ≡ place) ⊎ ((earlier < place) ⊎ (place < earlier)) → earlier < place
    before below (inl same) = (let e : earlier ≡ far = last.past (omega arith) in absurd (omega arith))
    before below (inr (inl less)) = less
    before below (inr (inr more)) = (let e : earlier ≡ far = last.past (omega arith) in absurd (omega arith))

    past : length gates ≤ earlier → (earlier ≡ place) ⊎ ((earlier < place) ⊎ (place < earlier)) → earlier ≡ far
    past above (inl same) = absurd (omega arith)
    past above (inr (inl less)) = absurd (omega arith)
    past above (inr (inr more)) = last.past (omega arith)

    none : (p : ℕ) → p < length gates → (earlier < length gates → earlier < p) → (p ≡ place) ⊎ ((p < place) ⊎ (place < p)) → ¬ Touches (gate_at gates p) wire
    none p below behind (inl same) = subst (λ (q : ℕ). ¬ Touches (gate_at gates q) wire) (sym same) other
    none p below behind (inr (inl less)) = not_in buckets (gate_at gates p) wire (last.none p less (λ low. behind (omega arith)))
    none p below behind (inr (inr more)) = back.none p below (λ low. more)

-- the other wire is in the bucket
pub other_side : (buckets bucket : ℕ) (gate : Gate) → (one : Bool) × (bucket_of buckets (wire_of one gate) ≡ bucket) → (bucket_of buckets (wire_of false gate) ≢ bucket) → bucket_of buckets (wire_of true gate) ≡ bucket
other_side buckets bucket gate (true, is) not_first = is
other_side buckets bucket gate (false, is) not_first = absurd (not_first is)

-- neither wire is the one
pub uses_neither : (gate : Gate) (wire first second : ℕ) → first ≡ wire_of false gate → second ≡ wire_of true gate → first ≢ wire → second ≢ wire → ¬ Touches gate wire
uses_neither gate wire first second first_is second_is not_first not_second uses = by (touched gate wire uses)
  where
    by : (one : Bool) × (wire ≡ wire_of one gate) → ⊥
    by (false, is) = not_first (first_is ∙ sym is)
    by (true, is) = not_second (second_is ∙ sym is)

-- places fall on the way back, and past the end it is over
pub earlier_less : {buckets bucket : ℕ} {gates : List Gate} {place earlier : ℕ} → length gates < far → place < length gates → IsLastIn buckets bucket gates place earlier →
    (earlier + 1) % 65536 < (place + 1) % 65536
earlier_less {buckets} {bucket} {gates} {place} {earlier} few inside last = by (cases_order earlier place)
  where
    by : (earlier ≡ place) ⊎ ((earlier < place) ⊎ (place < earlier)) → (earlier + 1) % 65536 < (place + 1) % 65536
    by (inl same) = (let e : earlier ≡ far = last.past (omega arith) in absurd (omega arith))
    by (inr (inl less)) = omega arith
    by (inr (inr more)) = (let e : earlier ≡ far = last.past (omega arith) in omega arith)

-- the place that was looked for
pub back_found : (buckets bucket : ℕ) (gates : List Gate) (wire place first second : ℕ) (head : Head) → IsBack buckets bucket gates wire place →
    place < length gates → first ≡ wire_of false (gate_at gates place) → second ≡ wire_of true (gate_at gates place) → (first ≡ wire) ⊎ (second ≡ wire) →
    IsHeadOf (gate_at gates place) place wire head → IsEndOn gates wire head
back_found buckets bucket gates wire place first second head back inside first_is second_is either of_gate = record {
  last = subst (λ (p : ℕ). IsLastOn gates wire (length gates) p) (sym of_gate.at) (record {
    uses = λ _. elim either [
      | inl same ↦ subst (Touches (gate_at gates place)) (sym first_is ∙ same) (touching (gate_at gates place) false)
      | inr same ↦ subst (Touches (gate_at gates place)) (sym second_is ∙ same) (touching (gate_at gates place) true)
    ];
    none = back.none;
    past = back.past;
  });
  sides = λ one _. subst (λ (p : ℕ). is_on one head ≡ (wire_of one (gate_at gates p) == wire)) (sym of_gate.at) (of_gate.sides one);
  none = λ past one. absurd (let e : head.place ≡ place = of_gate.at in omega arith);
}

-- no place is left
pub back_ends : (buckets bucket : ℕ) (gates : List Gate) (wire place : ℕ) (head : Head) → IsBack buckets bucket gates wire place → length gates < far →
    length gates ≤ place → head.place ≡ far → ((one : Bool) → is_on one head ≡ false) → IsEndOn gates wire head
back_ends buckets bucket gates wire place head back few past at neither = record {
  last = record {
    uses = λ below. absurd (omega (arith, at));
    none = λ p below _. back.none p below (λ low. absurd (omega arith));
    past = λ _. at;
  };
  sides = λ one below. absurd (omega (arith, at));
  none = λ _ one. neither one;
}

-- a bucket's head that is on the wire, or of an empty bucket
pub head_known : (buckets : ℕ) (gates : List Gate) (wire : ℕ) (head : Head) → IsHead buckets (bucket_of buckets wire) gates head →
    (head.wire ≡ wire) ⊎ (length gates ≤ head.place) → IsEndOn gates wire head
head_known buckets gates wire head is either = record {
  last = record {
    uses = λ below. uses below either;
    none = λ p below behind. not_in buckets (gate_at gates p) wire (λ one in_it. is.last.none p below behind one in_it);
    past = is.last.past;
  };
  sides = λ one below. sides one below either;
  none = is.none;
}
  where
    uses : head.place < length gates → (head.wire ≡ wire) ⊎ (length gates ≤ head.place) → Touches (gate_at gates head.place) wire
    uses below (inl same) = subst (Touches (gate_at gates head.place)) same (is.uses below)
    uses below (inr past) = absurd (omega arith)

    sides : (one : Bool) → head.place < length gates → (head.wire ≡ wire) ⊎ (length gates ≤ head.place) → is_on one head ≡ (wire_of one (gate_at gates head.place) == wire)
    sides one below (inl same) = is.sides one below ∙ ap (λ (w : ℕ). wire_of one (gate_at gates head.place) == w) same
    sides one below (inr past) = absurd (omega arith)

-- the head of a wire's bucket
pub spot_head : {gates : List Gate} {links : LinksView} {spot : Spot} → AreLinked gates links → IsSpot links.heads spot →
    IsHead (length links.heads) (bucket_of (length links.heads) spot.wire) gates spot.head
spot_head {gates} {links} {spot} linked is =
    subst (λ (h : Head). IsHead (length links.heads) (bucket_of (length links.heads) spot.wire) gates h) (sym (is.head ∙ ap (λ (k : ℕ). head_at links.heads k) is.bucket))
    (linked.heads (bucket_of (length links.heads) spot.wire) (bucket_below (length links.heads) spot.wire linked.some))

-- a head that is on the wire, or of an empty bucket
pub spot_known : (gates : List Gate) (links : LinksView) (spot : Spot) → AreLinked gates links → length gates < far → IsSpot links.heads spot →
    (spot.head.wire ≡ spot.wire) ⊎ (spot.head.place ≡ far) → IsEndOn gates spot.wire spot.head
spot_known gates links spot linked few is either = head_known (length links.heads) gates spot.wire spot.head (spot_head linked is) (by either)
  where
    by : (spot.head.wire ≡ spot.wire) ⊎ (spot.head.place ≡ far) → (spot.head.wire ≡ spot.wire) ⊎ (length gates ≤ spot.head.place)
    by (inl same) = inl same
    by (inr past) = inr (omega arith)

-- numbers without a different bit are one
xor_same : (a b : ℕ) → bit_xor a b ≡ 0 → a ≡ b
xor_same a b none =
    sym (xor_zero_r a) ∙ (ap (λ (n : ℕ). bit_xor a n) (sym (xor_self b)) ∙ (sym (xor_assoc a b b) ∙ (ap (λ (n : ℕ). bit_xor n b) none ∙ xor_zero_l b)))

xor_none : (a b : ℕ) → a ≡ b → bit_xor a b ≡ 0
xor_none a b same = ap (λ (n : ℕ). bit_xor n b) same ∙ xor_self b

pub either_same : (first second wire : ℕ) → min (bit_xor first wire) (bit_xor second wire) ≡ 0 → (first ≡ wire) ⊎ (second ≡ wire)
either_same first second wire none = by (cases_lt (bit_xor first wire) 1)
  where
    by : (bit_xor first wire < 1) ⊎ (1 ≤ bit_xor first wire) → (first ≡ wire) ⊎ (second ≡ wire)
    by (inl less) = inl (xor_same first wire (omega arith))
    by (inr more) = inr (xor_same second wire (omega arith))

pub first_apart : (first second wire : ℕ) → (min (bit_xor first wire) (bit_xor second wire) ≡ 0 → ⊥) → first ≢ wire
first_apart first second wire some same = some (let e : bit_xor first wire ≡ 0 = xor_none first wire same in omega arith)

pub second_apart : (first second wire : ℕ) → (min (bit_xor first wire) (bit_xor second wire) ≡ 0 → ⊥) → second ≢ wire
second_apart first second wire some same = some (let e : bit_xor second wire ≡ 0 = xor_none second wire same in omega arith)
