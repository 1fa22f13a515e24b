-- The failed starts that wait again, word by word.
use Rattle.std.proofs.Common.{◌≡◌, ◌≢◌, ℕ, ◌+◌, ◌*◌, ◌/◌, ◌%◌, ◌^◌, ◌<◌, ◌≤◌, ◌⊎◌, Bool, true, false, List, length, get_or, set, bit_or, bit_and, min, max, inl, inr, refl, sym, ap, subst, ◌∙◌, arith}
use Rattle.std.specs.Prelude.{◌↔◌}
use Rattle.std.specs.Int.{bit_at, bit_not, w64}
use Rattle.std.specs.Int.Bits.{and_zero_r}
use Rattle.std.proofs.lemmas.Bool.{cases_eq, cases_lt}
use Rattle.std.proofs.lemmas.Nat.{mod_below, and_le_l, and_assoc, and_comm, or_comm, and_or_self}
use Rattle.std.proofs.lemmas.Nat.Bits.{bit_at_set_same, bit_at_set_other, bit_at_clear_same, bit_at_clear_other, bit_at-zero, bit_at_and, bit_at_or, bit_at_not, bit_at-lt}
use Rattle.std.proofs.lemmas.List.{get_or-set_same, get_or-set_other}
use Rattle.pq_match.specs.declared.looked.Looked.{Looked}
use Rattle.pq_match.specs.Waiting.{HasNumber, IsUnmet, AreWoken, AreWokenIn, LooksWithin, nowhere, AreWithin, NoneBefore, AreMet}

-- a bit less, and a bit more
pub cleared_less : (word bit : ℕ) → bit < 64 → bit_at word bit ≡ 1 → bit_and word (bit_not w64 (1 * 2 ^ bit % 18446744073709551616)) < word
cleared_less word bit below has = by (cases_eq (bit_and word (bit_not w64 (1 * 2 ^ bit % 18446744073709551616))) word)
  where
    left : ℕ
    left = bit_and word (bit_not w64 (1 * 2 ^ bit % 18446744073709551616))

    by : (left ≡ word) ⊎ (left ≡ word → ⊥) → left < word
    by (inl same) = absurd (let clash : 0 ≡ 1 = sym (bit_at_clear_same w64 word bit below) ∙ (ap (λ (x : ℕ). bit_at x bit) same ∙ has) in omega arith)
    by (inr apart) = omega (arith, and_le_l word (bit_not w64 (1 * 2 ^ bit % 18446744073709551616)))

pub cleared_others : (word bit : ℕ) → bit < 64 → (other : ℕ) → other < 64 → other ≢ bit → bit_at (bit_and word (bit_not w64 (1 * 2 ^ bit % 18446744073709551616))) other ≡ bit_at word other
cleared_others word bit below other fits apart = bit_at_clear_other w64 word bit below other fits apart

pub more_has : (word bit : ℕ) → bit < 64 → bit_at (bit_or word (1 * 2 ^ bit % 18446744073709551616)) bit ≡ 1
more_has word bit below = bit_at_set_same w64 word bit below

pub more_keeps : (word bit : ℕ) → bit < 64 → (other : ℕ) → bit_at word other ≡ 1 → bit_at (bit_or word (1 * 2 ^ bit % 18446744073709551616)) other ≡ 1
more_keeps word bit below other has = by (cases_eq other bit)
  where
    by : (other ≡ bit) ⊎ (other ≡ bit → ⊥) → bit_at (bit_or word (1 * 2 ^ bit % 18446744073709551616)) other ≡ 1
    by (inl same) = ap (bit_at (bit_or word (1 * 2 ^ bit % 18446744073709551616))) same ∙ more_has word bit below
    by (inr apart) = bit_at_set_other w64 word bit below other apart ∙ has

-- what is left of a word, and what was found in the rest
pub record AreMetBut (left rest base : ℕ) (reach masks : List ℕ) (first wires found : ℕ) : Type 0 where
  pub each : (bit : ℕ) → bit < 64 → bit_at left bit ≡ 1 → (bit_at rest bit ≡ 1) ⊎ ((bit_at found bit ≡ 1) ⊎ IsUnmet reach masks first wires (base + bit))

pub none_met : (left base : ℕ) (reach masks : List ℕ) (first wires : ℕ) → AreMetBut left left base reach masks first wires 0
none_met left base reach masks first wires = record { each = λ bit below has. inl has }

pub all_met : {left base : ℕ} {reach masks : List ℕ} {first wires found : ℕ} → AreMetBut left 0 base reach masks first wires found → AreMet left base reach masks first wires found
all_met {left} {base} {reach} {masks} {first} {wires} {found} met = record { each = λ bit below has. by bit (met.each bit below has) }
  where
    by : (bit : ℕ) → (bit_at 0 bit ≡ 1) ⊎ ((bit_at found bit ≡ 1) ⊎ IsUnmet reach masks first wires (base + bit)) → (bit_at found bit ≡ 1) ⊎ IsUnmet reach masks first wires (base + bit)
    by bit (inl clash) = absurd (let none : 0 ≡ 1 = sym (bit_at-zero bit) ∙ clash in omega arith)
    by bit (inr is) = is

-- one bit more
pub met_more : {left rest base : ℕ} {reach masks : List ℕ} {first wires found : ℕ} (bit then_rest then_found : ℕ) (met : Bool) → AreMetBut left rest base reach masks first wires found →
    (met ≡ false → IsUnmet reach masks first wires (base + bit)) → (met ≡ true → bit_at then_found bit ≡ 1) →
    ((other : ℕ) → other < 64 → other ≢ bit → bit_at then_rest other ≡ bit_at rest other) → ((other : ℕ) → bit_at found other ≡ 1 → bit_at then_found other ≡ 1) →
    AreMetBut left then_rest base reach masks first wires then_found
met_more {left} {rest} {base} {reach} {masks} {first} {wires} {found} bit then_rest then_found met before unmet is_found others kept = record {
  each = λ other below has. by other below (before.each other below has) (cases_eq other bit);
}
  where
    here : (m : Bool) → met ≡ m → (bit_at then_found bit ≡ 1) ⊎ IsUnmet reach masks first wires (base + bit)
    here true is = inl (is_found is)
    here false is = inr (unmet is)

    by : (other : ℕ) → other < 64 → (bit_at rest other ≡ 1) ⊎ ((bit_at found other ≡ 1) ⊎ IsUnmet reach masks first wires (base + other)) → (other ≡ bit) ⊎ (other ≡ bit → ⊥) →
        (bit_at then_rest other ≡ 1) ⊎ ((bit_at then_found other ≡ 1) ⊎ IsUnmet reach masks first wires (base + other))
    by other below (inl has) (inl same) =
        inr (subst (λ (b : ℕ). (bit_at then_found b ≡ 1) ⊎ IsUnmet reach masks first wires (base + b)) (sym same) (here met refl))
    by other below (inl has) (inr apart) = inl (others other below apart ∙ has)
    by other below (inr (inl has)) _ = inr (inl (kept other has))
    by other below (inr (inr is)) _ = inr (inr is)

-- the first words were gone through
pub record AreWokenTo (waiting failed reach masks : List ℕ) (first wires count : ℕ) : Type 0 where
  pub each : (start : ℕ) → start < 64 * count → HasNumber failed start → (HasNumber waiting start → ⊥) → IsUnmet reach masks first wires start

pub woken_none : (waiting failed reach masks : List ℕ) (first wires : ℕ) → AreWokenTo waiting failed reach masks first wires 0
woken_none waiting failed reach masks first wires = record { each = λ start below has sleeps. absurd (omega arith) }

pub woken_all : {waiting failed reach masks : List ℕ} {first wires : ℕ} (end count : ℕ) → count ≡ min (length waiting) (end / 64 + 1) → end ≤ 64 * length waiting →
    AreWokenTo waiting failed reach masks first wires count → AreWoken waiting failed reach masks first end wires
woken_all end count is inside woken = record { each = λ start below has sleeps. woken.each start (omega (arith, is)) has sleeps }

-- bits of a word with more bits
has_or : (one other bit : ℕ) → (bit_at one bit ≡ 1) ⊎ (bit_at other bit ≡ 1) → bit_at (bit_or one other) bit ≡ 1
has_or one other bit (inl has) = omega (arith, bit_at_or one other bit, has, bit_at-lt other bit)
has_or one other bit (inr has) = omega (arith, bit_at_or one other bit, has, bit_at-lt one bit)

-- a bit that isn't set is left
is_left : (failed woken bit : ℕ) → bit < 64 → woken < 2 ^ 64 → bit_at failed bit ≡ 1 → (bit_at woken bit ≡ 1 → ⊥) → bit_at (bit_and failed (bit_not w64 woken)) bit ≡ 1
is_left failed woken bit below fits has sleeps =
    let zero_there : bit_at woken bit ≡ 0 = by (cases_eq (bit_at woken bit) 1) (bit_at-lt woken bit) in
    omega (arith, bit_at_and failed (bit_not w64 woken) bit, has, bit_at_not w64 woken bit fits below, zero_there)
  where
    by : (bit_at woken bit ≡ 1) ⊎ (bit_at woken bit ≡ 1 → ⊥) → bit_at woken bit < 2 → bit_at woken bit ≡ 0
    by (inl one) small = absurd (sleeps one)
    by (inr other) small = omega arith

-- a word with more bits
pub set_keeps : (waiting : List ℕ) (count found : ℕ) → count < length waiting → (start : ℕ) → HasNumber waiting start → HasNumber (set waiting count (bit_or (get_or waiting count 0) found)) start
set_keeps waiting count found inside start it = by (cases_eq (start / 64) count)
  where
    by : (start / 64 ≡ count) ⊎ (start / 64 ≡ count → ⊥) → HasNumber (set waiting count (bit_or (get_or waiting count 0) found)) start
    by (inl same) = record {
      has = ap (λ (k : ℕ). bit_at (get_or (set waiting count (bit_or (get_or waiting count 0) found)) k 0) (start % 64)) same
          ∙ (ap (λ (x : ℕ). bit_at x (start % 64)) (get_or-set_same waiting count (bit_or (get_or waiting count 0) found) 0 inside)
          ∙ has_or (get_or waiting count 0) found (start % 64) (inl (ap (λ (k : ℕ). bit_at (get_or waiting k 0) (start % 64)) (sym same) ∙ it.has)));
    }
    by (inr apart) = record { has = ap (λ (x : ℕ). bit_at x (start % 64)) (get_or-set_other waiting count (start / 64) (bit_or (get_or waiting count 0) found) 0 apart) ∙ it.has }

-- one word more
pub woken_next : {old new failed reach masks : List ℕ} {first wires count : ℕ} → AreWokenTo old failed reach masks first wires count →
    ((start : ℕ) → HasNumber old start → HasNumber new start) → AreWokenIn new failed reach masks count first wires → AreWokenTo new failed reach masks first wires (count + 1)
woken_next {old} {new} {failed} {reach} {masks} {first} {wires} {count} before kept here = record { each = λ start below has sleeps. by start below has sleeps (cases_lt start (64 * count)) }
  where
    by : (start : ℕ) → start < 64 * (count + 1) → HasNumber failed start → (HasNumber new start → ⊥) → (start < 64 * count) ⊎ (64 * count ≤ start) → IsUnmet reach masks first wires start
    by start below has sleeps (inl less) = before.each start less has (λ it. sleeps (kept start it))
    by start below has sleeps (inr from) = here.each start (omega arith) has sleeps

-- none of a word looked behind the first place, or none at the wires
pub word_unseen : {waiting failed reach masks : List ℕ} {looked : List Looked} {first wires word : ℕ} → AreWithin failed reach masks looked →
    ((get_or looked word nowhere).reach ≤ first) ⊎ (bit_and (get_or looked word nowhere).mask wires ≡ 0) → AreWokenIn waiting failed reach masks word first wires
word_unseen {waiting} {failed} {reach} {masks} {looked} {first} {wires} {word} within none = record {
  each = λ start at has sleeps. by start (subst (λ (k : ℕ). LooksWithin (get_or reach start 0) (get_or masks start 0) (get_or looked k nowhere)) at (within.each start has)) none;
}
  where
    by : (start : ℕ) → LooksWithin (get_or reach start 0) (get_or masks start 0) (get_or looked word nowhere) →
        ((get_or looked word nowhere).reach ≤ first) ⊎ (bit_and (get_or looked word nowhere).mask wires ≡ 0) → IsUnmet reach masks first wires start
    by start looks (inl near) = (let most : get_or reach start 0 ≤ (get_or looked word nowhere).reach = looks.near in inl (omega arith))
    by start looks (inr other) =
        (let mask : ℕ = get_or masks start 0 in
        inr (ap (λ (m : ℕ). bit_and m wires) (sym looks.among) ∙ (and_assoc wires mask (get_or looked word nowhere).mask ∙ (ap (bit_and mask) other ∙ and_zero_r mask))))

-- the bits of a word that were gone through
module _ {failed reach masks : List ℕ} {first wires word : ℕ} (waiting : List ℕ) (found : ℕ) (inside : word < length waiting) (fits : get_or waiting word 0 < 18446744073709551616)
    (met : AreMet (bit_and (get_or failed word 0) (bit_not w64 (get_or waiting word 0))) (word * 64) reach masks first wires found) where
  bits_met : (start : ℕ) → start / 64 ≡ word → HasNumber failed start → (bit_at (get_or waiting word 0) (start % 64) ≡ 1 → ⊥) →
      (bit_at found (start % 64) ≡ 1) ⊎ IsUnmet reach masks first wires start
  bits_met start at has sleeps =
      let parts : word * 64 + start % 64 ≡ start = omega arith in
      let bit : start % 64 < 64 = mod_below start 64 (omega arith) in
      let failed_there : bit_at (get_or failed word 0) (start % 64) ≡ 1 = ap (λ (k : ℕ). bit_at (get_or failed k 0) (start % 64)) (sym at) ∙ has.has in
      subst (λ (p : ℕ). (bit_at found (start % 64) ≡ 1) ⊎ IsUnmet reach masks first wires p) parts
      (met.each (start % 64) bit (is_left (get_or failed word 0) (get_or waiting word 0) (start % 64) bit fits failed_there sleeps))

  pub word_still : found ≡ 0 → AreWokenIn waiting failed reach masks word first wires
  word_still none = record {
    each = λ start at has sleeps.
        by start (bits_met start at has (λ one. sleeps (record { has = ap (λ (k : ℕ). bit_at (get_or waiting k 0) (start % 64)) at ∙ one })));
  }
    where
      by : (start : ℕ) → (bit_at found (start % 64) ≡ 1) ⊎ IsUnmet reach masks first wires start → IsUnmet reach masks first wires start
      by start (inl one) = absurd (let clash : 0 ≡ 1 = sym (bit_at-zero (start % 64)) ∙ (ap (λ (x : ℕ). bit_at x (start % 64)) (sym none) ∙ one) in omega arith)
      by start (inr is) = is

  pub word_woken : AreWokenIn (set waiting word (bit_or (get_or waiting word 0) found)) failed reach masks word first wires
  word_woken = record {
    each = λ start at has sleeps.
        by start at sleeps (bits_met start at has (λ one. sleeps (set_keeps waiting word found inside start (record { has = ap (λ (k : ℕ). bit_at (get_or waiting k 0) (start % 64)) at ∙ one }))));
  }
    where
      by : (start : ℕ) → start / 64 ≡ word → (HasNumber (set waiting word (bit_or (get_or waiting word 0) found)) start → ⊥) → (bit_at found (start % 64) ≡ 1) ⊎ IsUnmet reach masks first wires start →
          IsUnmet reach masks first wires start
      by start at sleeps (inl one) =
          absurd (sleeps (record {
            has = ap (λ (k : ℕ). bit_at (get_or (set waiting word (bit_or (get_or waiting word 0) found)) k 0) (start % 64)) at
                ∙ (ap (λ (x : ℕ). bit_at x (start % 64)) (get_or-set_same waiting word (bit_or (get_or waiting word 0) found) 0 inside)
                ∙ has_or (get_or waiting word 0) found (start % 64) (inr one));
          }))
      by start at sleeps (inr is) = is

-- the words before one that changed have no number
pub none_before_set : {words : List ℕ} {before : ℕ} (word value result : ℕ) → NoneBefore words before → result ≡ min before word → NoneBefore (set words word value) result
none_before_set {words} {before} word value result none is = record {
  none = λ number below it.
      (let apart : number / 64 ≡ word → ⊥ = λ same. omega arith in
      none.none number (omega arith) (record {
        has = ap (λ (x : ℕ). bit_at x (number % 64)) (sym (get_or-set_other words word (number / 64) value 0 apart)) ∙ it.has;
      }));
}

-- more is within more
within_more : (reach mask : ℕ) (all more new : Looked) → new.reach ≡ max all.reach more.reach → new.mask ≡ bit_or all.mask more.mask → LooksWithin reach mask all → LooksWithin reach mask new
within_more reach mask all more new new_reach new_mask looks = record {
  near = (let most : reach ≤ all.reach = looks.near in omega arith);
  among =
      (let whole : bit_and all.mask (bit_or all.mask more.mask) ≡ all.mask =
      and_comm all.mask (bit_or all.mask more.mask) ∙ (ap (λ (x : ℕ). bit_and x all.mask) (or_comm all.mask more.mask) ∙ and_or_self all.mask more.mask) in
      ap (bit_and mask) new_mask ∙ (ap (λ (m : ℕ). bit_and m (bit_or all.mask more.mask)) (sym looks.among)
      ∙ (and_assoc (bit_or all.mask more.mask) mask all.mask ∙ (ap (bit_and mask) whole ∙ looks.among))));
}

within_own : (all own new : Looked) → new.reach ≡ max all.reach own.reach → new.mask ≡ bit_or all.mask own.mask → LooksWithin own.reach own.mask new
within_own all own new new_reach new_mask = record {
  near = omega arith;
  among = ap (bit_and own.mask) new_mask ∙ (and_comm own.mask (bit_or all.mask own.mask) ∙ and_or_self own.mask all.mask);
}

-- one more failed, and it is noted what it looked at
pub within_noted : {failed then_failed reach masks : List ℕ} {looked : List Looked} (start : ℕ) (own new : Looked) → start < length reach → start < length masks → start / 64 < length looked →
    AreWithin failed reach masks looked → ((other : ℕ) → other ≢ start → HasNumber then_failed other ↔ HasNumber failed other) →
    new.reach ≡ max (get_or looked (start / 64) nowhere).reach own.reach → new.mask ≡ bit_or (get_or looked (start / 64) nowhere).mask own.mask →
    AreWithin then_failed (set reach start own.reach) (set masks start own.mask) (set looked (start / 64) new)
within_noted {failed} {then_failed} {reach} {masks} {looked} start own new inside mask_inside word_inside within others new_reach new_mask = record {
  each = λ other has. by other has (cases_eq other start) (cases_eq (other / 64) (start / 64));
}
  where
    at : (other r m : ℕ) (l : Looked) → get_or (set reach start own.reach) other 0 ≡ r → get_or (set masks start own.mask) other 0 ≡ m → get_or (set looked (start / 64) new) (other / 64) nowhere ≡ l →
        LooksWithin r m l → LooksWithin (get_or (set reach start own.reach) other 0) (get_or (set masks start own.mask) other 0) (get_or (set looked (start / 64) new) (other / 64) nowhere)
    at other r m l r_is m_is l_is = subst (λ (x : Type 0). x) (λ i. LooksWithin (sym r_is i) (sym m_is i) (sym l_is i))

    word_new : (other : ℕ) → other / 64 ≡ start / 64 → get_or (set looked (start / 64) new) (other / 64) nowhere ≡ new
    word_new other word = ap (λ (k : ℕ). get_or (set looked (start / 64) new) k nowhere) word ∙ get_or-set_same looked (start / 64) new nowhere word_inside

    by : (other : ℕ) → HasNumber then_failed other → (other ≡ start) ⊎ (other ≡ start → ⊥) → (other / 64 ≡ start / 64) ⊎ (other / 64 ≡ start / 64 → ⊥) →
        LooksWithin (get_or (set reach start own.reach) other 0) (get_or (set masks start own.mask) other 0) (get_or (set looked (start / 64) new) (other / 64) nowhere)
    by other has (inl same) (inl word) =
        at other own.reach own.mask new (ap (λ (k : ℕ). get_or (set reach start own.reach) k 0) same ∙ get_or-set_same reach start own.reach 0 inside)
        (ap (λ (k : ℕ). get_or (set masks start own.mask) k 0) same ∙ get_or-set_same masks start own.mask 0 mask_inside) (word_new other word)
        (within_own (get_or looked (start / 64) nowhere) own new new_reach new_mask)
    by other has (inl same) (inr word) = absurd (word (ap (λ (k : ℕ). k / 64) same))
    by other has (inr apart) (inl word) =
        at other (get_or reach other 0) (get_or masks other 0) new (get_or-set_other reach start other own.reach 0 apart) (get_or-set_other masks start other own.mask 0 apart) (word_new other word)
        (within_more (get_or reach other 0) (get_or masks other 0) (get_or looked (start / 64) nowhere) own new new_reach new_mask
        (subst (λ (k : ℕ). LooksWithin (get_or reach other 0) (get_or masks other 0) (get_or looked k nowhere)) word (within.each other ((others other apart).0 has))))
    by other has (inr apart) (inr word) =
        at other (get_or reach other 0) (get_or masks other 0) (get_or looked (other / 64) nowhere) (get_or-set_other reach start other own.reach 0 apart)
        (get_or-set_other masks start other own.mask 0 apart) (get_or-set_other looked (start / 64) (other / 64) new nowhere word) (within.each other ((others other apart).0 has))

-- where none failed
pub within_none : {failed reach masks : List ℕ} {looked : List Looked} → ((start : ℕ) → HasNumber failed start → ⊥) → AreWithin failed reach masks looked
within_none none = record { each = λ start has. absurd (none start has) }

-- where it is forgotten of one that it failed
pub within_fewer : {failed then_failed reach masks : List ℕ} {looked : List Looked} (start : ℕ) → AreWithin failed reach masks looked → (HasNumber then_failed start → ⊥) →
    ((other : ℕ) → other ≢ start → HasNumber then_failed other ↔ HasNumber failed other) → AreWithin then_failed reach masks looked
within_fewer {failed} {then_failed} {reach} {masks} {looked} start within gone others = record { each = λ other has. by other has (cases_eq other start) }
  where
    by : (other : ℕ) → HasNumber then_failed other → (other ≡ start) ⊎ (other ≡ start → ⊥) → LooksWithin (get_or reach other 0) (get_or masks other 0) (get_or looked (other / 64) nowhere)
    by other has (inl same) = absurd (gone (subst (HasNumber then_failed) same has))
    by other has (inr apart) = within.each other ((others other apart).0 has)
