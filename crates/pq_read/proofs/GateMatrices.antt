-- The expansions have the matrices of their gates: entry by entry.
use Rattle.std.proofs.Common.{◌≡◌, Bool, true, false, [], ◌∷◌, refl}
use Rattle.pq_gate.specs.Matrix.{Entry}
use Rattle.pq_gate.specs.Ring.{nought, one, plus, turn, root, rooted}
use Rattle.pq_read.specs.declared.word.GateWord.TheVariants.{Y, Cz, Cy, Swap, Ccx}
use Rattle.pq_read.specs.Expansion.{expansion}
use Rattle.pq_read.specs.GateMatrices.{y_entry, cz_entry, cy_entry, swap_entry, ccx_entry}

-- a fact of each value of two bits
two_bits : (P : Bool → Bool → Type 0) → P false false → P false true → P true false → P true true → (p q : Bool) → P p q
two_bits P a b c d false false = a
two_bits P a b c d false true = b
two_bits P a b c d true false = c
two_bits P a b c d true true = d

pub y_entries : (p s : Bool) → Entry (expansion Y 0 1 2) (p ∷ []) (s ∷ []) ≡ y_entry p (s ∷ [])
unfolding nought one plus turn root
y_entries = two_bits (λ p s. Entry (expansion Y 0 1 2) (p ∷ []) (s ∷ []) ≡ y_entry p (s ∷ [])) refl refl refl refl

abbrev CzEntry : Bool → Bool → Bool → Bool → Type 0
CzEntry p q s t = Entry (expansion Cz 0 1 2) (p ∷ q ∷ []) (s ∷ t ∷ []) ≡ rooted 2 (cz_entry p q (s ∷ t ∷ []))

pub cz_entries : (p q s t : Bool) → CzEntry p q s t
unfolding nought one plus turn root
cz_entries =
    two_bits (λ p q. (s t : Bool) → CzEntry p q s t) (two_bits (CzEntry false false) refl refl refl refl) (two_bits (CzEntry false true) refl refl refl refl)
    (two_bits (CzEntry true false) refl refl refl refl) (two_bits (CzEntry true true) refl refl refl refl)

abbrev CyEntry : Bool → Bool → Bool → Bool → Type 0
CyEntry p q s t = Entry (expansion Cy 0 1 2) (p ∷ q ∷ []) (s ∷ t ∷ []) ≡ cy_entry p q (s ∷ t ∷ [])

pub cy_entries : (p q s t : Bool) → CyEntry p q s t
unfolding nought one plus turn root
cy_entries =
    two_bits (λ p q. (s t : Bool) → CyEntry p q s t) (two_bits (CyEntry false false) refl refl refl refl) (two_bits (CyEntry false true) refl refl refl refl)
    (two_bits (CyEntry true false) refl refl refl refl) (two_bits (CyEntry true true) refl refl refl refl)

abbrev SwapEntry : Bool → Bool → Bool → Bool → Type 0
SwapEntry p q s t = Entry (expansion Swap 0 1 2) (p ∷ q ∷ []) (s ∷ t ∷ []) ≡ swap_entry p q (s ∷ t ∷ [])

pub swap_entries : (p q s t : Bool) → SwapEntry p q s t
unfolding nought one plus turn root
swap_entries =
    two_bits (λ p q. (s t : Bool) → SwapEntry p q s t) (two_bits (SwapEntry false false) refl refl refl refl) (two_bits (SwapEntry false true) refl refl refl refl)
    (two_bits (SwapEntry true false) refl refl refl refl) (two_bits (SwapEntry true true) refl refl refl refl)

abbrev CcxEntry : Bool → Bool → Bool → Bool → Bool → Bool → Type 0
CcxEntry p q r s t u = Entry (expansion Ccx 0 1 2) (p ∷ q ∷ r ∷ []) (s ∷ t ∷ u ∷ []) ≡ rooted 2 (ccx_entry p q r (s ∷ t ∷ u ∷ []))

-- where the first two wires of the state are these, for both values of the third
ccx_from : (p q : Bool) → ((t u : Bool) → CcxEntry p q false false t u) → ((t u : Bool) → CcxEntry p q false true t u) → ((t u : Bool) → CcxEntry p q true false t u) → ((t u : Bool) → CcxEntry p q true true t u)
    → (r s t u : Bool) → CcxEntry p q r s t u
ccx_from p q a b c d = two_bits (λ r s. (t u : Bool) → CcxEntry p q r s t u) a b c d

pub ccx_entries : (p q r s t u : Bool) → CcxEntry p q r s t u
unfolding nought one plus turn root
ccx_entries =
    two_bits (λ p q. (r s t u : Bool) → CcxEntry p q r s t u)
    (ccx_from false false (two_bits (CcxEntry false false false false) refl refl refl refl) (two_bits (CcxEntry false false false true) refl refl refl refl)
    (two_bits (CcxEntry false false true false) refl refl refl refl) (two_bits (CcxEntry false false true true) refl refl refl refl))
    (ccx_from false true (two_bits (CcxEntry false true false false) refl refl refl refl) (two_bits (CcxEntry false true false true) refl refl refl refl)
    (two_bits (CcxEntry false true true false) refl refl refl refl) (two_bits (CcxEntry false true true true) refl refl refl refl))
    (ccx_from true false (two_bits (CcxEntry true false false false) refl refl refl refl) (two_bits (CcxEntry true false false true) refl refl refl refl)
    (two_bits (CcxEntry true false true false) refl refl refl refl) (two_bits (CcxEntry true false true true) refl refl refl refl))
    (ccx_from true true (two_bits (CcxEntry true true false false) refl refl refl refl) (two_bits (CcxEntry true true false true) refl refl refl refl)
    (two_bits (CcxEntry true true true false) refl refl refl refl) (two_bits (CcxEntry true true true true) refl refl refl refl))
