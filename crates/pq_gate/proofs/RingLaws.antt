use Rattle.std.proofs.Common.{◌≡◌, ℕ, zero, suc, ◌+◌, ◌-◌, ◌*◌, ◌/◌, ◌%◌, refl, ap, sym, ◌∙◌, arith, zero-add, suc-add}
use Rattle.std.specs.Prelude.{◌+ℤ◌, ◌-ℤ◌}
use Rattle.std.proofs.lemmas.Int.{ints}
use Rattle.pq_gate.specs.declared.ring.Ring.{Ring}
use Rattle.pq_gate.specs.Ring.{nought, plus, turn, root, turned, rooted}

-- elements are one where their four numbers are
pub same_numbers : (r s : Ring) → r.a ≡ s.a → r.b ≡ s.b → r.c ≡ s.c → r.d ≡ s.d → r ≡ s
same_numbers r s a b c d = λ i. record { a = a i; b = b i; c = c i; d = d i }

pub plus_comm : (r s : Ring) → plus r s ≡ plus s r
unfolding plus
plus_comm r s = same_numbers _ _ (omega (arith, ints)) (omega (arith, ints)) (omega (arith, ints)) (omega (arith, ints))

pub plus_assoc : (r s t : Ring) → plus (plus r s) t ≡ plus r (plus s t)
unfolding plus
plus_assoc r s t = same_numbers _ _ (omega (arith, ints)) (omega (arith, ints)) (omega (arith, ints)) (omega (arith, ints))

-- the inner two of four are exchanged
pub plus_swap : (r s t u : Ring) → plus (plus r s) (plus t u) ≡ plus (plus r t) (plus s u)
unfolding plus
plus_swap r s t u = same_numbers _ _ (omega (arith, ints)) (omega (arith, ints)) (omega (arith, ints)) (omega (arith, ints))

pub plus-nought : (r : Ring) → plus r nought ≡ r
unfolding plus nought
plus-nought r = same_numbers _ _ (omega (arith, ints)) (omega (arith, ints)) (omega (arith, ints)) (omega (arith, ints))

pub nought-plus : (r : Ring) → plus nought r ≡ r
nought-plus r = plus_comm nought r ∙ plus-nought r

pub turn-plus : (r s : Ring) → turn (plus r s) ≡ plus (turn r) (turn s)
unfolding plus turn
turn-plus r s = same_numbers _ _ (omega (arith, ints)) refl refl refl

pub turn-nought : turn nought ≡ nought
unfolding turn nought
turn-nought = refl

pub root-plus : (r s : Ring) → root (plus r s) ≡ plus (root r) (root s)
unfolding plus root
root-plus r s = same_numbers _ _ (omega (arith, ints)) (omega (arith, ints)) (omega (arith, ints)) (omega (arith, ints))

pub root-turn : (r : Ring) → root (turn r) ≡ turn (root r)
unfolding turn root
root-turn r = same_numbers _ _ (omega (arith, ints)) (omega (arith, ints)) (omega (arith, ints)) (omega (arith, ints))

-- √2 · √2 = 2
pub root-root : (r : Ring) → root (root r) ≡ plus r r
unfolding plus root
root-root r = same_numbers _ _ (omega (arith, ints)) (omega (arith, ints)) (omega (arith, ints)) (omega (arith, ints))

-- √2 can be cancelled: twice the numbers are equal
pub root_cancel : (r s : Ring) → root r ≡ root s → r ≡ s
unfolding root
root_cancel r s same =
    let first : r.b -ℤ r.d ≡ s.b -ℤ s.d = λ i. (same i).a in
    let second : r.a +ℤ r.c ≡ s.a +ℤ s.c = λ i. (same i).b in
    let third : r.b +ℤ r.d ≡ s.b +ℤ s.d = λ i. (same i).c in
    let fourth : r.c -ℤ r.a ≡ s.c -ℤ s.a = λ i. (same i).d in
    same_numbers _ _ (omega (arith, ints)) (omega (arith, ints)) (omega (arith, ints)) (omega (arith, ints))

-- √2 = ω + 1/ω
pub root-turned : (r : Ring) → root r ≡ plus (turned 1 r) (turned 7 r)
unfolding plus root turn
root-turned r = same_numbers _ _ (omega (arith, ints)) (omega (arith, ints)) (omega (arith, ints)) (omega (arith, ints))

-- ω⁸ = 1
pub turned-8 : (r : Ring) → turned 8 r ≡ r
unfolding turn
turned-8 r = same_numbers _ _ (omega (arith, ints)) (omega (arith, ints)) (omega (arith, ints)) (omega (arith, ints))

-- r - r = 0
pub plus-turned_4 : (r : Ring) → plus r (turned 4 r) ≡ nought
unfolding plus turn nought
plus-turned_4 r = same_numbers _ _ (omega (arith, ints)) (omega (arith, ints)) (omega (arith, ints)) (omega (arith, ints))

-- ω^(j + k) = ω^j · ω^k
pub turned-add : (j k : ℕ) (r : Ring) → turned (j + k) r ≡ turned j (turned k r)
turned-add zero k r = rw zero-add
turned-add (suc j) k r = rw suc-add (ap turn (turned-add j k r))

pub rooted-add : (j k : ℕ) (r : Ring) → rooted (j + k) r ≡ rooted j (rooted k r)
rooted-add zero k r = rw zero-add
rooted-add (suc j) k r = rw suc-add (ap root (rooted-add j k r))

pub turned-plus : (k : ℕ) (r s : Ring) → turned k (plus r s) ≡ plus (turned k r) (turned k s)
turned-plus zero r s = refl
turned-plus (suc k) r s = ap turn (turned-plus k r s) ∙ turn-plus (turned k r) (turned k s)

pub rooted-plus : (k : ℕ) (r s : Ring) → rooted k (plus r s) ≡ plus (rooted k r) (rooted k s)
rooted-plus zero r s = refl
rooted-plus (suc k) r s = ap root (rooted-plus k r s) ∙ root-plus (rooted k r) (rooted k s)

pub turned-turn : (k : ℕ) (r : Ring) → turned k (turn r) ≡ turn (turned k r)
turned-turn zero r = refl
turned-turn (suc k) r = ap turn (turned-turn k r)

pub rooted-turn : (k : ℕ) (r : Ring) → rooted k (turn r) ≡ turn (rooted k r)
rooted-turn zero r = refl
rooted-turn (suc k) r = ap root (rooted-turn k r) ∙ root-turn (rooted k r)

pub rooted-turned : (j k : ℕ) (r : Ring) → rooted j (turned k r) ≡ turned k (rooted j r)
rooted-turned j zero r = refl
rooted-turned j (suc k) r = rooted-turn j (turned k r) ∙ ap turn (rooted-turned j k r)

pub rooted_cancel : (k : ℕ) (r s : Ring) → rooted k r ≡ rooted k s → r ≡ s
rooted_cancel zero r s same = same
rooted_cancel (suc k) r s same = rooted_cancel k r s (root_cancel (rooted k r) (rooted k s) same)

pub rooted_comm : (j k : ℕ) (r : Ring) → rooted j (rooted k r) ≡ rooted k (rooted j r)
rooted_comm j k r = sym (rooted-add j k r) ∙ ap (λ (n : ℕ). rooted n r) (omega arith) ∙ rooted-add k j r

pub turned_comm : (j k : ℕ) (r : Ring) → turned j (turned k r) ≡ turned k (turned j r)
turned_comm j k r = sym (turned-add j k r) ∙ ap (λ (n : ℕ). turned n r) (omega arith) ∙ turned-add k j r

-- whole turns change nothing
turned-times_8 : (q : ℕ) (r : Ring) → turned (8 * q) r ≡ r
turned-times_8 zero r = refl
turned-times_8 (suc q) r =
    ap (λ (n : ℕ). turned n r) (omega arith) ∙ turned-add 8 (8 * q) r ∙ turned-8 (turned (8 * q) r) ∙ turned-times_8 q r

pub turned-mod : (k : ℕ) (r : Ring) → turned (k % 8) r ≡ turned k r
turned-mod k r =
    let whole : k ≡ 8 * (k / 8) + k % 8 = omega arith in
    sym (ap (λ (n : ℕ). turned n r) whole ∙ turned-add (8 * (k / 8)) (k % 8) r ∙ turned-times_8 (k / 8) (turned (k % 8) r))

-- the phase that is left of a whole turn
pub turned_back : (k : ℕ) (r : Ring) → turned ((8 - k % 8) % 8) (turned k r) ≡ r
turned_back k r =
    let whole : 8 - k % 8 + k % 8 ≡ 8 = omega arith in
    turned-mod (8 - k % 8) (turned k r) ∙
    ap (turned (8 - k % 8)) (sym (turned-mod k r)) ∙
    sym (turned-add (8 - k % 8) (k % 8) r) ∙
    ap (λ (j : ℕ). turned j r) whole ∙
    turned-8 r
