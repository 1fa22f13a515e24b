use Rattle.std.specs.Prelude.{ℕ, zero, suc, Bool, cond, pos, ◌+ℤ◌, ◌-ℤ◌, neg_ℤ, FitsSigned}
use Rattle.std.specs.Int.{w64}
use Rattle.pq_gate.specs.declared.ring.Ring.{Ring}

-- The ring of all a + bω + cω² + dω³ with whole numbers a, b, c, d without bounds, where ω is the
-- eighth root of unity e^(iπ/4), so ω⁴ = -1, and √2 is ω - ω³.

-- 0
unfoldable pub nought : Ring
nought = record { a = pos 0; b = pos 0; c = pos 0; d = pos 0 }

-- 1
unfoldable pub one : Ring
one = record { a = pos 1; b = pos 0; c = pos 0; d = pos 0 }

-- the sum
unfoldable pub plus : Ring → Ring → Ring
plus r s = record { a = r.a +ℤ s.a; b = r.b +ℤ s.b; c = r.c +ℤ s.c; d = r.d +ℤ s.d }

-- ω times r
unfoldable pub turn : Ring → Ring
turn r = record { a = neg_ℤ r.d; b = r.a; c = r.b; d = r.c }

-- √2 times r
unfoldable pub root : Ring → Ring
root r = record { a = r.b -ℤ r.d; b = r.a +ℤ r.c; c = r.b +ℤ r.d; d = r.c -ℤ r.a }

-- ω^k times r; so -r is `turned 4 r`
abbrev pub turned : ℕ → Ring → Ring
turned zero r = r
turned (suc k) r = turn (turned k r)

-- √2^k times r
abbrev pub rooted : ℕ → Ring → Ring
rooted zero r = r
rooted (suc k) r = root (rooted k r)

-- ω^k times r where the bit is 1, else r
abbrev pub turned_if : Bool → ℕ → Ring → Ring
turned_if bit k r = cond bit (turned k r) r

-- each of the four numbers is one of an i64
pub record FitsI64 (r : Ring) : Type 0 where
  pub a : FitsSigned w64 r.a
  pub b : FitsSigned w64 r.b
  pub c : FitsSigned w64 r.c
  pub d : FitsSigned w64 r.d
