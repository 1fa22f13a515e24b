use Rattle.std.proofs.Common.{◌≡◌, ℕ, zero, suc, ◌+◌, ◌<◌, ◌≤◌, Bool, true, false, cond, List, [], ◌∷◌, length, Some, ap, ◌∙◌, arith}
use Rattle.std.specs.List.{All, AllPairs, slice_get}
use Rattle.std.proofs.lemmas.Bool.{eq-eqb}
use Rattle.std.proofs.lemmas.List.Kept.{AllPairs-cons}
use Rattle.pq_gate.specs.declared.gate.Gate.{Gate}
use Rattle.pq_gate.specs.Kind.{kind_of, number_of}
use Rattle.pq_rules.specs.Kinds.{begins, numbers_where, row_numbered}
use Rattle.pq_rules.specs.Row.{RowView}
use Rattle.pq_match.specs.Redex.{gate_at}
use Rattle.pq_match.specs.Settled.{StandsAt}

pub begins_by_kind : (kind : ℕ) (pattern : List Gate) → 0 < length pattern → number_of (kind_of (gate_at pattern 0)) ≡ kind → begins kind pattern ≡ true
begins_by_kind kind [] some same = absurd (omega arith)
begins_by_kind kind (gate ∷ rest) some same = eq-eqb (number_of (kind_of gate)) kind same

All-least : (a b : ℕ) (xs : List ℕ) → a ≤ b → All (λ n. b ≤ n) xs → All (λ n. a ≤ n) xs
All-least a b xs less all k d below = omega (arith, all k d below)

all_cons : (a x : ℕ) (xs : List ℕ) → a ≤ x → All (λ n. a ≤ n) xs → All (λ n. a ≤ n) (x ∷ xs)
all_cons a x xs least all zero d below = least
all_cons a x xs least all (suc k) d below = all k d (omega arith)

least_more : (b : Bool) (first : ℕ) (rest : List ℕ) → All (λ n. first + 1 ≤ n) rest → All (λ n. first ≤ n) (cond b (first ∷ rest) rest)
least_more true first rest all = all_cons first first rest (omega arith) (All-least first (first + 1) rest (omega arith) all)
least_more false first rest all = All-least first (first + 1) rest (omega arith) all

-- no number is less than that of the first row
numbers_least : (wanted : RowView → Bool) (first : ℕ) (rows : List RowView) → All (λ n. first ≤ n) (numbers_where wanted first rows)
numbers_least wanted first [] = λ k d below. absurd (omega arith)
numbers_least wanted first (row ∷ rows) =
    least_more (wanted row) first (numbers_where wanted (first + 1) rows) (numbers_least wanted (first + 1) rows)

rise_more : (b : Bool) (first : ℕ) (rest : List ℕ) → All (λ n. first + 1 ≤ n) rest → AllPairs (λ i j. i < j) rest → AllPairs (λ i j. i < j) (cond b (first ∷ rest) rest)
rise_more true first rest all rise = AllPairs-cons (λ i j. i < j) first rest (λ k d below. omega (arith, all k d below)) rise
rise_more false first rest all rise = rise

pub numbers_rise : (wanted : RowView → Bool) (first : ℕ) (rows : List RowView) → AllPairs (λ i j. i < j) (numbers_where wanted first rows)
numbers_rise wanted first [] = λ i j d less below. absurd (omega arith)
numbers_rise wanted first (row ∷ rows) =
    rise_more (wanted row) first (numbers_where wanted (first + 1) rows) (numbers_least wanted (first + 1) rows) (numbers_rise wanted (first + 1) rows)

stands_more : (b : Bool) (first number : ℕ) (rest : List ℕ) → StandsAt rest number → StandsAt (cond b (first ∷ rest) rest) number
stands_more true first number rest stands = record {
  at = suc stands.at;
  below = (let b : stands.at < length rest = stands.below in omega arith);
  is = stands.is;
}
stands_more false first number rest stands = stands

stands_here : (b : Bool) (first number : ℕ) (rest : List ℕ) → b ≡ true → first ≡ number → StandsAt (cond b (first ∷ rest) rest) number
stands_here true first number rest begin same = record { at = 0; below = omega arith; is = same }
stands_here false first number rest begin same = absurd (cc)

-- a row with the property is listed
pub number_stands : (wanted : RowView → Bool) (first : ℕ) (rows : List RowView) (k number : ℕ) (row : RowView) → slice_get rows k ≡ Some row → wanted row ≡ true →
    first + k ≡ number → StandsAt (numbers_where wanted first rows) number
number_stands wanted first [] k number row at is same = absurd (cc)
number_stands wanted first (r ∷ rows) zero number row at is same =
    let e : r ≡ row = cc in
    stands_here (wanted r) first number (numbers_where wanted (first + 1) rows) (ap wanted e ∙ is) (omega arith)
number_stands wanted first (r ∷ rows) (suc k) number row at is same =
    stands_more (wanted r) first number (numbers_where wanted (first + 1) rows)
    (number_stands wanted (first + 1) rows k number row at is (omega arith))

-- the number of a row with the property is listed
pub stands_where : (wanted : RowView → Bool) (rules : List RowView) (number : ℕ) (row : RowView) → row_numbered rules number ≡ Some row → wanted row ≡ true →
    StandsAt (numbers_where wanted 1 rules) number
stands_where wanted rules zero row numbered is = absurd (cc)
stands_where wanted rules (suc k) row numbered is = number_stands wanted 1 rules k (suc k) row numbered is (omega arith)
