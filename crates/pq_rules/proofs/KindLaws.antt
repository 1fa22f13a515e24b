use Rattle.std.proofs.Common.{◌≡◌, ℕ, suc, ◌+◌, ◌<◌, Bool, true, false, cond, List, [], ◌∷◌, ◌++◌, take, length, get_or, sym, ap, ◌∙◌, arith}
use Rattle.std.proofs.lemmas.List.{take_more, length-take}
use Rattle.pq_rules.specs.Kinds.{numbers_where}
use Rattle.pq_rules.specs.Row.{RowView}

numbers_behind : (wanted : RowView → Bool) (first : ℕ) (rows : List RowView) (row : RowView) →
    numbers_where wanted first (rows ++ row ∷ []) ≡
    numbers_where wanted first rows ++ cond (wanted row) ((first + length rows) ∷ []) []
numbers_behind wanted first [] row = ap (λ (n : ℕ). cond (wanted row) (n ∷ []) []) (omega arith)
numbers_behind wanted first (x ∷ rows) row =
    let rest : numbers_where wanted (first + 1) (rows ++ row ∷ []) ≡
    numbers_where wanted (first + 1) rows ++ cond (wanted row) ((first + suc (length rows)) ∷ []) [] =
    numbers_behind wanted (first + 1) rows row ∙
    ap (λ (n : ℕ). numbers_where wanted (first + 1) rows ++ cond (wanted row) (n ∷ []) []) (omega arith) in
    elim (wanted x) as (λ p. cond p (first ∷ numbers_where wanted (first + 1) (rows ++ row ∷ [])) (numbers_where wanted (first + 1) (rows ++ row ∷ [])) ≡
    cond p (first ∷ numbers_where wanted (first + 1) rows) (numbers_where wanted (first + 1) rows) ++ cond (wanted row) ((first + suc (length rows)) ∷ []) [])
    [ true ↦ ap (λ (ns : List ℕ). first ∷ ns) rest | false ↦ rest ]

-- one row more
pub numbers_more : (wanted : RowView → Bool) (first : ℕ) (rows : List RowView) (i : ℕ) (d : RowView) → i < length rows →
    numbers_where wanted first (take (i + 1) rows) ≡
    numbers_where wanted first (take i rows) ++ cond (wanted (get_or rows i d)) ((first + i) ∷ []) []
numbers_more wanted first rows i d inside =
    let len : length (take i rows) ≡ i = omega (arith, length-take i rows) in
    ap (numbers_where wanted first) (take_more rows i d inside) ∙
    numbers_behind wanted first (take i rows) (get_or rows i d) ∙
    ap (λ (n : ℕ). numbers_where wanted first (take i rows) ++ cond (wanted (get_or rows i d)) ((first + n) ∷ []) []) len

-- the row at a place of the list was looked at
pub number_pushed : (wanted : RowView → Bool) (rows : List RowView) (i number : ℕ) (d : RowView) (old new : List ℕ) (is : Bool) → i < length rows → number ≡ i + 1 →
    old ≡ numbers_where wanted 1 (take i rows) → is ≡ wanted (get_or rows i d) → new ≡ old ++ cond is (number ∷ []) [] →
    new ≡ numbers_where wanted 1 (take (i + 1) rows)
number_pushed wanted rows i number d old new is inside number_is old_is test pushed =
    let e : number ≡ 1 + i = omega arith in
    pushed ∙ (ap (λ (ns : List ℕ). ns ++ cond is (number ∷ []) []) old_is
    ∙ (ap (λ (p : Bool). numbers_where wanted 1 (take i rows) ++ cond p (number ∷ []) []) test
    ∙ (ap (λ (n : ℕ). numbers_where wanted 1 (take i rows) ++ cond (wanted (get_or rows i d)) (n ∷ []) []) e
    ∙ sym (numbers_more wanted 1 rows i d inside))))
