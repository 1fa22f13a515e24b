-- The wires of a barrier, and what is known of them.
use Rattle.std.proofs.Common.{◌≡◌, ℕ, zero, suc, ◌+◌, ◌<◌, ◌≤◌, true, false, ◌||◌, eqb, cond, List, [], ◌∷◌, ◌++◌, length, get_or, set, replicate, refl, sym, ap, ◌∙◌, subst, inl, inr, arith}
use Rattle.std.proofs.lemmas.Bool.{false≢true, cases_lt, cases_eq}
use Rattle.std.proofs.lemmas.List.{get_or-set_same, get_or-set_other, get_or-replicate, length-replicate, length-set, get_or_past, get_or_default}
use Rattle.std.proofs.lemmas.List.Folds.{list_any-append}
use borrow.Author.Tests.{eq-eqb}
use Rattle.pq_read.specs.Marks.{has, AreMarked}
use Rattle.pq_read.specs.After.{adjoined, adjoined_below}

-- a wire stays listed where another one is adjoined
has_still : (wires : List ℕ) (w v : ℕ) → has wires v ≡ true → has (adjoined wires w) v ≡ true
has_still wires w v h =
    elim (has wires w) as (λ b. has (cond b wires (wires ++ w ∷ [])) v ≡ true) [
      | true ↦ h
      | false ↦ list_any-append (λ x. eqb x v) wires (w ∷ []) ∙ ap (λ b. b || (eqb w v || false)) h
    ]

has_now : (wires : List ℕ) (w : ℕ) → has (adjoined wires w) w ≡ true
has_now wires w =
    elim (has wires w) as (λ b. has wires w ≡ b → has (cond b wires (wires ++ w ∷ [])) w ≡ true) [
      | true ↦ λ is. is
      | false ↦ λ is. list_any-append (λ x. eqb x w) wires (w ∷ []) ∙ ap (λ b. b || (eqb w w || false)) is ∙ ap (λ b. b || false) (eq-eqb w w refl)
    ] refl

-- wires that are listed all are not listed again
pub none_new : (wires : List ℕ) (first n : ℕ) → ((k : ℕ) → k < n → has wires (first + k) ≡ true) → adjoined_below wires first n ≡ wires
none_new wires first zero all = refl
none_new wires first (suc n) all =
    let before : adjoined_below wires first n ≡ wires = none_new wires first n (λ k h. all k (omega arith)) in
    ap (λ ws. adjoined ws (first + n)) before ∙ ap (λ b. cond b wires (wires ++ ((first + n) ∷ []))) (all n (omega arith))

-- each of the wires of an argument is listed then
pub all_listed : (wires : List ℕ) (first n k : ℕ) → k < n → has (adjoined_below wires first n) (first + k) ≡ true
all_listed wires first zero k h = absurd (omega arith)
all_listed wires first (suc n) k h =
    elim (cases_lt k n) [
      | inl lt ↦ has_still (adjoined_below wires first n) (first + n) (first + k) (all_listed wires first n k lt)
      | inr le ↦ let same : n ≡ k = omega arith in subst (λ j. has (adjoined (adjoined_below wires first n) (first + n)) (first + j) ≡ true) same (has_now (adjoined_below wires first n) (first + n))
    ]

-- so many wires from one on are listed
pub marked_whole : (wires known : List ℕ) (first n : ℕ) → AreMarked wires known → first < 4096 → 1 ≤ n → ((k : ℕ) → k < n → has wires (first + k) ≡ true)
    → AreMarked wires (set known first n)
marked_whole wires known first n old within some all = record {
  sized = length-set known first n ∙ old.sized;
  listed = λ w k h. elim (cases_eq w first) [
    | inl same ↦
        let at : get_or (set known first n) w 0 ≡ n = ap (λ v. get_or (set known first n) v 0) same ∙ get_or-set_same known first n 0 (omega (arith, old.sized)) in
        subst (λ v. has wires (v + k) ≡ true) (sym same) (all k (omega arith))
    | inr other ↦
        let at : get_or (set known first n) w 0 ≡ get_or known w 0 = get_or-set_other known first w n 0 other in
        old.listed w k (omega arith)
  ];
  told = λ w h. elim (cases_eq w first) [
    | inl same ↦
        let at : get_or (set known first n) w 0 ≡ n = ap (λ v. get_or (set known first n) v 0) same ∙ get_or-set_same known first n 0 (omega (arith, old.sized)) in
        omega arith
    | inr other ↦
        let at : get_or (set known first n) w 0 ≡ get_or known w 0 = get_or-set_other known first w n 0 other in
        let before : 1 ≤ get_or known w 0 = old.told w h in
        omega arith
  ];
}

abbrev pub zeros : ℕ → List ℕ
zeros n = replicate n 0

zero_at : (n w : ℕ) → get_or (zeros n) w 0 ≡ 0
zero_at n w = elim (cases_lt w n) [
  | inl lt ↦ get_or-replicate n w 0 0 lt
  | inr le ↦ get_or_past (zeros n) w 0 (let len : length (zeros n) ≡ n = length-replicate n 0 in omega arith)
]

-- no wire is listed, and none is known
pub none_marked : (wires known : List ℕ) (n : ℕ) → wires ≡ [] → n ≡ 4096 → known ≡ zeros n → AreMarked wires known
none_marked wires known n none sized empty = record {
  sized = ap length empty ∙ (length-replicate n 0 ∙ sized);
  listed = λ w k h.
      let at : get_or known w 0 ≡ 0 = ap (λ l. get_or l w 0) empty ∙ zero_at n w in
      absurd (omega arith);
  told = λ w h. absurd (false≢true (sym (ap (λ ws. has ws w) none) ∙ h));
}

-- the first wires of an argument, as many as are known to be listed, aren't new
pub known_first : (wires known view : List ℕ) (first n x : ℕ) → AreMarked wires known → wires ≡ view → first < 4096 → x ≡ get_or known first x → n ≤ x
    → adjoined_below view first n ≡ view
known_first wires known view first n x marked same within read le =
    let at : get_or known first x ≡ get_or known first 0 = get_or_default known first x 0 (omega (arith, marked.sized)) in
    none_new view first n (λ k h. subst (λ ws. has ws (first + k) ≡ true) same (marked.listed first k (omega arith)))
