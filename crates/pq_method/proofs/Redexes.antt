use Rattle.std.proofs.Common.{◌≡◌, ℕ, suc, ◌+◌, ◌-◌, ◌<◌, ◌≤◌, true, false, eqb, List, [], ◌∷◌, ◌++◌, length, map, take, drop, get_or, refl, ap, sym, subst, ◌∙◌, arith, inl, inr, ◌⊎◌}
use Rattle.std.specs.Prelude.{All}
use Rattle.std.proofs.lemmas.Bool.{cases_lt, eqb-true, eq-eqb, cases_Bool, or_cases, or_right, or_left}
use Rattle.std.proofs.lemmas.List.{drop-drop, get_or-map, get_or_append_left, get_or-append-add, length-map, length-append}
use Rattle.std.proofs.Math.Seq.{take-add}
use Rattle.pq_gate.specs.declared.gate.Gate.{Gate}
use Rattle.pq_gate.specs.declared.gate.Gate.TheVariants.{H}
use Rattle.pq_gate.specs.Commuting.{Commutes}
use Rattle.pq_rules.specs.Row.{RowView}
use Rattle.pq_match.specs.Redex.{RedexView, IsRedex, HasNoRedex, AreFree, gate_at, is_chosen, last_place}
use Rattle.pq_method.specs.Round.{run}

-- places after so many more gates in front
abbrev pub shifted : ℕ → List ℕ → List ℕ
shifted k places = map (λ p. k + p) places

-- a chosen place comes from a chosen place
shifted_back : (k : ℕ) (places : List ℕ) (i : ℕ) → is_chosen (shifted k places) i ≡ true → (k ≤ i) × (is_chosen places (i - k) ≡ true)
shifted_back k [] i is = absurd (cc)
shifted_back k (p ∷ places) i is = by (shifted_back k places i) (or_cases (eqb (k + p) i) (is_chosen (shifted k places) i) is)
  where
    by : (is_chosen (shifted k places) i ≡ true → (k ≤ i) × (is_chosen places (i - k) ≡ true)) →
        (eqb (k + p) i ≡ true) ⊎ (is_chosen (shifted k places) i ≡ true) → (k ≤ i) × (is_chosen (p ∷ places) (i - k) ≡ true)
    by more (inl here) =
        let at : k + p ≡ i = eqb-true (k + p) i here in
        (omega (arith, at), or_left (eqb p (i - k)) (is_chosen places (i - k)) (eq-eqb p (i - k) (omega (arith, at))))
    by more (inr later) =
        let rest = more later in
        (rest.0, or_right (eqb p (i - k)) (is_chosen places (i - k)) rest.1)

-- and the other way round
shifted_there : (k : ℕ) (places : List ℕ) (i : ℕ) → is_chosen places i ≡ true → is_chosen (shifted k places) (k + i) ≡ true
shifted_there k [] i is = absurd (cc)
shifted_there k (p ∷ places) i is = by (shifted_there k places i) (or_cases (eqb p i) (is_chosen places i) is)
  where
    by : (is_chosen places i ≡ true → is_chosen (shifted k places) (k + i) ≡ true) →
        (eqb p i ≡ true) ⊎ (is_chosen places i ≡ true) → is_chosen (shifted k (p ∷ places)) (k + i) ≡ true
    by more (inl here) =
        let at : p ≡ i = eqb-true p i here in
        or_left (eqb (k + p) (k + i)) (is_chosen (shifted k places) (k + i)) (eq-eqb (k + p) (k + i) (omega (arith, at)))
    by more (inr later) = or_right (eqb (k + p) (k + i)) (is_chosen (shifted k places) (k + i)) (more later)

shifted_last : (k : ℕ) (p : ℕ) (places : List ℕ) → last_place (shifted k (p ∷ places)) ≡ k + last_place (p ∷ places)
shifted_last k p [] = refl
shifted_last k p (q ∷ places) = shifted_last k q places

last_inside : (n : ℕ) (places : List ℕ) → All (λ i. i < n) places → 0 < length places → last_place places < n
last_inside n [] inside some = absurd (omega arith)
last_inside n (p ∷ []) inside some = inside 0 0 (omega arith)
last_inside n (p ∷ q ∷ places) inside some =
    last_inside n (q ∷ places) (λ k d below. inside (suc k) d (omega arith)) (omega arith)

-- the gates of a run in a longer list
gate_later : (u v x : List Gate) (i : ℕ) → i < length v → gate_at (u ++ (v ++ x)) (length u + i) ≡ gate_at v i
gate_later u v x i lt = get_or-append-add u (v ++ x) i (H 0) ∙ get_or_append_left v x (H 0) i lt

gates_later : (u v x : List Gate) (places : List ℕ) → All (λ i. i < length v) places →
    map (gate_at (u ++ (v ++ x))) (shifted (length u) places) ≡ map (gate_at v) places
gates_later u v x [] inside = refl
gates_later u v x (p ∷ places) inside =
    let first : gate_at (u ++ (v ++ x)) (length u + p) ≡ gate_at v p = gate_later u v x p (inside 0 0 (omega arith)) in
    let rest : map (gate_at (u ++ (v ++ x))) (shifted (length u) places) ≡ map (gate_at v) places =
    gates_later u v x places (λ k d below. inside (suc k) d (omega arith)) in
    (λ i. first i ∷ rest i)

abbrev pub later_redex : ℕ → RedexView → RedexView
later_redex k redex = record { row = redex.row; wires = redex.wires; places = shifted k redex.places }

last_later : (k : ℕ) (places : List ℕ) → 0 < length places → last_place (shifted k places) ≡ k + last_place places
last_later k [] some = absurd (omega arith)
last_later k (p ∷ places) some = shifted_last k p places

-- a redex of a list is one of a longer list
pub redex_in_longer : (rules : List RowView) (u v x : List Gate) (redex : RedexView) → IsRedex rules v redex →
    IsRedex rules (u ++ (v ++ x)) (later_redex (length u) redex)
redex_in_longer rules u v x redex is = record {
  row = is.row;
  numbered = is.numbered;
  wires = is.wires;
  some = omega (arith, is.some, length-map redex.places (λ p. length u + p));
  matches = record {
    rising = λ i j d lt in'. rising i j d lt in';
    inside = λ i d lt. inside i d lt;
    chosen = gates_later u v x redex.places is.matches.inside ∙ is.matches.chosen;
  };
  free = free;
}
  where
    k : ℕ
    k = length u

    long : length (u ++ (v ++ x)) ≡ length u + (length v + length x)
    long = length-append u (v ++ x) ∙ ap (λ n. length u + n) (length-append v x)

    at : (i d : ℕ) → i < length (shifted (length u) redex.places) → get_or (shifted (length u) redex.places) i d ≡ length u + get_or redex.places i 0
    at i d lt = get_or-map (λ p. length u + p) redex.places i 0 d (omega (arith, lt, length-map redex.places (λ p. length u + p)))

    rising : (i j d : ℕ) → i < j → j < length (shifted (length u) redex.places) →
        get_or (shifted (length u) redex.places) i d < get_or (shifted (length u) redex.places) j d
    rising i j d lt in' =
        let up : get_or redex.places i 0 < get_or redex.places j 0 =
        is.matches.rising i j 0 lt (omega (arith, in', length-map redex.places (λ p. length u + p))) in
        omega (arith, up, at i d (omega (arith, lt, in')), at j d in')

    inside : (i d : ℕ) → i < length (shifted (length u) redex.places) → get_or (shifted (length u) redex.places) i d < length (u ++ (v ++ x))
    inside i d lt =
        let below : get_or redex.places i 0 < length v =
        is.matches.inside i 0 (omega (arith, lt, length-map redex.places (λ p. length u + p))) in
        omega (arith, below, long, at i d lt)

    free : AreFree (u ++ (v ++ x)) (shifted (length u) redex.places)
    free i j chosen passed lt upto =
        let back = shifted_back (length u) redex.places i chosen in
        let last : last_place (shifted (length u) redex.places) ≡ length u + last_place redex.places = last_later (length u) redex.places is.some in
        let most : last_place redex.places < length v = last_inside (length v) redex.places is.matches.inside is.some in
        let i_is : i ≡ length u + (i - length u) = omega (arith, back.0) in
        let j_is : j ≡ length u + (j - length u) = omega (arith, back.0, lt) in
        let not_chosen : is_chosen redex.places (j - length u) ≡ false = still (j - length u) (cases_Bool (is_chosen redex.places (j - length u)))
        (λ has. ap (is_chosen (shifted (length u) redex.places)) j_is ∙ shifted_there (length u) redex.places (j - length u) has) passed in
        let commutes : Commutes (gate_at v (i - length u)) (gate_at v (j - length u)) =
        is.free (i - length u) (j - length u) back.1 not_chosen (omega (arith, back.0, lt)) (omega (arith, back.0, lt, upto, last)) in
        let g : gate_at (u ++ (v ++ x)) i ≡ gate_at v (i - length u) =
        ap (gate_at (u ++ (v ++ x))) i_is ∙ gate_later u v x (i - length u) (omega (arith, back.0, lt, upto, last, most)) in
        let h : gate_at (u ++ (v ++ x)) j ≡ gate_at v (j - length u) =
        ap (gate_at (u ++ (v ++ x))) j_is ∙ gate_later u v x (j - length u) (omega (arith, back.0, lt, upto, last, most)) in
        let P : Gate → Type 0 = λ a. Commutes a (gate_at (u ++ (v ++ x)) j) in
        let Q : Gate → Type 0 = λ b. Commutes (gate_at v (i - length u)) b in
        subst P (sym g) (subst Q (sym h) commutes)
      where
        still : (n : ℕ) → (is_chosen redex.places n ≡ true) ⊎ (is_chosen redex.places n ≡ false) →
            (is_chosen redex.places n ≡ true → is_chosen (shifted (length u) redex.places) j ≡ true) →
            is_chosen (shifted (length u) redex.places) j ≡ false → is_chosen redex.places n ≡ false
        still n (inl has) there none = let no_way : true ≡ false = sym (there has) ∙ none in absurd (cc)
        still n (inr none) there has = none

-- the list of no gates has no redex
pub none_of_none : (rules : List RowView) (redex : RedexView) → IsRedex rules [] redex → ⊥
none_of_none rules redex is = omega (arith, last_inside 0 redex.places is.matches.inside is.some)

-- a run by a gap inside it
run_split : (g : List Gate) (a b c : ℕ) → a ≤ b → b ≤ c → run g a c ≡ run g a b ++ run g b c
run_split g a b c low high =
    let e : (b - a) + (c - b) ≡ c - a = omega arith in
    let f : a + (b - a) ≡ b = omega arith in
    ap (λ n. take n (drop a g)) (sym e) ∙
    (take-add (b - a) (c - b) (drop a g) ∙
    ap (λ (r : List Gate). run g a b ++ take (c - b) r) (drop-drop (b - a) a g ∙ ap (λ n. drop n g) f))

-- so a redex of a run is one of a longer run
pub redex_in_run : (rules : List RowView) (g : List Gate) (low from to high : ℕ) (redex : RedexView) → low ≤ from → from ≤ to → to ≤ high →
    IsRedex rules (run g from to) redex → HasNoRedex rules (run g low high) → ⊥
redex_in_run rules g low from to high redex before up behind is none =
    let whole : run g low high ≡ run g low from ++ (run g from to ++ run g to high) =
    run_split g low from high before (omega arith) ∙
    ap (λ (c : List Gate). run g low from ++ c) (run_split g from to high up behind) in
    let found : IsRedex rules (run g low from ++ (run g from to ++ run g to high)) (later_redex (length (run g low from)) redex) =
    redex_in_longer rules (run g low from) (run g from to) (run g to high) redex is in
    let P : List Gate → Type 0 = λ c. IsRedex rules c (later_redex (length (run g low from)) redex) in
    none (later_redex (length (run g low from)) redex) (subst P (sym whole) found)

-- a run with a redex has gates
pub redex_run_long : (rules : List RowView) (g : List Gate) (from to : ℕ) (redex : RedexView) → IsRedex rules (run g from to) redex → from < to
redex_run_long rules g from to redex is = by (cases_lt from to)
  where
    by : (from < to) ⊎ (to ≤ from) → from < to
    by (inl some) = some
    by (inr none) =
        let e : to - from ≡ 0 = omega (arith, none) in
        let empty : run g from to ≡ [] = ap (λ n. take n (drop from g)) e in
        let P : List Gate → Type 0 = λ c. IsRedex rules c redex in
        absurd (none_of_none rules redex (subst P empty is))
