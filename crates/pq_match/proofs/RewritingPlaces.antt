-- The gates that aren't chosen, gone over place by place with a pointer into the chosen places.
use Rattle.std.proofs.Common.{◌≡◌, ◌≢◌, ℕ, ◌+◌, ◌<◌, ◌≤◌, Bool, true, false, cond, List, [], ◌∷◌, ◌++◌, length, get_or, set, take, drop, refl, sym, ap, ◌∙◌, inl, inr, arith, eq-eqb, eqb, ◌-◌, zero, suc}
use Rattle.std.specs.List.{AllPairs}
use Rattle.std.proofs.lemmas.Bool.{ne_eqb, cases_lt}
use Rattle.std.proofs.lemmas.List.{take_more, take_more_set, get_or_default, get_or-drop, drop-set-lt, drop-drop, append-nil, length-take}
use Rattle.std.proofs.lemmas.List.Folds.{list_any_none, list_any_at}
use Rattle.pq_gate.specs.declared.gate.Gate.{Gate}
use Rattle.pq_gate.specs.declared.gate.Gate.TheVariants.{H}
use Rattle.pq_match.specs.Redex.{is_chosen, last_place}
use Rattle.pq_match.specs.Rewrite.{unchosen}

cond_append : (chosen : Bool) (gate : Gate) (xs ys : List Gate)
    → cond chosen (xs ++ ys) (gate ∷ (xs ++ ys)) ≡ cond chosen xs (gate ∷ xs) ++ ys
cond_append true gate xs ys = refl
cond_append false gate xs ys = refl

pub unchosen-append : (places : List ℕ) (from : ℕ) (xs ys : List Gate)
    → unchosen places from (xs ++ ys) ≡ unchosen places from xs ++ unchosen places (from + length xs) ys
unchosen-append places from [] ys = ap (λ n. unchosen places n ys) (let e : from ≡ from + 0 = omega arith in e)
unchosen-append places from (gate ∷ xs) ys =
    let e : (from + 1) + length xs ≡ from + length (gate ∷ xs) = omega arith in
    ap (λ zs. cond (is_chosen places from) zs (gate ∷ zs))
    (unchosen-append places (from + 1) xs ys ∙ ap (λ n. unchosen places (from + 1) xs ++ unchosen places n ys) e)
    ∙ cond_append (is_chosen places from) gate (unchosen places (from + 1) xs) (unchosen places (from + length (gate ∷ xs)) ys)

-- where none is chosen, all stay
pub unchosen_none : (places : List ℕ) (from : ℕ) (gates : List Gate)
    → ((i : ℕ) → i < from + length gates → is_chosen places i ≡ false) → unchosen places from gates ≡ gates
unchosen_none places from [] none = refl
unchosen_none places from (gate ∷ gates) none =
    let here : is_chosen places from ≡ false = none from (omega arith) in
    rw here (ap (λ zs. gate ∷ zs) (unchosen_none places (from + 1) gates (λ i below. none i (omega arith))))

one_more : (places : List ℕ) (gates : List Gate) (i : ℕ) (gate : Gate) → i < length gates
    → unchosen places 0 (take (i + 1) gates) ≡ unchosen places 0 (take i gates) ++ cond (is_chosen places i) [] (get_or gates i gate ∷ [])
one_more places gates i gate inside =
    let e : 0 + length (take i gates) ≡ i = omega (arith, length-take i gates) in
    ap (unchosen places 0) (take_more gates i gate inside)
    ∙ unchosen-append places 0 (take i gates) (get_or gates i gate ∷ [])
    ∙ ap (λ n. unchosen places 0 (take i gates) ++ cond (is_chosen places n) [] (get_or gates i gate ∷ [])) e

pub unchosen_chosen : (places : List ℕ) (gates : List Gate) (i : ℕ) (gate : Gate) → i < length gates → is_chosen places i ≡ true
    → unchosen places 0 (take (i + 1) gates) ≡ unchosen places 0 (take i gates)
unchosen_chosen places gates i gate inside chosen =
    one_more places gates i gate inside
    ∙ ap (λ b. unchosen places 0 (take i gates) ++ cond b [] (get_or gates i gate ∷ [])) chosen
    ∙ append-nil (unchosen places 0 (take i gates))

pub unchosen_other : (places : List ℕ) (gates : List Gate) (i : ℕ) (gate : Gate) → i < length gates → is_chosen places i ≡ false
    → unchosen places 0 (take (i + 1) gates) ≡ unchosen places 0 (take i gates) ++ get_or gates i gate ∷ []
unchosen_other places gates i gate inside other =
    one_more places gates i gate inside
    ∙ ap (λ b. unchosen places 0 (take i gates) ++ cond b [] (get_or gates i gate ∷ [])) other

-- The pointer of a place: so many chosen places lie before it.
pub record IsPointer (places : List ℕ) (passed place : ℕ) : Type 0 where
  pub few : passed ≤ length places
  pub before : (k : ℕ) → k < passed → get_or places k 0 < place
  pub next : passed < length places → place ≤ get_or places passed 0

pub passed_none : (places : List ℕ) → IsPointer places 0 (get_or places 0 0)
passed_none places = record { few = omega arith; before = λ k below. absurd (omega arith); next = λ some. omega arith }

chosen_here : (places : List ℕ) (passed place : ℕ) → passed < length places → get_or places passed 0 ≡ place → is_chosen places place ≡ true
chosen_here places passed place some here =
    list_any_at (λ p. eqb p place) places passed 0 some (eq-eqb (get_or places passed 0) place here)

not_at : (places : List ℕ) (passed place : ℕ) → AllPairs (λ i j. i < j) places → IsPointer places passed place
    → (passed < length places → get_or places passed 0 ≢ place) → (k : ℕ) → k < length places → get_or places k 0 ≢ place
not_at places passed place rising is other k inside same =
    elim (cases_lt k passed) [
      | inl below ↦ (let low : get_or places k 0 < place = is.before k below in omega arith)
      | inr from ↦
          (let some : passed < length places = omega arith in
          let high : place ≤ get_or places passed 0 = is.next some in
          let ne : get_or places passed 0 ≢ place = other some in
          elim (cases_lt passed k) [
            | inl above ↦ (let up : get_or places passed 0 < get_or places k 0 = rising passed k 0 above inside in omega arith)
            | inr upto ↦
                (let e : k ≡ passed = omega arith in
                ne (ap (λ n. get_or places n 0) (sym e) ∙ same))
          ])
    ]

other_here : (places : List ℕ) (passed place : ℕ) → AllPairs (λ i j. i < j) places → IsPointer places passed place
    → (passed < length places → get_or places passed 0 ≢ place) → is_chosen places place ≡ false
other_here places passed place rising is other =
    list_any_none (λ p. eqb p place) places
    (λ k d inside. ne_eqb (get_or places k d) place
    (λ same. not_at places passed place rising is other k inside (get_or_default places k 0 d inside ∙ same)))

pub before_first : (places : List ℕ) → AllPairs (λ i j. i < j) places → (i : ℕ) → i < get_or places 0 0 → is_chosen places i ≡ false
before_first places rising i below =
    let is : IsPointer places 0 i = record { few = omega arith; before = λ k none. absurd (omega arith); next = λ some. omega arith } in
    other_here places 0 i rising is (λ some same. omega arith)

-- The gates before a place that aren't chosen are closed up, and those from there on stand as they stood.
pub record IsClosed (old gates : List Gate) (places : List ℕ) (kept passed place : ℕ) : Type 0 where
  pub pointer : IsPointer places passed place
  pub count : kept + passed ≡ place
  pub front : take kept gates ≡ unchosen places 0 (take place old)
  pub rest : drop place gates ≡ drop place old

pub closed_none : (gates : List Gate) (places : List ℕ) → AllPairs (λ i j. i < j) places → get_or places 0 0 ≤ length gates
    → IsClosed gates gates places (get_or places 0 0) 0 (get_or places 0 0)
closed_none gates places rising inside =
    let front = take (get_or places 0 0) gates in
    let e : 0 + length front ≡ get_or places 0 0 = omega (arith, length-take (get_or places 0 0) gates) in
    record {
      pointer = passed_none places;
      count = omega arith;
      front = sym (unchosen_none places 0 front (λ i below. before_first places rising i (omega (arith, e))));
      rest = refl;
    }

drop_one : (xs ys : List Gate) (i : ℕ) → drop i xs ≡ drop i ys → drop (i + 1) xs ≡ drop (i + 1) ys
drop_one xs ys i e = sym (drop-drop 1 i xs) ∙ ap (drop 1) e ∙ drop-drop 1 i ys

-- a chosen place
pub closed_chosen : (old gates : List Gate) (places : List ℕ) (kept passed place : ℕ) → AllPairs (λ i j. i < j) places
    → place < length old → IsClosed old gates places kept passed place → passed < length places → get_or places passed 0 ≡ place
    → IsClosed old gates places kept (passed + 1) (place + 1)
closed_chosen old gates places kept passed place rising inside is some here = record {
  pointer = record {
    few = omega arith;
    before = λ k below. elim (cases_lt k passed) [
      | inl low ↦ (let lt : get_or places k 0 < place = is.pointer.before k low in omega arith)
      | inr high ↦ (let e : k ≡ passed = omega arith in let same : get_or places k 0 ≡ place = ap (λ n. get_or places n 0) e ∙ here in omega arith)
    ];
    next = λ more. let up : get_or places passed 0 < get_or places (passed + 1) 0 = rising passed (passed + 1) 0 (omega arith) more in omega arith;
  };
  count = let e : kept + passed ≡ place = is.count in omega arith;
  front = is.front ∙ sym (unchosen_chosen places old place (get_or old place (H 0)) inside (chosen_here places passed place some here));
  rest = drop_one gates old place is.rest;
}

-- another place, whose gate moves down
pub closed_other : (old gates : List Gate) (places : List ℕ) (kept passed place : ℕ) (gate : Gate) → AllPairs (λ i j. i < j) places
    → place < length old → length gates ≡ length old → IsClosed old gates places kept passed place
    → (passed < length places → get_or places passed 0 ≢ place) → get_or gates place gate ≡ gate
    → IsClosed old (set gates kept gate) places (kept + 1) passed (place + 1)
closed_other old gates places kept passed place gate rising inside long is other there =
    let count : kept + passed ≡ place = is.count in
    let lt : kept < length gates = omega arith in
    let same : gate ≡ get_or old place gate =
    sym there ∙ ap (λ n. get_or gates n gate) (let z : place ≡ place + 0 = omega arith in z)
    ∙ sym (get_or-drop place gates 0 gate) ∙ ap (λ (xs : List Gate). get_or xs 0 gate) is.rest ∙ get_or-drop place old 0 gate
    ∙ ap (λ n. get_or old n gate) (let z : place + 0 ≡ place = omega arith in z) in
    record {
      pointer = record {
        few = is.pointer.few;
        before = λ k below. let low : get_or places k 0 < place = is.pointer.before k below in omega arith;
        next = λ some. let high : place ≤ get_or places passed 0 = is.pointer.next some in let ne : get_or places passed 0 ≢ place = other some in omega arith;
      };
      count = omega arith;
      front = take_more_set gates kept gate lt ∙ ap (λ (xs : List Gate). xs ++ gate ∷ []) is.front
          ∙ ap (λ (g : Gate). unchosen places 0 (take place old) ++ g ∷ []) same
          ∙ sym (unchosen_other places old place gate inside (other_here places passed place rising is.pointer other));
      rest = drop-set-lt (place + 1) gates kept gate (omega arith) ∙ drop_one gates old place is.rest;
    }

pub last_place_is : (places : List ℕ) (n : ℕ) → length places ≡ n + 1 → last_place places ≡ get_or places n 0
last_place_is [] n long = absurd (omega arith)
last_place_is (p ∷ []) n long = let e : n ≡ 0 = omega arith in rw e refl
last_place_is (p ∷ q ∷ places) zero long = absurd (omega arith)
last_place_is (p ∷ q ∷ places) (suc n) long = last_place_is (q ∷ places) n (omega arith)

-- past the last place all are passed
pub passed_all : (places : List ℕ) (passed : ℕ) → AllPairs (λ i j. i < j) places → IsPointer places passed (last_place places + 1)
    → passed ≡ length places
passed_all places passed rising is =
    elim (cases_lt passed (length places)) [
      | inl some ↦
          (let n = length places - 1 in
          let last : last_place places ≡ get_or places n 0 = last_place_is places n (omega arith) in
          let high : last_place places + 1 ≤ get_or places passed 0 = is.next some in
          elim (cases_lt passed n) [
            | inl below ↦ (let up : get_or places passed 0 < get_or places n 0 = rising passed n 0 below (omega arith) in absurd (omega arith))
            | inr upto ↦ (let e : passed ≡ n = omega arith in let same : get_or places passed 0 ≡ get_or places n 0 = ap (λ k. get_or places k 0) e in absurd (omega arith))
          ])
      | inr all ↦ (let few : passed ≤ length places = is.few in omega arith)
    ]

short_upto : (places : List ℕ) → length places ≤ 1 → get_or places 0 0 ≤ last_place places
short_upto [] short = omega arith
short_upto (p ∷ []) short = omega arith
short_upto (p ∷ q ∷ places) short = absurd (omega arith)

-- the first place isn't behind the last one
pub first_upto_last : (places : List ℕ) → AllPairs (λ i j. i < j) places → get_or places 0 0 ≤ last_place places
first_upto_last places rising =
    elim (cases_lt 1 (length places)) [
      | inl two ↦
          (let n = length places - 1 in
          let last : last_place places ≡ get_or places n 0 = last_place_is places n (omega arith) in
          let up : get_or places 0 0 < get_or places n 0 = rising 0 n 0 (omega arith) (omega arith) in
          omega arith)
      | inr short ↦ short_upto places short
    ]
