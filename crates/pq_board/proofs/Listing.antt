-- Lists one after another: how many they are, what each is, and one more.
use Rattle.std.proofs.Common.{◌≡◌, ℕ, zero, suc, ◌+◌, ◌-◌, ◌<◌, ◌≤◌, List, [], ◌∷◌, ◌++◌, length, get_or, take, drop, refl, sym, ap, ◌∙◌, arith}
use Rattle.std.specs.List.{concat}
use Rattle.std.specs.List.Sorted.{IsStrictlyIncreasing}
use Rattle.std.proofs.lemmas.List.{take-append-drop, take-append-le, take_all, drop-append-le, drop-drop, drop_all, drop_at, length-drop, length-append, length-take-le, get_or-take, get_or-drop}
use Rattle.pq_board.specs.Jobs.{lists_from, AreEnds}

-- there are as many lists as ends
pub length_lists : (from : ℕ) (places ends : List ℕ) → length (lists_from from places ends) ≡ length ends
length_lists from places [] = refl
length_lists from places (end ∷ ends) = ap (λ n. suc n) (length_lists end places ends)

-- the first list begins within the places
pub begins_within : (from : ℕ) (places ends : List ℕ) → AreEnds from places ends → from ≤ length places
begins_within from places [] are = omega arith
begins_within from places (end ∷ ends) are =
    let rest : end ≤ length places = begins_within end places ends are.1 in
    omega arith

-- a list doesn't end before it begins
pub ends_behind : (from : ℕ) (places ends : List ℕ) (job : ℕ) → AreEnds from places ends → job < length ends
    → get_or (from ∷ ends) job 0 ≤ get_or ends job 0
ends_behind from places [] job are below = absurd (omega arith)
ends_behind from places (end ∷ ends) zero are below = are.0
ends_behind from places (end ∷ ends) (suc job) are below = ends_behind end places ends job are.1 (omega arith)

-- a list ends within the places
pub ends_within : (from : ℕ) (places ends : List ℕ) (job : ℕ) → AreEnds from places ends → job < length ends
    → get_or ends job 0 ≤ length places
ends_within from places [] job are below = absurd (omega arith)
ends_within from places (end ∷ ends) zero are below = begins_within end places ends are.1
ends_within from places (end ∷ ends) (suc job) are below = ends_within end places ends job are.1 (omega arith)

-- the list of a number is what lies from its beginning to its end
pub list_is : (from : ℕ) (places ends : List ℕ) (job : ℕ) → job < length ends
    → get_or (lists_from from places ends) job [] ≡ take (get_or ends job 0 - get_or (from ∷ ends) job 0) (drop (get_or (from ∷ ends) job 0) places)
list_is from places [] job below = absurd (omega arith)
list_is from places (end ∷ ends) zero below = refl
list_is from places (end ∷ ends) (suc job) below = list_is end places ends job (omega arith)

-- the lists joined are the places from the first beginning on
pub joined_from : (from : ℕ) (places ends : List ℕ) → AreEnds from places ends → concat (lists_from from places ends) ≡ drop from places
joined_from from places [] are = sym (drop_all from places (omega arith))
joined_from from places (end ∷ ends) are =
    let e : from + (end - from) ≡ end = let le : from ≤ end = are.0 in omega arith in
    ap (λ (l : List ℕ). take (end - from) (drop from places) ++ l)
    (joined_from end places ends are.1 ∙ ap (λ n. drop n places) (sym e) ∙ sym (drop-drop (end - from) from places))
    ∙ take-append-drop (end - from) (drop from places)

pub joined : (places ends : List ℕ) → AreEnds 0 places ends → concat (lists_from 0 places ends) ≡ places
joined places ends are = joined_from 0 places ends are

-- where the places rise, the lists joined do
pub joined_rise : (places ends : List ℕ) → AreEnds 0 places ends → IsStrictlyIncreasing places → IsStrictlyIncreasing (concat (lists_from 0 places ends))
joined_rise places ends are rises = rw (joined places ends are) rises

-- with more places, and their end
pub ends_more : (from : ℕ) (places more ends : List ℕ) (last : ℕ) → last ≡ length (places ++ more) → AreEnds from places ends
    → AreEnds from (places ++ more) (ends ++ last ∷ [])
ends_more from places more [] last is are = (omega (arith, length-append places more), is)
ends_more from places more (end ∷ ends) last is are = (are.0, ends_more end places more ends last is are.1)

pub lists_more : (from : ℕ) (places more ends : List ℕ) (last : ℕ) → last ≡ length (places ++ more) → AreEnds from places ends
    → lists_from from (places ++ more) (ends ++ last ∷ []) ≡ lists_from from places ends ++ more ∷ []
lists_more from places more [] last is are =
    ap (λ (l : List ℕ). l ∷ [])
    (ap (λ (l : List ℕ). take (last - from) l) (drop_at places more from (sym are))
    ∙ take_all (last - from) more (omega (arith, length-append places more)))
lists_more from places more (end ∷ ends) last is are =
    let within : end ≤ length places = begins_within end places ends are.1 in
    let up : from ≤ end = are.0 in
    let long : end - from ≤ length (drop from places) = omega (arith, length-drop from places) in
    let low : from ≤ length places = omega arith in
    ap (λ (l : List ℕ). l ∷ lists_from end (places ++ more) (ends ++ last ∷ []))
    (ap (λ (l : List ℕ). take (end - from) l) (drop-append-le from places more low)
    ∙ take-append-le (end - from) (drop from places) more long)
    ∙ ap (λ (ls : List (List ℕ)). take (end - from) (drop from places) ∷ ls) (lists_more end places more ends last is are.1)

-- a part of places that rise does too
pub rising_part : (count from : ℕ) (places : List ℕ) → from + count ≤ length places → IsStrictlyIncreasing places
    → IsStrictlyIncreasing (take count (drop from places))
rising_part count from places within rises k below =
    let long : length (take count (drop from places)) ≡ count = length-take-le count (drop from places) (omega (arith, length-drop from places)) in
    let inside : k + 1 < count = omega arith in
    let first : get_or (take count (drop from places)) k 0 ≡ get_or places (from + k) 0 =
    get_or-take count (drop from places) k 0 (omega arith) ∙ get_or-drop from places k 0 in
    let next : get_or (take count (drop from places)) (k + 1) 0 ≡ get_or places (from + (k + 1)) 0 =
    get_or-take count (drop from places) (k + 1) 0 inside ∙ get_or-drop from places (k + 1) 0 in
    let e : from + (k + 1) ≡ (from + k) + 1 = omega arith in
    let less : get_or places (from + k) 0 < get_or places ((from + k) + 1) 0 = rises (from + k) (omega arith) in
    rw (first, next, e) less
