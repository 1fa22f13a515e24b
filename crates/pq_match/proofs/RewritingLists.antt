-- Writing into a list from a place on, and moving its end down.
use Rattle.std.proofs.Common.{◌≡◌, ℕ, ◌+◌, ◌-◌, ◌<◌, ◌≤◌, List, [], ◌∷◌, ◌++◌, length, map, get_or, set, take, drop, sym, ap, ◌∙◌, arith, append_assoc}
use Rattle.std.specs.List.{copy_within}
use Rattle.std.proofs.lemmas.List.{take_more, take_more_set, drop-set-lt, drop-drop, map-append, length-drop}
use Rattle.std.proofs.lemmas.List.Edits.{take-paste}
use Rattle.std.proofs.Math.Seq.{take-length}

-- one more element written
pub written_more : {X Y : Type 0} (f : X → Y) (old now : List Y) (xs : List X) (start index : ℕ) (d : X)
    → start + index < length now → index < length xs
    → take (start + index) now ≡ take start old ++ map f (take index xs)
    → take (start + (index + 1)) (set now (start + index) (f (get_or xs index d))) ≡ take start old ++ map f (take (index + 1) xs)
written_more {X} {Y} f old now xs start index d room inside front =
    let e : start + (index + 1) ≡ (start + index) + 1 = omega arith in
    ap (λ n. take n (set now (start + index) (f (get_or xs index d)))) e
    ∙ take_more_set now (start + index) (f (get_or xs index d)) room
    ∙ ap (λ (ys : List Y). ys ++ f (get_or xs index d) ∷ []) front
    ∙ append_assoc (take start old) (map f (take index xs)) (f (get_or xs index d) ∷ [])
    ∙ ap (λ (ys : List Y). take start old ++ ys) (sym (map-append f (take index xs) (get_or xs index d ∷ [])))
    ∙ ap (λ (zs : List X). take start old ++ map f zs) (sym (take_more xs index d inside))

-- what stands behind the written elements stays
pub rest_more : {Y : Type 0} (old now : List Y) (start index : ℕ) (y : Y) → drop (start + index) now ≡ drop (start + index) old
    → drop (start + (index + 1)) (set now (start + index) y) ≡ drop (start + (index + 1)) old
rest_more {Y} old now start index y rest =
    let e : start + (index + 1) ≡ (start + index) + 1 = omega arith in
    drop-set-lt (start + (index + 1)) now (start + index) y (omega arith)
    ∙ ap (λ n. drop n now) e ∙ sym (drop-drop 1 (start + index) now) ∙ ap (λ (ys : List Y). drop 1 ys) rest
    ∙ drop-drop 1 (start + index) old ∙ ap (λ n. drop n old) (sym e)

-- the end of a list moved down to a place
pub moved_down : {Y : Type 0} (xs : List Y) (end filled : ℕ) → filled ≤ length xs → end ≤ length xs
    → take (filled + (length xs - end)) (copy_within xs end (length xs) filled) ≡ take filled xs ++ drop end xs
moved_down {Y} xs end filled room inside =
    let n = length xs - end in
    let long : length (drop end xs) ≡ n = omega (arith, length-drop end xs) in
    take-paste xs filled (drop end xs) n room (omega arith)
    ∙ ap (λ (ys : List Y). take filled xs ++ ys) (ap (λ k. take k (drop end xs)) (sym long) ∙ take-length (drop end xs))
