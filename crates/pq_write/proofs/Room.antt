-- Room for a text that is written piece after piece.
use Rattle.std.proofs.Common.{◌≡◌, ℕ, ◌+◌, ◌<◌, ◌≤◌, List, ◌++◌, length, take, get_or, flat_map, decimal, ◌^◌, ap, ◌∙◌, arith}
use Rattle.std.proofs.lemmas.List.{length-append}
use Rattle.std.proofs.lemmas.List.Folds.{length-flat_map-take}
use Rattle.std.proofs.lemmas.Fmt.{length-decimal-le}
use Rattle.pq_list.specs.Roomed.{Roomed}
use Rattle.pq_write.specs.Room.{HasRoomFor}

-- std's law, under a name that `using` takes
pub length_append : (xs ys : List ℕ) → length (xs ++ ys) ≡ length xs + length ys
length_append xs ys = length-append xs ys

-- behind the lines of the items before it there is room for those of an item
pub room_at : {X : Type 0} (f : X → List ℕ) (xs : List X) (i : ℕ) (x : X) (before now : Roomed ℕ) → i < length xs → x ≡ get_or xs i x
    → HasRoomFor before (flat_map f xs) → now.items ≡ before.items ++ flat_map f (take i xs) → now.room ≡ before.room → HasRoomFor now (f x)
room_at f xs i x before now h is room items same =
    let lines : length (f x) ≡ length (f (get_or xs i x)) = ap (λ y. length (f y)) is in
    let so_far : length now.items ≡ length before.items + length (flat_map f (take i xs)) = ap length items ∙ length-append before.items (flat_map f (take i xs)) in
    omega (arith, length-flat_map-take f xs i x h)

-- how long numbers are
pub long_digits : (n : ℕ) → n < 2 ^ 64 → length (decimal n) ≤ 20
long_digits n small = length-decimal-le 20 n (omega arith) (omega arith) (omega arith)

pub short_digits : (n : ℕ) → n < 2 ^ 8 → length (decimal n) ≤ 3
short_digits n small = length-decimal-le 3 n (omega arith) (omega arith) (omega arith)

-- behind a piece there is room for what is left
pub room_left : (before after : Roomed ℕ) (piece : List ℕ) (left : ℕ) → after.items ≡ before.items ++ piece → after.room ≡ before.room
    → length before.items + (length piece + left) ≤ before.room → length after.items + left ≤ after.room
room_left before after piece left items same room =
    let longer : length after.items ≡ length before.items + length piece = ap length items ∙ length-append before.items piece in
    omega arith
