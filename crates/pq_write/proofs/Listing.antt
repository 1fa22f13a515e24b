-- Lines one after another.
use Rattle.std.proofs.Common.{◌≡◌, ℕ, ◌+◌, ◌<◌, ◌≤◌, List, [], ◌∷◌, ◌++◌, length, take, get_or, map, flat_map, refl, sym, ◌∙◌, ap, subst, append_assoc, arith}
use Rattle.std.specs.List.{join_with_byte, All}
use Rattle.std.proofs.lemmas.List.{append-nil, take_more, get_or-map, length-map, length-append}
use Rattle.std.proofs.lemmas.List.Concat.{flat_map-append}
use Rattle.std.proofs.lemmas.List.Folds.{length-flat_map-take}
use Rattle.std.proofs.lemmas.List.Elements.{All-get_or, All-from_recursion}
use Rattle.pq_gate.specs.declared.gate.Gate.{Gate}
use Rattle.pq_gate.specs.Circuit.{IsOnWires, IsCircuit}

-- the lines of one item more
pub lines_more : {X A : Type 0} (f : X → List A) (xs : List X) (i : ℕ) (x : X) → i < length xs → x ≡ get_or xs i x → flat_map f (take (i + 1) xs) ≡ flat_map f (take i xs) ++ f x
lines_more f xs i x h is =
    ap (flat_map f) (take_more xs i x h)
    ∙ (flat_map-append f (take i xs) (get_or xs i x ∷ [])
    ∙ (ap (λ t. flat_map f (take i xs) ++ t) (append-nil (f (get_or xs i x))) ∙ ap (λ y. flat_map f (take i xs) ++ f y) (sym is)))

-- a list that the lines so far end, with those of one item more
pub appended_more : {X A : Type 0} (f : X → List A) (xs : List X) (i : ℕ) (x : X) (before so_far new : List A) → i < length xs → x ≡ get_or xs i x
    → so_far ≡ before ++ flat_map f (take i xs) → new ≡ so_far ++ f x → new ≡ before ++ flat_map f (take (i + 1) xs)
appended_more f xs i x before so_far new h is e n =
    n ∙ (ap (λ t. t ++ f x) e ∙ (append_assoc before (flat_map f (take i xs)) (f x) ∙ ap (λ t. before ++ t) (sym (lines_more f xs i x h is))))

-- how many bytes the lines of one item more have, and that they are among all
pub record IsLengthMore {X : Type 0} (f : X → List ℕ) (xs : List X) (i : ℕ) (x : X) (sum more : ℕ) : Type 0 where
  pub count : sum + more ≡ length (flat_map f (take (i + 1) xs))
  pub within : sum + more ≤ length (flat_map f xs)

pub length_more : {X : Type 0} (f : X → List ℕ) (xs : List X) (i : ℕ) (x : X) (sum more : ℕ) → i < length xs → x ≡ get_or xs i x
    → sum ≡ length (flat_map f (take i xs)) → more ≡ length (f x) → IsLengthMore f xs i x sum more
length_more f xs i x sum more h is e m =
    let all : length (flat_map f (take i xs)) + length (f (get_or xs i x)) ≤ length (flat_map f xs) = length-flat_map-take f xs i x h in
    let same : length (f x) ≡ length (f (get_or xs i x)) = ap (λ y. length (f y)) is in
    let split : length (flat_map f (take (i + 1) xs)) ≡ length (flat_map f (take i xs)) + length (f x) =
    ap length (lines_more f xs i x h is) ∙ length-append (flat_map f (take i xs)) (f x)
    in
    record { count = omega arith; within = omega arith }

-- an item of a list that a contract sees through a view
pub viewed : {X Y : Type 0} (v : X → Y) (xs : List X) (i : ℕ) (x : X) → i < length xs → x ≡ get_or xs i x → v x ≡ get_or (map v xs) i (v x)
viewed v xs i x h is = ap v is ∙ sym (get_or-map v xs i x (v x) h)

-- a fact of each item, at one that was read
pub each_at : {X : Type 0} (P : X → Type 0) (xs : List X) (i : ℕ) (x : X) → All P xs → i < length xs → x ≡ get_or xs i x → P x
each_at P xs i x each h is = subst P (sym is) (All-get_or P xs i x h each)

pub gate_at : (n : ℕ) (gates : List Gate) (i : ℕ) (g : Gate) → IsCircuit n gates → i < length gates → g ≡ get_or gates i g → IsOnWires n g
gate_at n gates i g circuit h is = each_at (IsOnWires n) gates i g (All-from_recursion (IsOnWires n) gates circuit) h is

-- pieces with a byte between each two: the first, and the others with the byte before each
pub joined : {X : Type 0} (mark : ℕ) (f : X → List ℕ) (x : X) (xs : List X) → join_with_byte mark (map f (x ∷ xs)) ≡ f x ++ flat_map (λ y. mark ∷ f y) xs
joined mark f x [] = sym (append-nil (f x))
joined mark f x (y ∷ ys) = ap (λ t. f x ++ (mark ∷ t)) (joined mark f y ys)

-- what is appended part by part
pub assembled : (before one two three four five h q c g t : List ℕ) → one ≡ before ++ h → two ≡ one ++ q → three ≡ two ++ c → four ≡ three ++ g → five ≡ four ++ t
    → five ≡ before ++ (h ++ (q ++ (c ++ (g ++ t))))
assembled before one two three four five h q c g t e1 e2 e3 e4 e5 =
    let whole : five ≡ (((((before ++ h) ++ q) ++ c) ++ g) ++ t) = rw (e5, e4, e3, e2, e1) refl in
    whole ∙ simp append_assoc

-- a view's item stands within the view of the list
pub inside : {X Y : Type 0} (v : X → Y) (xs : List X) (i : ℕ) → i < length xs → i < length (map v xs)
inside v xs i h = omega (arith, length-map xs v)

-- numbers by the first and the others
pub joined_length : (f : ℕ → List ℕ) (numbers more : List ℕ) (first : ℕ) → numbers ≡ first ∷ more
    → length (f first) + length (flat_map (λ w. 44 ∷ f w) more) ≡ length (join_with_byte 44 (map f numbers))
joined_length f numbers more first e =
    sym (ap (λ ns. length (join_with_byte 44 (map f ns))) e ∙ (ap length (joined 44 f first more) ∙ length-append (f first) (flat_map (λ w. 44 ∷ f w) more)))

pub joined_after : (f : ℕ → List ℕ) (numbers more : List ℕ) (first : ℕ) (before text middle after : List ℕ) → numbers ≡ first ∷ more → text ≡ f first
    → middle ≡ before ++ text → after ≡ middle ++ flat_map (λ w. 44 ∷ f w) more → after ≡ before ++ join_with_byte 44 (map f numbers)
joined_after f numbers more first before text middle after e t m a =
    let others : List ℕ = flat_map (λ w. 44 ∷ f w) more in
    a ∙ (ap (λ x. x ++ others) (m ∙ ap (λ x. before ++ x) t)
    ∙ (append_assoc before (f first) others
    ∙ ap (λ x. before ++ x) (sym (ap (λ ns. join_with_byte 44 (map f ns)) e ∙ joined 44 f first more))))
