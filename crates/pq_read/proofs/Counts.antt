-- How many items lists have that are made one part after another.
use Rattle.std.proofs.Common.{◌≡◌, ℕ, zero, suc, ◌+◌, ◌*◌, ◌≤◌, Bool, true, false, ◌||◌, List, [], ◌∷◌, ◌++◌, length, map, refl, sym, ap, ◌∙◌, arith, length-append, append_assoc, add-one}
use Rattle.std.proofs.lemmas.List.{map_push}
use Rattle.std.proofs.lemmas.List.Folds.{list_any-append}
use Rattle.pq_read.specs.declared.program.TailItem.{TailItem}
use Rattle.pq_read.specs.Environment.{item_view, is_measurement}
use Rattle.pq_read.specs.Tails.{IsTail}
use Rattle.pq_text.specs.Program.{TailView, Barrier, Measure, entries_of, RegisterView, places_of}
use Rattle.pq_read.specs.Lists.{each_below}
use Rattle.pq_read.specs.declared.argument.Argument.{Argument}
use Rattle.pq_read.specs.declared.word.GateWord.{GateWord}
use Rattle.pq_read.specs.Expansion.{expansion, instance, instances, gates_of, nth_place}

pub length-each_below : {A : Type 0} (n : ℕ) (f : ℕ → List A) (each : ℕ) → ((k : ℕ) → length (f k) ≡ each) → length (each_below n f) ≡ n * each
length-each_below zero f each h = omega arith
length-each_below (suc n) f each h =
    let so_far : length (each_below n f) ≡ n * each = length-each_below n f each h in
    let one : length (f n) ≡ each = h n in
    let all : length (each_below n f ++ f n) ≡ length (each_below n f) + length (f n) = length-append (each_below n f) (f n) in
    omega arith

pub length_gates : (word : GateWord) (arguments : List Argument) (each : ℕ) → ((a b c : ℕ) → length (expansion word a b c) ≡ each)
    → length (gates_of word arguments) ≡ instances arguments * each
unfolding gates_of
length_gates word arguments each h =
    length-each_below (instances arguments) (instance word arguments) each (λ k. h (nth_place arguments 0 k) (nth_place arguments 1 k) (nth_place arguments 2 k))

none_there : {A : Type 0} (xs : List A) → length xs ≡ 0 → xs ≡ []
none_there [] h = refl
none_there (x ∷ xs) h = absurd (omega arith)

-- an expansion without gates has none in all instances together
pub no_gates : (word : GateWord) (arguments : List Argument) (each : ℕ) → ((a b c : ℕ) → length (expansion word a b c) ≡ each) → each ≡ 0 → gates_of word arguments ≡ []
no_gates word arguments each h none =
    none_there (gates_of word arguments) (length_gates word arguments each h ∙ (ap (λ n. instances arguments * n) none ∙ (omega arith)))

pub entries_of-append : (xs ys : List TailView) → entries_of (xs ++ ys) ≡ entries_of xs + entries_of ys
entries_of-append [] ys = omega arith
entries_of-append (Barrier wires ∷ xs) ys = let h : entries_of (xs ++ ys) ≡ entries_of xs + entries_of ys = entries_of-append xs ys in omega arith
entries_of-append (Measure wire bit ∷ xs) ys = let h : entries_of (xs ++ ys) ≡ entries_of xs + entries_of ys = entries_of-append xs ys in omega arith

pub places_of-append : (xs ys : List RegisterView) → places_of (xs ++ ys) ≡ places_of xs + places_of ys
places_of-append [] ys = omega arith
places_of-append (r ∷ xs) ys = let h : places_of (xs ++ ys) ≡ places_of xs + places_of ys = places_of-append xs ys in omega arith

or_false : (b : Bool) → (b || false) ≡ b
or_false true = refl
or_false false = refl

or_true : (b : Bool) → (b || true) ≡ true
or_true true = refl
or_true false = refl

tail_push : (tail : List TailView) (item : TailView) (entries : ℕ) (measured : Bool) (count : ℕ) (now : Bool) → IsTail entries measured tail
    → count ≡ entries_of (item ∷ []) → entries + count ≤ 1048576 → (measured || is_measurement item) ≡ now → IsTail (entries + count) now (tail ++ item ∷ [])
tail_push tail item entries measured count now old counted within told =
    let e : entries_of (tail ++ item ∷ []) ≡ entries_of tail + entries_of (item ∷ []) = entries_of-append tail (item ∷ []) in
    let c : entries ≡ entries_of tail = old.counted in
    record {
      counted = omega arith;
      within = within;
      told = sym (list_any-append is_measurement tail (item ∷ []) ∙ ((λ i. sym old.told i || or_false (is_measurement item) i) ∙ told));
    }

pub tail_with : (items new : List TailItem) (item : TailItem) (entries : ℕ) (measured : Bool) (count : ℕ) (now : Bool) → IsTail entries measured (map item_view items)
    → new ≡ items ++ item ∷ [] → count ≡ entries_of (item_view item ∷ []) → entries + count ≤ 1048576 → (measured || is_measurement (item_view item)) ≡ now
    → IsTail (entries + count) now (map item_view new)
tail_with items new item entries measured count now old is counted within told =
    let e : map item_view new ≡ map item_view items ++ item_view item ∷ [] = ap (map item_view) is ∙ map_push item_view items item in
    rw e (tail_push (map item_view items) (item_view item) entries measured count now old counted within told)

pub barrier_told : (measured : Bool) (item : TailItem) → is_measurement (item_view item) ≡ false → (measured || is_measurement (item_view item)) ≡ measured
barrier_told measured item is = ap (λ b. measured || b) is ∙ or_false measured

pub measure_told : (measured : Bool) (item : TailItem) → is_measurement (item_view item) ≡ true → (measured || is_measurement (item_view item)) ≡ true
measure_told measured item is = ap (λ b. measured || b) is ∙ or_true measured

pub each_more : {A : Type 0} (old mid new : List A) (k : ℕ) (f : ℕ → List A) → mid ≡ old ++ each_below k f → new ≡ mid ++ f k → new ≡ old ++ each_below (k + 1) f
each_more old mid new k f so_far is =
    is ∙ (ap (λ xs. xs ++ f k) so_far ∙ (append_assoc old (each_below k f) (f k) ∙ ap (λ n. old ++ each_below n f) (sym (add-one k))))

pub entries_more : (mid new : List TailView) (wire bit n : ℕ) → new ≡ mid ++ Measure wire bit ∷ [] → entries_of mid ≡ n → entries_of new ≡ n + 1
entries_more mid new wire bit n is so_far =
    let e : entries_of new ≡ entries_of mid + (1 + 0) = ap entries_of is ∙ entries_of-append mid (Measure wire bit ∷ []) in omega arith
