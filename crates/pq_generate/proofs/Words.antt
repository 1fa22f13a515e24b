-- The gates that are still to come, by what the generator answers from now on.
use Rattle.std.proofs.Common.{◌≡◌, ℕ, zero, suc, ◌+◌, ◌-◌, ◌/◌, ◌%◌, ◌<◌, ◌≤◌, List, [], ◌∷◌, ◌++◌, append_assoc, append-nil, refl, sym, ap, ◌∙◌, arith}
use Rattle.rand_core.specs.Stream.{Stream, next_u64}
use Rattle.rand_core.specs.Steps.{stream_of}
use Rattle.rand_core.proofs.StepsLemmas.{next_u64-stream_of}
use Rattle.rand_xoshiro.specs.SplitMix64.{mix_u64, splitmix_steps}
use Rattle.pq_gate.specs.declared.gate.Gate.{Gate}
use Rattle.pq_generate.specs.Generated.{gate_of, gates_from}

-- so many gates of the words of a stream
abbrev pub gates_of : ℕ → ℕ → Stream → List Gate
gates_of zero n stream = []
gates_of (suc count) n stream =
    let word = (next_u64 stream).0 in gate_of (word % 8) n (word / 8) ∷ gates_of count n (next_u64 stream).1

-- they are those of the state that the stream begins at
pub gates_of_state : (count n state : ℕ) → gates_from count n state ≡ gates_of count n (stream_of splitmix_steps state)
gates_of_state zero n state = refl
gates_of_state (suc count) n state =
    let head = λ (word : ℕ) (rest : List Gate). gate_of (word % 8) n (word / 8) ∷ rest in
    let tail = gates_of_state count n (mix_u64 state).1 in
    let next = next_u64-stream_of splitmix_steps state in
    ap (head (mix_u64 state).0) tail ∙ ap (λ (at : ℕ × Stream). head at.0 (gates_of count n at.1)) (sym next)

-- the first of them, and those after it
pub first_and_more : (gates number n word : ℕ) (stream more : Stream) → number < gates → (word, more) ≡ next_u64 stream
    → gates_of (gates - number) n stream ≡ gate_of (word % 8) n (word / 8) ∷ gates_of (gates - (number + 1)) n more
first_and_more gates number n word stream more here next =
    let count : gates - number ≡ suc (gates - (number + 1)) = omega arith in
    ap (λ k. gates_of k n stream) count
    ∙ ap (λ (at : ℕ × Stream). gate_of (at.0 % 8) n (at.0 / 8) ∷ gates_of (gates - (number + 1)) n at.1) (sym next)

-- one gate more in the list
pub one_more : (gates number n word : ℕ) (all before after : List Gate) (stream more : Stream) → number < gates → (word, more) ≡ next_u64 stream
    → all ≡ before ++ gates_of (gates - number) n stream → after ≡ before ++ gate_of (word % 8) n (word / 8) ∷ []
    → all ≡ after ++ gates_of (gates - (number + 1)) n more
one_more gates number n word all before after stream more here next so_far pushed =
    so_far
    ∙ (ap (λ gs. before ++ gs) (first_and_more gates number n word stream more here next)
    ∙ (sym (append_assoc before (gate_of (word % 8) n (word / 8) ∷ []) (gates_of (gates - (number + 1)) n more))
    ∙ ap (λ gs. gs ++ gates_of (gates - (number + 1)) n more) (sym pushed)))

-- at the beginning the list is empty
pub none_yet : (gates n seed state : ℕ) (list : List Gate) → list ≡ [] → state ≡ seed
    → gates_from gates n seed ≡ list ++ gates_of (gates - 0) n (stream_of splitmix_steps state)
none_yet gates n seed state list empty same =
    let count : gates - 0 ≡ gates = omega arith in
    rw (empty, same, count) (gates_of_state gates n seed)

-- at the end nothing is to come
pub all_made : (gates number n : ℕ) (all list : List Gate) (stream : Stream) → all ≡ list ++ gates_of (gates - number) n stream → gates ≤ number → list ≡ all
all_made gates number n all list stream so_far over =
    let count : gates - number ≡ 0 = omega arith in
    sym (so_far ∙ ap (λ k. list ++ gates_of k n stream) count ∙ append-nil list)
