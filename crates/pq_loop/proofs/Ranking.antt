-- Ranks after one replacement.
use Rattle.std.proofs.Common.{◌≡◌, ℕ, suc, ◌+◌, ◌-◌, ◌<◌, ◌≤◌, inl, inr, ◌⊎◌, Option, Some, None, List, [], ◌∷◌, length, set, get_or, refl, ap, ◌∙◌, arith}
use Rattle.std.proofs.lemmas.Bool.{cases_lt}
use Rattle.pq_gate.specs.declared.gate.Gate.{Gate}
use Rattle.pq_array.specs.Cells.{rank, IsLive, IsLiveRun, Replaces}
use Rattle.pq_array.proofs.Ranks.{live_inside, rank-le, rank-lt, rank-set_some, rank-set_before, rank-set_behind}
use Rattle.pq_array.proofs.Replacing.{RunAt, replaced, run_some, run_none, run_from_ranks, Replaces-replaced, Replaces-one}

-- a place of a rank that isn't greater than a live place's isn't behind it
not_behind : (cells : List (Option Gate)) (place p : ℕ) → IsLive cells place → rank cells p ≤ rank cells place → p ≤ place
not_behind cells place p here low = by (cases_lt place p)
  where
    by : (place < p) ⊎ (p ≤ place) → p ≤ place
    by (inl behind) = absurd (omega (arith, rank-lt cells place p here behind))
    by (inr le) = le

-- and one of a greater rank is behind it
is_behind : (cells : List (Option Gate)) (place p : ℕ) → rank cells place < rank cells p → place < p
is_behind cells place p high = by (cases_lt place p)
  where
    by : (place < p) ⊎ (p ≤ place) → place < p
    by (inl behind) = behind
    by (inr le) = absurd (omega (arith, rank-le cells p place le))

-- up to the first place the ranks stay
replaced_before : (cells : List (Option Gate)) (first p : ℕ) (places : List ℕ) (output : List Gate) → RunAt cells first places →
    rank cells p ≤ first → rank (replaced cells places output) p ≡ rank cells p
replaced_before cells first p [] output at low = refl
replaced_before cells first p (place ∷ places) [] at low =
    let here : IsLive cells place = (at 0 (omega arith)).0 in
    let le : p ≤ place = not_behind cells place p here (omega (arith, (at 0 (omega arith)).1)) in
    let stays : rank (set cells place None) p ≡ rank cells p = rank-set_before cells place p le in
    replaced_before (set cells place None) first p places [] (run_none cells first place places at) (omega arith) ∙ stays
replaced_before cells first p (place ∷ places) (gate ∷ output) at low =
    let here : IsLive cells place = (at 0 (omega arith)).0 in
    let stays : rank (set cells place (Some gate)) p ≡ rank cells p = rank-set_some cells place gate p here in
    replaced_before (set cells place (Some gate)) (suc first) p places output (run_some cells first place places gate at) (omega arith) ∙ stays

-- behind the last one they fall by what is gone
replaced_behind : (cells : List (Option Gate)) (first p : ℕ) (places : List ℕ) (output : List Gate) → RunAt cells first places →
    length output ≤ length places → first + length places ≤ rank cells p →
    rank (replaced cells places output) p + (length places - length output) ≡ rank cells p
replaced_behind cells first p [] output at short high = omega arith
replaced_behind cells first p (place ∷ places) [] at short high =
    let here : IsLive cells place = (at 0 (omega arith)).0 in
    let lt : place < p = is_behind cells place p (omega (arith, (at 0 (omega arith)).1)) in
    let falls : rank (set cells place None) p + 1 ≡ rank cells p = rank-set_behind cells place p here lt in
    omega (arith, replaced_behind (set cells place None) first p places [] (run_none cells first place places at) (omega arith) (omega arith))
replaced_behind cells first p (place ∷ places) (gate ∷ output) at short high =
    let here : IsLive cells place = (at 0 (omega arith)).0 in
    let stays : rank (set cells place (Some gate)) p ≡ rank cells p = rank-set_some cells place gate p here in
    omega (arith, replaced_behind (set cells place (Some gate)) (suc first) p places output (run_some cells first place places gate at) (omega arith) (omega arith))

-- the cells after a replacement
replaced_is : (old new : List (Option Gate)) (first : ℕ) (places : List ℕ) (output : List Gate) → RunAt old first places →
    length output ≤ length places → Replaces old new places output → new ≡ replaced old places output
replaced_is old new first places output at short done =
    let run : IsLiveRun old places = run_from_ranks old first places at in
    Replaces-one old new (replaced old places output) places output done
    (Replaces-replaced old places output run.in_order (λ i lt. live_inside old (get_or places i 0) (at i lt).0) short)

-- the output of a run in its place: up to the run's first number the ranks stay
pub rank_before : (old new : List (Option Gate)) (first p : ℕ) (places : List ℕ) (output : List Gate) → RunAt old first places →
    length output ≤ length places → Replaces old new places output → rank old p ≤ first → rank new p ≡ rank old p
rank_before old new first p places output at short done low =
    ap (λ (cells : List (Option Gate)). rank cells p) (replaced_is old new first places output at short done) ∙
    replaced_before old first p places output at low

-- and behind its last number they fall by what it lost
pub rank_behind : (old new : List (Option Gate)) (first p : ℕ) (places : List ℕ) (output : List Gate) → RunAt old first places →
    length output ≤ length places → Replaces old new places output → first + length places ≤ rank old p →
    rank new p + (length places - length output) ≡ rank old p
rank_behind old new first p places output at short done high =
    ap (λ (cells : List (Option Gate)). rank cells p + (length places - length output)) (replaced_is old new first places output at short done) ∙
    replaced_behind old first p places output at short high
