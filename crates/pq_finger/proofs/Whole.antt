use Rattle.std.proofs.Common.{◌≡◌, ℕ, ◌+◌, ◌<◌, ◌≤◌, List, ◌++◌, length, take, drop, get_or, sym, ap, ◌∙◌, arith}
use Rattle.std.specs.List.Sorted.{IsStrictlyIncreasing}
use Rattle.std.specs.List.{All, AllPairs, flat_map, filter}
use Rattle.std.proofs.lemmas.List.{take_all, take-append-drop, get_or-drop, length-drop}
use Rattle.std.proofs.lemmas.List.Elements.{All-drop}
use Rattle.std.proofs.lemmas.Grind.{flat_map-append}
use Rattle.pq_finger.specs.declared.cut.Cut.{Cut}
use Rattle.pq_gaps.specs.Gaps.{ascending}
use Rattle.pq_finger.specs.Settled.{settled, new_places, AreInOrder}
use Rattle.pq_finger.specs.Settling.{first_edge, SettledUpTo}
use Rattle.pq_gaps.proofs.Putting.{increasing-ascending}
use Rattle.pq_finger.proofs.Boundaries.{ascending_parts}
use Rattle.pq_finger.proofs.Halfway.{stays, not_turned}

-- once all fingers are settled, the boundaries of the other cuts are left to put
pub settled_whole : (places : List ℕ) (cuts : List Cut) (list : List ℕ) (behind : ℕ) → SettledUpTo places cuts list (length places) behind →
    ascending (list ++ flat_map new_places (drop behind cuts)) ≡ settled places cuts
unfolding settled
settled_whole places cuts list behind so_far =
    ascending_parts (filter (stays places cuts) (take (length places) places)) (flat_map new_places (take behind cuts)) (flat_map new_places (drop behind cuts)) list so_far.list_is ∙
    (ap (λ (r : List ℕ). ascending (filter (stays places cuts) r ++ (flat_map new_places (take behind cuts) ++ flat_map new_places (drop behind cuts)))) (take_all (length places) places (omega arith)) ∙
    ap (λ (r : List ℕ). ascending (filter (stays places cuts) places ++ r))
    (sym (flat_map-append new_places (take behind cuts) (drop behind cuts)) ∙ ap (flat_map new_places) (take-append-drop behind cuts)))

-- what the walk over the fingers leaves is strictly increasing
pub settled_rises : {places : List ℕ} {cuts : List Cut} {list : List ℕ} {index behind : ℕ} → SettledUpTo places cuts list index behind → IsStrictlyIncreasing list
settled_rises {places} {cuts} {list} {index} {behind} so_far =
    rw so_far.list_is (increasing-ascending (filter (stays places cuts) (take index places) ++ flat_map new_places (take behind cuts)))

-- and not behind the first boundary that is left
pub settled_ahead : {places : List ℕ} {cuts : List Cut} {list : List ℕ} {index behind : ℕ} → SettledUpTo places cuts list index behind →
    (d : Cut) → 0 < length (drop behind cuts) → All (λ place. place ≤ first_edge (get_or (drop behind cuts) 0 d)) list
settled_ahead {places} {cuts} {list} {index} {behind} so_far d some =
    let left : behind < length cuts = omega (arith, length-drop behind cuts) in
    let at : get_or (drop behind cuts) 0 d ≡ get_or cuts behind d = get_or-drop behind cuts 0 d ∙ ap (λ (n : ℕ). get_or cuts n d) (omega arith) in
    rw at (so_far.ahead d left)

-- the other cuts are in order too
pub apart_rest : {places : List ℕ} {cuts : List Cut} (behind : ℕ) → AreInOrder places cuts → AllPairs (λ cut later. cut.to ≤ later.from) (drop behind cuts)
apart_rest {places} {cuts} behind order i j d lt inside =
    rw (get_or-drop behind cuts i d, get_or-drop behind cuts j d)
    (order.apart (behind + i) (behind + j) d (omega arith) (omega (arith, length-drop behind cuts)))

pub not_turned_rest : {places : List ℕ} {cuts : List Cut} (behind : ℕ) → AreInOrder places cuts → All (λ cut. cut.from ≤ cut.to) (drop behind cuts)
not_turned_rest {places} {cuts} behind order = All-drop (λ cut. cut.from ≤ cut.to) behind cuts (not_turned places cuts order)
