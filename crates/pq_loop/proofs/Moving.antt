-- Moving the fingers to the next live places.
use Rattle.std.proofs.Common.{◌≡◌, ℕ, ◌+◌, ◌<◌, ◌≤◌, Option, Some, None, List, [], ◌∷◌, ◌++◌, length, get_or, map, take, refl, sym, ap, ◌∙◌, arith}
use Rattle.std.specs.Prelude.{◌↔◌, All, IsTrue, IsNone, IfSome}
use Rattle.std.specs.List.Sorted.{IsStrictlyIncreasing, IsNonDecreasing}
use Rattle.std.specs.Option.{unwrap_or}
use Rattle.std.proofs.lemmas.List.{map_push, map_more, length_push, length-map, get_or-map, take_all}
use Rattle.std.proofs.lemmas.List.Elements.{All-nil, All-push}
use Rattle.pq_gate.specs.declared.gate.Gate.{Gate}
use Rattle.pq_array.specs.Cells.{rank, IsLive}
use Rattle.pq_array.proofs.Ranks.{rank-le, rank_end}
use Rattle.pq_finger.proofs.Halfway.{place_up_to}
use Rattle.pq_loop.specs.Segments.{stands}
use Rattle.pq_loop.proofs.Standing.{live_stands, end_stands, standing_from_rank}
use Rattle.pq_loop.proofs.Nexts.{next_rank, rank_of_last}

-- the place stands where the other has its rank
pub record StandsFor (cells : List (Option Gate)) (place to : ℕ) : Type 0 where
  pub here : IsTrue (stands cells to)
  pub same : rank cells to ≡ rank cells place

-- the next live place does, or the end
pub next_stands : (cells : List (Option Gate)) (place : ℕ) (next : Option ℕ) →
    (IsNone next ↔ ((later : ℕ) → place ≤ later → IsLive cells later → ⊥)) → IfSome next (IsLive cells) → IfSome next (λ to. place ≤ to) →
    IfSome next (λ to. (later : ℕ) → place ≤ later → IsLive cells later → to ≤ later) → StandsFor cells place (unwrap_or next (length cells))
next_stands cells place None none here after least = record {
  here = end_stands cells (length cells) refl;
  same = rank_end cells (length cells) (omega arith) ∙ sym (rank_of_last cells place (none.0 refl));
}
next_stands cells place (Some next) none here after least =
    record { here = live_stands cells next here; same = next_rank cells place next after least }

-- the places before this index are moved
pub record MovedUpTo (cells : List (Option Gate)) (places : List ℕ) (index : ℕ) (to : List ℕ) : Type 0 where
  pub count : length to ≡ index
  pub stand : All (λ place. IsTrue (stands cells place)) to
  pub ranks : map (rank cells) to ≡ map (rank cells) (take index places)

-- none at first
pub moved_none : (cells : List (Option Gate)) (places : List ℕ) → MovedUpTo cells places 0 []
moved_none cells places = record { count = refl; stand = All-nil (λ place. IsTrue (stands cells place)); ranks = refl }

-- and one more
pub moved_more : (cells : List (Option Gate)) (places : List ℕ) (index : ℕ) (to : List ℕ) (more : ℕ) → index < length places →
    MovedUpTo cells places index to → IsTrue (stands cells more) → rank cells more ≡ rank cells (get_or places index 0) →
    MovedUpTo cells places (index + 1) (to ++ more ∷ [])
moved_more cells places index to more lt so_far here same = record {
  count = omega (arith, length_push to more, so_far.count);
  stand = All-push (λ place. IsTrue (stands cells place)) to more so_far.stand here;
  ranks =
      let before : map (rank cells) to ≡ map (rank cells) (take index places) = so_far.ranks in
      map_push (rank cells) to more ∙ rw (before, same) (sym (map_more (rank cells) places index 0 lt));
}

-- at the end all are
pub moved_all : (cells : List (Option Gate)) (places : List ℕ) (index : ℕ) (to : List ℕ) → length places ≤ index → MovedUpTo cells places index to →
    map (rank cells) to ≡ map (rank cells) places
moved_all cells places index to end so_far = so_far.ranks ∙ ap (map (rank cells)) (take_all index places end)

-- they don't fall
pub moved_not_falling : (cells : List (Option Gate)) (places to : List ℕ) → IsStrictlyIncreasing places → All (λ place. IsTrue (stands cells place)) to →
    map (rank cells) to ≡ map (rank cells) places → IsNonDecreasing to
moved_not_falling cells places to up stand same i j d le lt =
    standing_from_rank cells (get_or to i d) (get_or to j d) (stand i d (omega arith)) (stand j d lt)
    (omega (arith, ranked i (omega arith), ranked j lt, rank-le cells (get_or places i 0) (get_or places j 0) (place_up_to places i j up le (omega (arith, long)))))
  where
    long : length to ≡ length places
    long = sym (length-map to (rank cells)) ∙ (ap (λ (l : List ℕ). length l) same ∙ length-map places (rank cells))

    ranked : (k : ℕ) → k < length to → rank cells (get_or to k d) ≡ rank cells (get_or places k 0)
    ranked k in' =
        sym (get_or-map (rank cells) to k d 0 in') ∙
        (ap (λ (l : List ℕ). get_or l k 0) same ∙ get_or-map (rank cells) places k 0 0 (omega (arith, long)))
