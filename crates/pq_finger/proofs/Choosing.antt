use Rattle.std.proofs.Common.{◌≡◌, ℕ, ◌+◌, ◌*◌, ◌<◌, ◌≤◌, true, false, leb, List, [], ◌∷◌, ◌++◌, Option, Some, None, length, drop, get_or, map, refl, sym, ap, ◌∙◌, arith, append_assoc}
use Rattle.std.specs.Option.{IfSome}
use Rattle.std.specs.List.{All, slice_index}
use Rattle.std.specs.List.Sorted.{IsStrictlyIncreasing}
use Rattle.std.proofs.lemmas.List.{append-nil, drop_all, drop_more, map_push}
use Rattle.std.proofs.lemmas.List.Elements.{All-push}
use Rattle.pq_gaps.specs.Gaps.{selected, selected_from}
use Rattle.pq_finger.specs.Selecting.{least_after}
use Rattle.pq_gaps.proofs.Rising.{with_number_end, all_member}
use Rattle.pq_gaps.proofs.Putting.{increasing-with_number}
use Rattle.pq_finger.proofs.Halfway.{place_up_to}

-- of the gaps before this index the selected ones are chosen
pub record ChosenUpTo (omega_ : ℕ) (ranks indexes : List ℕ) (last : Option ℕ) (index : ℕ) : Type 0 where
  pub in_range : All (λ k. k < index) indexes
  pub rising : IsStrictlyIncreasing indexes
  pub chosen : map (slice_index ranks) indexes ++ selected_from omega_ (least_after omega_ last) (drop index ranks) ≡ selected omega_ ranks
  pub last_up_to : (k : ℕ) → index ≤ k → k < length ranks → IfSome last (λ other. other ≤ get_or ranks k 0)

-- numbers below one more
All-below : (n : ℕ) (xs : List ℕ) → All (λ k. k < n) xs → All (λ k. k < n + 1) xs
All-below n xs all k d lt = omega (arith, all k d lt)

-- a gap that may be selected is the next selected one
take_gap : (omega_ least gap : ℕ) (gaps : List ℕ) → leb least gap ≡ true → selected_from omega_ least (gap ∷ gaps) ≡ gap ∷ selected_from omega_ (gap + 2 * omega_) gaps
take_gap w least gap gaps may = rw may refl

-- and one that may not isn't
pass_gap : (omega_ least gap : ℕ) (gaps : List ℕ) → leb least gap ≡ false → selected_from omega_ least (gap ∷ gaps) ≡ selected_from omega_ least gaps
pass_gap w least gap gaps may_not = rw may_not refl

pub ChosenUpTo-takes : {omega_ : ℕ} {ranks indexes : List ℕ} {last : Option ℕ} {index : ℕ} → IsStrictlyIncreasing ranks → index < length ranks →
    ChosenUpTo omega_ ranks indexes last index → leb (least_after omega_ last) (get_or ranks index 0) ≡ true →
    ChosenUpTo omega_ ranks (indexes ++ index ∷ []) (Some (get_or ranks index 0)) (index + 1)
ChosenUpTo-takes {omega_} {ranks} {indexes} {last} {index} up lt so_far may = record {
  in_range = All-push (λ k. k < index + 1) indexes index (All-below index indexes so_far.in_range) (omega arith);
  rising =
      rw (sym (with_number_end index indexes (all_member (λ k. k < index) indexes so_far.in_range)))
      (increasing-with_number index indexes so_far.rising);
  chosen = ap (λ (r : List ℕ). r ++ rest) (map_push (slice_index ranks) indexes index) ∙
      (append_assoc (map (slice_index ranks) indexes) (get_or ranks index 0 ∷ []) rest ∙
      (ap (λ (r : List ℕ). map (slice_index ranks) indexes ++ r)
      (sym (ap (selected_from omega_ (least_after omega_ last)) (drop_more ranks index 0 lt) ∙
      take_gap omega_ (least_after omega_ last) (get_or ranks index 0) (drop (index + 1) ranks) may)) ∙ so_far.chosen));
  last_up_to = λ k low high. place_up_to ranks index k up (omega arith) high;
}
  where
    rest : List ℕ
    rest = selected_from omega_ (get_or ranks index 0 + 2 * omega_) (drop (index + 1) ranks)

pub ChosenUpTo-passes : {omega_ : ℕ} {ranks indexes : List ℕ} {last : Option ℕ} {index : ℕ} → index < length ranks →
    ChosenUpTo omega_ ranks indexes last index → leb (least_after omega_ last) (get_or ranks index 0) ≡ false →
    ChosenUpTo omega_ ranks indexes last (index + 1)
ChosenUpTo-passes {omega_} {ranks} {indexes} {last} {index} lt so_far may_not = record {
  in_range = All-below index indexes so_far.in_range;
  rising = so_far.rising;
  chosen = ap (λ (r : List ℕ). map (slice_index ranks) indexes ++ r)
      (sym (ap (selected_from omega_ (least_after omega_ last)) (drop_more ranks index 0 lt) ∙
      pass_gap omega_ (least_after omega_ last) (get_or ranks index 0) (drop (index + 1) ranks) may_not)) ∙ so_far.chosen;
  last_up_to = λ k low high. so_far.last_up_to k (omega arith) high;
}

-- none is chosen at first
pub ChosenUpTo-none : (omega_ : ℕ) (ranks : List ℕ) → ChosenUpTo omega_ ranks [] None 0
ChosenUpTo-none w ranks = record {
  in_range = λ k d lt. absurd (omega arith);
  rising = λ k lt. absurd (omega arith);
  chosen = refl;
  last_up_to = λ k low high. tt;
}

-- and at the end all are
pub ChosenUpTo-all : {omega_ : ℕ} {ranks indexes : List ℕ} {last : Option ℕ} {index : ℕ} → length ranks ≤ index →
    ChosenUpTo omega_ ranks indexes last index → map (slice_index ranks) indexes ≡ selected omega_ ranks
ChosenUpTo-all {omega_} {ranks} {indexes} {last} {index} end so_far =
    sym (append-nil (map (slice_index ranks) indexes)) ∙
    (ap (λ (r : List ℕ). map (slice_index ranks) indexes ++ selected_from omega_ (least_after omega_ last) r) (sym (drop_all index ranks end)) ∙ so_far.chosen)
