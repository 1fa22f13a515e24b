-- The cuts of a round, one for each result.
use Rattle.std.proofs.Common.{◌≡◌, ℕ, zero, suc, ◌+◌, ◌<◌, ◌≤◌, ◌⊎◌, inl, inr, Bool, Option, List, [], ◌∷◌, ◌++◌, length, get_or, set, take, drop, map, refl, sym, ap, subst, ◌∙◌, arith}
use Rattle.std.specs.Prelude.{All, slice_index}
use Rattle.std.specs.List.{AllZip}
use Rattle.std.proofs.lemmas.Bool.{cases_lt}
use Rattle.std.proofs.lemmas.List.{append-nil, drop_all, take_all, length_push, get_or_push, get_or_append_left, get_or-map}
use Rattle.pq_gate.specs.declared.gate.Gate.{Gate}
use Rattle.pq_array.specs.Cells.{live, rank}
use Rattle.pq_gaps.specs.Gaps.{GapCut}
use Rattle.pq_finger.specs.Ranks.{IsAtPlaces}
use Rattle.pq_finger.specs.declared.cut.Cut.{Cut}
use Rattle.pq_oracle.specs.Outcomes.{WorkedView}
use Rattle.pq_method.specs.Round.{cut_of}
use Rattle.pq_loop.specs.Segments.{stands, IsCutHere, flagged, told, work_at, works_of}

-- the cut is what a round did at a finger of this index and gap, wherever the finger stands
abbrev pub IsCutOf : List (Option Gate) → ℕ → ℕ → ℕ → Bool → Cut → Type 0
IsCutOf cells reach finger gap improved cut = (places : List ℕ) (gaps : GapCut) → IsCutHere (length (live cells)) reach gap improved gaps →
    finger < length places → rank cells (slice_index places finger) ≡ gap →
    IsAtPlaces (rank cells) (stands cells) (length (live cells)) places gaps cut

-- the ends of the first segments
pub record EndsUpTo (cells : List (Option Gate)) (reach : ℕ) (fingers gaps : List ℕ) (number : ℕ) (ends : List Cut) : Type 0 where
  pub count : length ends ≡ number
  pub each : (i : ℕ) (d : Cut) (b : Bool) → i < number → IsCutOf cells reach (get_or fingers i 0) (get_or gaps i 0) b (flagged b (get_or ends i d))

pub ends_none : (cells : List (Option Gate)) (reach : ℕ) (fingers gaps : List ℕ) → EndsUpTo cells reach fingers gaps 0 []
ends_none cells reach fingers gaps = record { count = refl; each = λ i d b lt. absurd (omega arith) }

pub ends_more : (cells : List (Option Gate)) (reach : ℕ) (fingers gaps : List ℕ) (number : ℕ) (ends : List Cut) (cut : Cut) → EndsUpTo cells reach fingers gaps number ends →
    ((b : Bool) → IsCutOf cells reach (get_or fingers number 0) (get_or gaps number 0) b (flagged b cut)) → EndsUpTo cells reach fingers gaps (number + 1) (ends ++ cut ∷ [])
ends_more cells reach fingers gaps number ends cut so_far here =
    record { count = omega (arith, length_push ends cut, so_far.count); each = λ i d b lt. at_index i d b (cases_lt i number) lt }
  where
    at_index : (i : ℕ) (d : Cut) (b : Bool) → (i < number) ⊎ (number ≤ i) → i < number + 1 →
        IsCutOf cells reach (get_or fingers i 0) (get_or gaps i 0) b (flagged b (get_or (ends ++ cut ∷ []) i d))
    at_index i d b (inl earlier) lt = rw (get_or_append_left ends (cut ∷ []) d i (omega (arith, so_far.count))) (so_far.each i d b earlier)
    at_index i d b (inr last) lt =
        let same : number ≡ i = omega arith in
        rw (get_or_push ends cut d i (omega (arith, so_far.count)))
        (subst (λ (n : ℕ). IsCutOf cells reach (get_or fingers n 0) (get_or gaps n 0) b (flagged b cut)) same (here b))

-- the word of one more result is told
pub told_next : (ends : List Cut) (results : List WorkedView) (n : ℕ) (d : Cut) (e : WorkedView) → length ends ≡ length results → n < length ends →
    set (told (take n ends) (take n results) ++ drop n ends) n (flagged (get_or results n e).answer.improved (get_or (told (take n ends) (take n results) ++ drop n ends) n d))
    ≡ told (take (n + 1) ends) (take (n + 1) results) ++ drop (n + 1) ends
told_next [] results n d e same lt = absurd (omega (arith, lt))
told_next (c ∷ cs) [] n d e same lt = absurd (omega (arith, same))
told_next (c ∷ cs) (w ∷ ws) zero d e same lt = refl
told_next (c ∷ cs) (w ∷ ws) (suc n) d e same lt =
    let step : suc n + 1 ≡ suc (n + 1) = omega arith in
    rw step (ap (λ (l : List Cut). flagged w.answer.improved c ∷ l) (told_next cs ws n d e (omega (arith, same)) (omega (arith, lt))))

-- and where all are, these are all
pub told_all : (ends : List Cut) (results : List WorkedView) (n : ℕ) → length ends ≡ length results → length ends ≤ n →
    told (take n ends) (take n results) ++ drop n ends ≡ told ends results
told_all ends results n same all =
    (λ i. told (take_all n ends all i) (take_all n results (omega (arith, same, all)) i) ++ drop_all n ends all i) ∙ append-nil (told ends results)

length_told : (ends : List Cut) (results : List WorkedView) → length ends ≡ length results → length (told ends results) ≡ length results
length_told [] [] same = refl
length_told [] (w ∷ ws) same = absurd (omega arith)
length_told (e ∷ es) [] same = absurd (omega arith)
length_told (e ∷ es) (w ∷ ws) same = omega (arith, length_told es ws (omega (arith, same)))

told_at : (ends : List Cut) (results : List WorkedView) (i : ℕ) (d : Cut) (e : WorkedView) → length ends ≡ length results → i < length ends →
    get_or (told ends results) i d ≡ flagged (get_or results i e).answer.improved (get_or ends i d)
told_at [] results i d e same lt = absurd (omega (arith, lt))
told_at (c ∷ cs) [] i d e same lt = absurd (omega (arith, same))
told_at (c ∷ cs) (w ∷ ws) zero d e same lt = refl
told_at (c ∷ cs) (w ∷ ws) (suc i) d e same lt = told_at cs ws i d e (omega (arith, same)) (omega (arith, lt))

-- the cuts of the first results
pub record CutsUpTo (cells : List (Option Gate)) (reach : ℕ) (fingers gaps : List ℕ) (results : List WorkedView) (number : ℕ) (cuts : List Cut) : Type 0 where
  pub count : length cuts ≡ number
  pub each : (i : ℕ) (d : Cut) (e : WorkedView) → i < number →
      IsCutOf cells reach (get_or fingers i 0) (get_or gaps i 0) ((get_or results i e).answer.improved) (get_or cuts i d)

-- with them the ends are cuts
told_cuts : (cells : List (Option Gate)) (reach : ℕ) (fingers gaps : List ℕ) (results : List WorkedView) (number : ℕ) (ends : List Cut) → length results ≡ number →
    EndsUpTo cells reach fingers gaps number ends → CutsUpTo cells reach fingers gaps results number (told ends results)
told_cuts cells reach fingers gaps results number ends long so_far = record {
  count = length_told ends results (so_far.count ∙ sym long) ∙ long;
  each = λ i d e lt.
      subst (IsCutOf cells reach (get_or fingers i 0) (get_or gaps i 0) ((get_or results i e).answer.improved)) (sym (told_at ends results i d e (so_far.count ∙ sym long) (omega (arith, lt, so_far.count))))
      (so_far.each i d ((get_or results i e).answer.improved) lt);
}

-- none at first
pub cuts_none : (cells : List (Option Gate)) (reach : ℕ) (fingers gaps : List ℕ) (results : List WorkedView) → CutsUpTo cells reach fingers gaps results 0 []
cuts_none cells reach fingers gaps results = record { count = refl; each = λ i d e lt. absurd (omega arith) }

-- and one more
pub cuts_more : (cells : List (Option Gate)) (reach : ℕ) (fingers gaps : List ℕ) (results : List WorkedView) (number : ℕ) (cuts : List Cut) (cut : Cut) →
    CutsUpTo cells reach fingers gaps results number cuts →
    ((e : WorkedView) → IsCutOf cells reach (get_or fingers number 0) (get_or gaps number 0) ((get_or results number e).answer.improved) cut) →
    CutsUpTo cells reach fingers gaps results (number + 1) (cuts ++ cut ∷ [])
cuts_more cells reach fingers gaps results number cuts cut so_far here =
    record { count = omega (arith, length_push cuts cut, so_far.count); each = λ i d e lt. at_index i d e (cases_lt i number) lt }
  where
    at_index : (i : ℕ) (d : Cut) (e : WorkedView) → (i < number) ⊎ (number ≤ i) → i < number + 1 →
        IsCutOf cells reach (get_or fingers i 0) (get_or gaps i 0) ((get_or results i e).answer.improved) (get_or (cuts ++ cut ∷ []) i d)
    at_index i d e (inl earlier) lt = rw (get_or_append_left cuts (cut ∷ []) d i (omega (arith, so_far.count))) (so_far.each i d e earlier)
    at_index i d e (inr last) lt =
        let same : number ≡ i = omega arith in
        rw (get_or_push cuts cut d i (omega (arith, so_far.count)))
        (subst (λ (n : ℕ). IsCutOf cells reach (get_or fingers n 0) (get_or gaps n 0) ((get_or results n e).answer.improved) cut) same (here e))

-- what holds of each work and its cut
works_zip : (R : GapCut → Cut → Type 0) (reach count : ℕ) (gaps : List ℕ) (results : List WorkedView) (cuts : List Cut) →
    length results ≡ length gaps → length cuts ≡ length gaps →
    ((i : ℕ) (d : Cut) (e : WorkedView) → i < length gaps → R (cut_of (work_at reach count (get_or gaps i 0) (get_or results i e))) (get_or cuts i d)) →
    AllZip R (map cut_of (works_of reach count gaps results)) cuts
works_zip R reach count [] results [] long many each = tt
works_zip R reach count [] results (cut ∷ cuts) long many each = absurd (omega arith)
works_zip R reach count (gap ∷ gaps) [] cuts long many each = absurd (omega arith)
works_zip R reach count (gap ∷ gaps) (worked ∷ results) [] long many each = absurd (omega arith)
works_zip R reach count (gap ∷ gaps) (worked ∷ results) (cut ∷ cuts) long many each =
    (each 0 cut worked (omega arith), works_zip R reach count gaps results cuts (omega arith) (omega arith) (λ i d e lt. each (suc i) d e (omega arith)))

-- at the end the cuts are those of the works
pub cuts_all : (cells : List (Option Gate)) (reach : ℕ) (fingers gaps : List ℕ) (results : List WorkedView) (number : ℕ) (cuts : List Cut) (places : List ℕ) →
    length results ≡ length gaps → length fingers ≡ length gaps → number ≡ length gaps → CutsUpTo cells reach fingers gaps results number cuts →
    All (λ index. index < length places) fingers → map (λ index. rank cells (slice_index places index)) fingers ≡ gaps →
    AllZip (IsAtPlaces (rank cells) (stands cells) (length (live cells)) places) (map cut_of (works_of reach (length (live cells)) gaps results)) cuts
cuts_all cells reach fingers gaps results number cuts places long many end so_far inside ranked =
    works_zip (IsAtPlaces (rank cells) (stands cells) (length (live cells)) places) reach (length (live cells)) gaps results cuts long (omega (arith, so_far.count)) at
  where
    ranked_at : (i : ℕ) → i < length fingers → rank cells (slice_index places (get_or fingers i 0)) ≡ get_or gaps i 0
    ranked_at i lt =
        sym (get_or-map (λ index. rank cells (slice_index places index)) fingers i 0 0 lt) ∙ ap (λ (l : List ℕ). get_or l i 0) ranked

    at : (i : ℕ) (d : Cut) (e : WorkedView) → i < length gaps →
        IsAtPlaces (rank cells) (stands cells) (length (live cells)) places (cut_of (work_at reach (length (live cells)) (get_or gaps i 0) (get_or results i e))) (get_or cuts i d)
    at i d e lt =
        so_far.each i d e (omega arith) places (cut_of (work_at reach (length (live cells)) (get_or gaps i 0) (get_or results i e)))
        (record { finger = refl; from = refl; to = refl; improved_is = refl })
        (inside i 0 (omega arith)) (ranked_at i (omega arith))

-- so are the ends of all segments, with the words of results
pub ends_all : (cells : List (Option Gate)) (reach : ℕ) (fingers gaps : List ℕ) (number : ℕ) (ends : List Cut) (places : List ℕ) (results : List WorkedView) →
    length fingers ≡ length gaps → number ≡ length gaps → EndsUpTo cells reach fingers gaps number ends → length results ≡ length gaps →
    All (λ index. index < length places) fingers → map (λ index. rank cells (slice_index places index)) fingers ≡ gaps →
    AllZip (IsAtPlaces (rank cells) (stands cells) (length (live cells)) places) (map cut_of (works_of reach (length (live cells)) gaps results)) (told ends results)
ends_all cells reach fingers gaps number ends places results many end so_far long inside ranked =
    cuts_all cells reach fingers gaps results number (told ends results) places long many end (told_cuts cells reach fingers gaps results number ends (long ∙ sym end) so_far) inside ranked
