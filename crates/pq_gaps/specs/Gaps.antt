use Rattle.std.specs.Prelude.{◌≡◌, ◌≢◌, ◌⊎◌, ℕ, ◌+◌, ◌-◌, ◌*◌, ◌<◌, ◌≤◌, min, Bool, ◌&&◌, ◌||◌, not, nat_lt, nat_le, ◌==◌, if◌then◌else◌, List, [], ◌∷◌, ◌++◌, map, filter, All, IsTrue}
use Rattle.std.specs.Int.{div_ceil}
use Rattle.std.specs.List.{range_with_len, list_any, flat_map}

-- the first fingers: the multiples of omega that are less than the number of live gates
unfoldable pub first_fingers : ℕ → ℕ → List ℕ
first_fingers live omega = map (λ k. k * omega) (range_with_len 0 (div_ceil live omega))

-- the gap where the segment of a finger begins: omega before it, or the start
abbrev pub segment_from : ℕ → ℕ → ℕ
segment_from omega gap = gap - omega

-- the gap where it ends: omega after it, or the end, which is the number of live gates
abbrev pub segment_to : ℕ → ℕ → ℕ → ℕ
segment_to omega live gap = min live (gap + omega)

-- the gaps that are taken where the next one has to be at least `least`, and each later one at least
-- 2 * omega more than the last one taken
abbrev pub selected_from : ℕ → ℕ → List ℕ → List ℕ
selected_from omega least [] = []
selected_from omega least (gap ∷ gaps) =
    if nat_le least gap then gap ∷ selected_from omega (gap + 2 * omega) gaps else selected_from omega least gaps

-- the selected ones of these gaps
abbrev pub selected : ℕ → List ℕ → List ℕ
selected omega gaps = selected_from omega 0 gaps

-- the list is empty, or begins with a number that is at least `least`
abbrev pub BeginsFrom : ℕ → List ℕ → Type 0
BeginsFrom least [] = Unit {0}
BeginsFrom least (gap ∷ gaps) = least ≤ gap

-- what is taken of the gaps: the first, and then again and again the first later one that is at least
-- 2 * omega more than the last one taken
pub data IsSelection (omega : ℕ) : List ℕ → List ℕ → Type 0 where
  none : IsSelection omega [] []
  next : (gap : ℕ) (passed rest taken : List ℕ) → All (λ other. other < gap + 2 * omega) passed →
      BeginsFrom (gap + 2 * omega) rest → IsSelection omega rest taken →
      IsSelection omega (gap ∷ (passed ++ rest)) (gap ∷ taken)

-- an ascending list with one number more, unless it is there already
abbrev pub with_number : ℕ → List ℕ → List ℕ
with_number x [] = x ∷ []
with_number x (y ∷ ys) =
    if nat_lt x y then x ∷ y ∷ ys else (if x == y then y ∷ ys else y ∷ with_number x ys)

-- the numbers of a list, ascending and without repeats
abbrev pub ascending : List ℕ → List ℕ
ascending [] = []
ascending (x ∷ xs) = with_number x (ascending xs)

-- the position stands strictly inside an improved segment
abbrev pub is_inside : Bool → ℕ → ℕ → ℕ → Bool
is_inside improved from to position = improved && (nat_lt from position && nat_lt position to)

-- the boundaries of an improved segment, but for the start and the end of the list
abbrev pub inner_edges : Bool → Bool → Bool → ℕ → ℕ → List ℕ
inner_edges improved at_start at_end from to =
    (if improved && not at_start then from ∷ [] else []) ++ (if improved && not at_end then to ∷ [] else [])

-- What a round did at one selected finger: the gap of the finger, the gaps from which and to which its
-- segment goes, whether the segment was improved, and how many gates it lost.
pub record GapCut : Type 0 where
  pub finger : ℕ
  pub from : ℕ
  pub to : ℕ
  pub improved : Bool
  pub lost : ℕ

-- the gap was selected, or stands strictly inside the segment, which was improved
abbrev pub is_dropped_gap : ℕ → GapCut → Bool
is_dropped_gap gap cut = (gap == cut.finger) || is_inside cut.improved cut.from cut.to gap

-- the same as a fact
abbrev pub DropsGap : ℕ → GapCut → Type 0
DropsGap gap cut = (gap ≡ cut.finger) ⊎ (IsTrue cut.improved × (cut.from < gap) × (gap < cut.to))

-- the gap is a boundary of the segment, which was improved, and neither the start nor the end of the list
abbrev pub MakesGap : ℕ → ℕ → GapCut → Type 0
MakesGap live gap cut =
    IsTrue cut.improved × (((gap ≡ cut.from) × (cut.from ≢ 0)) ⊎ ((gap ≡ cut.to) × (cut.to ≢ live)))

-- the gaps that become fingers where the old list had this many live gates
abbrev pub new_gaps : ℕ → GapCut → List ℕ
new_gaps live cut = inner_edges cut.improved (cut.from == 0) (cut.to == live) cut.from cut.to

-- The kept gaps of a round: the fingers that no cut drops, and the boundaries of the improved segments.
unfoldable pub kept_gaps : ℕ → List GapCut → List ℕ → List ℕ
kept_gaps live cuts fingers =
    ascending (filter (λ gap. not (list_any (is_dropped_gap gap) cuts)) fingers ++ flat_map (new_gaps live) cuts)

-- the gates that the improved segments lost that end at this gap or before it
abbrev pub lost_before : List GapCut → ℕ → ℕ
lost_before [] gap = 0
lost_before (cut ∷ cuts) gap = (if cut.improved && nat_le cut.to gap then cut.lost else 0) + lost_before cuts gap

-- where a kept gap is in the new list
abbrev pub moved_gap : List GapCut → ℕ → ℕ
moved_gap cuts gap = gap - lost_before cuts gap

-- the fingers after a round: the kept gaps where they are in the new list, ascending and without repeats
abbrev pub new_fingers : ℕ → List GapCut → List ℕ → List ℕ
new_fingers live cuts fingers = ascending (map (moved_gap cuts) (kept_gaps live cuts fingers))
