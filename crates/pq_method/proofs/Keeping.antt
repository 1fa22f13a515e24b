use Rattle.std.proofs.Common.{◌≡◌, ℕ, zero, suc, ◌+◌, ◌-◌, ◌<◌, ◌≤◌, Bool, true, false, cond, ◌&&◌, leb, List, [], ◌∷◌, ◌++◌, length, map, take, drop, get_or, refl, ap, sym, subst, ◌∙◌, arith, inl, inr, ◌⊎◌}
use Rattle.std.specs.Prelude.{All, Any, Contains}
use Rattle.std.proofs.lemmas.Bool.{cases_lt, le-leb, lt-leb, and_right, and_from, cases_Bool}
use Rattle.std.proofs.lemmas.List.{get_or-map, get_or_default, length-map, length-append, length-drop, length-take, length-take-le}
use Rattle.pq_gate.specs.declared.gate.Gate.{Gate}
use Rattle.pq_rules.specs.Row.{RowView, IsSound}
use Rattle.pq_gaps.specs.Gaps.{GapCut, DropsGap, MakesGap, ascending, kept_gaps, new_fingers, lost_before, moved_gap}
use Rattle.pq_gaps.proofs.Ascending.{member-ascending}
use Rattle.pq_gaps.proofs.KeptGaps.{kept_gaps_exactly}
use Rattle.pq_gaps.proofs.Rising.{all_member, contains_from_member, member_from_contains}
use Rattle.pq_oracle.proofs.Answering.{unchanged, shorter}
use Rattle.pq_method.specs.Round.{Work, cut_of, run, joined}
use Rattle.pq_method.proofs.Joining.{Fit, work_up, joined_long, oracle_later, run_parts}

-- what one cut takes away before a gap
none_yet : (improved : Bool) (to y lost : ℕ) → y < to → cond (improved && leb to y) lost 0 ≡ 0
none_yet improved to y lost lt = rw (and_right improved (leb to y) (lt-leb to y lt)) refl

pub all_lost : (improved : Bool) (to y lost : ℕ) → improved ≡ true → to ≤ y → cond (improved && leb to y) lost 0 ≡ lost
all_lost improved to y lost better le = rw (and_from improved (leb to y) better (le-leb to y le)) refl

pub none_lost : (improved : Bool) (to y lost : ℕ) → improved ≡ false → cond (improved && leb to y) lost 0 ≡ 0
none_lost improved to y lost same = rw same refl

at_most : (counts : Bool) (lost : ℕ) → cond counts lost 0 ≤ lost
at_most true lost = omega arith
at_most false lost = omega arith

-- up to the first segment nothing is lost
pub lost_none : (rules : List RowView) (w : ℕ) (gates : List Gate) (least y : ℕ) (works : List Work) → Fit rules w gates least works →
    y ≤ least → lost_before (map cut_of works) y ≡ 0
lost_none rules w gates least y [] fit le = refl
lost_none rules w gates least y (work ∷ works) fit le =
    by (λ low. lost_none rules w gates work.to y works fit.3 low) (cases_lt y work.to)
  where
    up : (work.from ≤ work.finger) × (work.finger ≤ work.to) × (work.to ≤ length gates)
    up = work_up rules w gates work fit.2 fit.1

    low : y ≤ work.to
    low = omega (arith, up.0, up.1, fit.0)

    by : (y ≤ work.to → lost_before (map cut_of works) y ≡ 0) → (y < work.to) ⊎ (work.to ≤ y) → lost_before (map cut_of (work ∷ works)) y ≡ 0
    by more (inl below) =
        omega (arith, more low, none_yet work.answer.improved work.to y (work.to - work.from - length work.answer.gates) below)
    by more (inr above) =
        omega (arith, more low, up.0, up.1, fit.0, at_most (work.answer.improved && leb work.to y) (work.to - work.from - length work.answer.gates))

-- and no gap behind the first segment's start moves before it
pub lost_fits : (rules : List RowView) (w : ℕ) (gates : List Gate) (least y : ℕ) (works : List Work) → Fit rules w gates least works →
    least ≤ y → lost_before (map cut_of works) y + least ≤ y
lost_fits rules w gates least y [] fit le = omega arith
lost_fits rules w gates least y (work ∷ works) fit le = by (lost_fits rules w gates work.to y works fit.3) (cases_lt y work.to)
  where
    up : (work.from ≤ work.finger) × (work.finger ≤ work.to) × (work.to ≤ length gates)
    up = work_up rules w gates work fit.2 fit.1

    by : (work.to ≤ y → lost_before (map cut_of works) y + work.to ≤ y) → (y < work.to) ⊎ (work.to ≤ y) →
        lost_before (map cut_of (work ∷ works)) y + least ≤ y
    by more (inl below) =
        let rest : lost_before (map cut_of works) y ≡ 0 = lost_none rules w gates work.to y works fit.3 (omega arith) in
        omega (arith, rest, none_yet work.answer.improved work.to y (work.to - work.from - length work.answer.gates) below)
    by more (inr above) =
        omega (arith, more above, up.0, up.1, fit.0, at_most (work.answer.improved && leb work.to y) (work.to - work.from - length work.answer.gates))

-- The numbers of one work, where all later answers are in place.
pub record Sizes (gates : List Gate) (work : Work) (works : List Work) : Type 0 where
  pub before : work.from ≤ work.finger
  pub behind : work.finger ≤ work.to
  pub in_old : work.to ≤ length gates
  pub in_now : work.to ≤ length (joined gates works)
  pub short : length work.answer.gates ≤ work.to - work.from
  pub size : length (joined gates (work ∷ works)) ≡ work.from + (length work.answer.gates + (length (joined gates works) - work.to))

pub sizes : (rules : List RowView) (w : ℕ) (gates : List Gate) (least : ℕ) (work : Work) (works : List Work) → All IsSound rules →
    Fit rules w gates least (work ∷ works) → Sizes gates work works
sizes rules w gates least work works sound fit =
    let up = work_up rules w gates work fit.2 fit.1 in
    let now : List Gate = joined gates works in
    let long : work.to ≤ length now = joined_long rules w gates work.to works fit.3 up.2 in
    let less : length work.answer.gates ≤ length (run now work.from work.to) =
    shorter rules (run now work.from work.to) work.answer sound (oracle_later rules w gates least work works fit) in
    let front : length (take work.from now) ≡ work.from = length-take-le work.from now (omega (arith, long, up.0, up.1)) in
    let whole : length (take work.from now ++ (work.answer.gates ++ drop work.to now)) ≡ length (take work.from now) + length (work.answer.gates ++ drop work.to now) =
    length-append (take work.from now) (work.answer.gates ++ drop work.to now) in
    record {
      before = up.0;
      behind = up.1;
      in_old = up.2;
      in_now = long;
      short = omega (arith, less, length-take (work.to - work.from) (drop work.from now));
      size = omega (arith, front, whole, length-append work.answer.gates (drop work.to now), length-drop work.to now);
    }

-- the list doesn't grow
pub joined_short : (rules : List RowView) (w : ℕ) (gates : List Gate) (least : ℕ) (works : List Work) → All IsSound rules →
    Fit rules w gates least works → length (joined gates works) ≤ length gates
joined_short rules w gates least [] sound fit = omega arith
joined_short rules w gates least (work ∷ works) sound fit =
    let size : Sizes gates work works = sizes rules w gates least work works sound fit in
    let rest : length (joined gates works) ≤ length gates = joined_short rules w gates work.to works sound fit.3 in
    omega (arith, rest, size.size, size.short, size.before, size.behind, size.in_now)

-- an answer that isn't better changes nothing
pub joined_as_before : (rules : List RowView) (w : ℕ) (gates : List Gate) (least : ℕ) (work : Work) (works : List Work) →
    Fit rules w gates least (work ∷ works) → work.answer.improved ≡ false → joined gates (work ∷ works) ≡ joined gates works
joined_as_before rules w gates least work works fit same =
    let up = work_up rules w gates work fit.2 fit.1 in
    let now : List Gate = joined gates works in
    let kept = unchanged rules (run now work.from work.to) work.answer (oracle_later rules w gates least work works fit) same in
    ap (λ (c : List Gate). take work.from now ++ (c ++ drop work.to now)) kept.0 ∙ run_parts now work.from work.to (omega (arith, up.0, up.1))

-- one element more
any_here : {C : Type 0} (P : C → Type 0) (c : C) (cs : List C) → P c → Any P (c ∷ cs)
any_here P c cs is = (0, c, omega arith, refl, is)

any_there : {C : Type 0} (P : C → Type 0) (c : C) (cs : List C) → Any P cs → Any P (c ∷ cs)
any_there P c cs some = (suc some.0, some.1, omega (arith, some.2), some.3, some.4)

any_which : {C : Type 0} (P : C → Type 0) (c : C) (cs : List C) → Any P (c ∷ cs) → P c ⊎ Any P cs
any_which {C} P c cs some = by some.0 some.1 some.2 some.3 some.4
  where
    by : (k : ℕ) (x : C) → k < length (c ∷ cs) → get_or (c ∷ cs) k x ≡ x → P x → P c ⊎ Any P cs
    by zero x lt at is = inl (subst P (sym at) is)
    by (suc k) x lt at is = inr (k, x, omega (arith, lt), at, is)

-- the gap is kept
abbrev pub Kept : ℕ → List GapCut → List ℕ → ℕ → Type 0
Kept live cuts fingers gap = (Contains fingers gap × (Any (DropsGap gap) cuts → ⊥)) ⊎ Any (MakesGap live gap) cuts

pub kept_edge : (live : ℕ) (cut : GapCut) (cuts : List GapCut) (fingers : List ℕ) (y : ℕ) → MakesGap live y cut → Kept live (cut ∷ cuts) fingers y
kept_edge live cut cuts fingers y makes = inr (any_here (MakesGap live y) cut cuts makes)

pub kept_more : (live : ℕ) (cut : GapCut) (cuts : List GapCut) (fingers : List ℕ) (y : ℕ) → Kept live cuts fingers y → (DropsGap y cut → ⊥) →
    Kept live (cut ∷ cuts) fingers y
kept_more live cut cuts fingers y (inl old) stays = inl (old.0, λ some. by (any_which (DropsGap y) cut cuts some))
  where
    by : DropsGap y cut ⊎ Any (DropsGap y) cuts → ⊥
    by (inl here) = stays here
    by (inr later) = old.1 later
kept_more live cut cuts fingers y (inr new) stays = inr (any_there (MakesGap live y) cut cuts new)

pub kept_less : (live : ℕ) (cut : GapCut) (cuts : List GapCut) (fingers : List ℕ) (y : ℕ) → Kept live (cut ∷ cuts) fingers y →
    MakesGap live y cut ⊎ (Kept live cuts fingers y × ((DropsGap y cut → ⊥) ⊎ Any (MakesGap live y) cuts))
kept_less live cut cuts fingers y (inl old) =
    inr (inl (old.0, λ some. old.1 (any_there (DropsGap y) cut cuts some)), inl (λ drops. old.1 (any_here (DropsGap y) cut cuts drops)))
kept_less live cut cuts fingers y (inr new) = by (any_which (MakesGap live y) cut cuts new)
  where
    by : MakesGap live y cut ⊎ Any (MakesGap live y) cuts → MakesGap live y cut ⊎ (Kept live cuts fingers y × ((DropsGap y cut → ⊥) ⊎ Any (MakesGap live y) cuts))
    by (inl here) = inl here
    by (inr later) = inr (inr later, inr later)

-- the new fingers are the kept gaps, moved
contains_map : (f : ℕ → ℕ) (xs : List ℕ) (y : ℕ) → Contains xs y → Contains (map f xs) (f y)
contains_map f xs y in' =
    (in'.0, omega (arith, in'.1, length-map xs f), get_or-map f xs in'.0 y (f y) in'.1 ∙ ap f in'.2)

contains_from_map : (f : ℕ → ℕ) (xs : List ℕ) (z : ℕ) → Contains (map f xs) z → (y : ℕ) × Contains xs y × (z ≡ f y)
contains_from_map f xs z in' =
    let below : in'.0 < length xs = omega (arith, in'.1, length-map xs f) in (
      get_or xs in'.0 0,
      (in'.0, below, get_or_default xs in'.0 (get_or xs in'.0 0) 0 below),
      sym in'.2 ∙ get_or-map f xs in'.0 0 z below,
    )

pub new_from_kept : (live : ℕ) (cuts : List GapCut) (fingers : List ℕ) (y : ℕ) → Kept live cuts fingers y →
    Contains (new_fingers live cuts fingers) (moved_gap cuts y)
new_from_kept live cuts fingers y kept =
    let all : List ℕ = map (moved_gap cuts) (kept_gaps live cuts fingers) in
    let in' : Contains all (moved_gap cuts y) =
    contains_map (moved_gap cuts) (kept_gaps live cuts fingers) y ((kept_gaps_exactly live cuts fingers y).1 kept) in
    contains_from_member (moved_gap cuts y) (ascending all)
    (member-ascending (moved_gap cuts y) all ∙ member_from_contains (moved_gap cuts y) all in')

pub kept_from_new : (live : ℕ) (cuts : List GapCut) (fingers : List ℕ) (z : ℕ) → Contains (new_fingers live cuts fingers) z →
    (y : ℕ) × Kept live cuts fingers y × (z ≡ moved_gap cuts y)
kept_from_new live cuts fingers z in' =
    let all : List ℕ = map (moved_gap cuts) (kept_gaps live cuts fingers) in
    let found = contains_from_map (moved_gap cuts) (kept_gaps live cuts fingers) z
    (contains_from_member z all (sym (member-ascending z all) ∙ member_from_contains z (ascending all) in')) in
    (found.0, (kept_gaps_exactly live cuts fingers found.0).0 found.1, found.2)

-- boundaries stand from the first segment on
pub made_later : (rules : List RowView) (w : ℕ) (gates : List Gate) (least live y : ℕ) (works : List Work) → Fit rules w gates least works →
    Any (MakesGap live y) (map cut_of works) → least ≤ y
made_later rules w gates least live y [] fit some = absurd (omega (arith, some.2))
made_later rules w gates least live y (work ∷ works) fit some =
    by (made_later rules w gates work.to live y works fit.3) (any_which (MakesGap live y) (cut_of work) (map cut_of works) some)
  where
    up : (work.from ≤ work.finger) × (work.finger ≤ work.to) × (work.to ≤ length gates)
    up = work_up rules w gates work fit.2 fit.1

    edge : ((y ≡ work.from) × (work.from ≡ 0 → ⊥)) ⊎ ((y ≡ work.to) × (work.to ≡ live → ⊥)) → least ≤ y
    edge (inl at) = omega (arith, at.0, fit.0)
    edge (inr at) = omega (arith, at.0, fit.0, up.0, up.1)

    by : (Any (MakesGap live y) (map cut_of works) → work.to ≤ y) →
        MakesGap live y (cut_of work) ⊎ Any (MakesGap live y) (map cut_of works) → least ≤ y
    by more (inl here) = edge here.1
    by more (inr later) = omega (arith, more later, fit.0, up.0, up.1)

-- kept gaps move to gaps of the new list
pub moved_inside : (rules : List RowView) (w : ℕ) (gates : List Gate) (least : ℕ) (works : List Work) (fingers : List ℕ) (y : ℕ) →
    All IsSound rules → All (λ finger. finger ≤ length gates) fingers → Fit rules w gates least works →
    Kept (length gates) (map cut_of works) fingers y → moved_gap (map cut_of works) y ≤ length (joined gates works)
moved_inside rules w gates least [] fingers y sound inside fit (inl old) =
    omega (arith, all_member (λ finger. finger ≤ length gates) fingers inside y (member_from_contains y fingers old.0))
moved_inside rules w gates least [] fingers y sound inside fit (inr new) = absurd (omega (arith, new.2))
moved_inside rules w gates least (work ∷ works) fingers y sound inside fit kept =
    by (moved_inside rules w gates work.to works fingers y sound inside fit.3)
    (kept_less (length gates) (cut_of work) (map cut_of works) fingers y kept)
  where
    size : Sizes gates work works
    size = sizes rules w gates least work works sound fit

    edge : work.answer.improved ≡ true → ((y ≡ work.from) × (work.from ≡ 0 → ⊥)) ⊎ ((y ≡ work.to) × (work.to ≡ length gates → ⊥)) →
        moved_gap (map cut_of (work ∷ works)) y ≤ length (joined gates (work ∷ works))
    edge better (inl at) = omega (arith, at.0, size.size)
    edge better (inr at) =
        omega (
          arith,
          at.0,
          size.size,
          size.short,
          all_lost work.answer.improved work.to y (work.to - work.from - length work.answer.gates) better (omega (arith, at.0)),
        )

    outside : work.answer.improved ≡ true → moved_gap (map cut_of works) y ≤ length (joined gates works) →
        (DropsGap y (cut_of work) → ⊥) ⊎ Any (MakesGap (length gates) y) (map cut_of works) →
        (y < work.to) ⊎ (work.to ≤ y) → (work.from < y) ⊎ (y ≤ work.from) →
        moved_gap (map cut_of (work ∷ works)) y ≤ length (joined gates (work ∷ works))
    outside better rest side (inr above) right =
        omega (
          arith,
          rest,
          size.size,
          size.short,
          size.in_now,
          size.before,
          size.behind,
          all_lost work.answer.improved work.to y (work.to - work.from - length work.answer.gates) better above,
        )
    outside better rest side (inl below) (inr low) = omega (arith, low, size.size)
    outside better rest (inl stays) (inl below) (inl high) = absurd (stays (inr (better, high, below)))
    outside better rest (inr made) (inl below) (inl high) =
        absurd (omega (arith, below, made_later rules w gates work.to (length gates) y works fit.3 made))

    whether : moved_gap (map cut_of works) y ≤ length (joined gates works) →
        (DropsGap y (cut_of work) → ⊥) ⊎ Any (MakesGap (length gates) y) (map cut_of works) →
        (work.answer.improved ≡ true) ⊎ (work.answer.improved ≡ false) →
        moved_gap (map cut_of (work ∷ works)) y ≤ length (joined gates (work ∷ works))
    whether rest side (inl better) = outside better rest side (cases_lt y work.to) (cases_lt work.from y)
    whether rest side (inr same) =
        omega (
          arith,
          rest,
          ap (λ (c : List Gate). length c) (joined_as_before rules w gates least work works fit same),
          none_lost work.answer.improved work.to y (work.to - work.from - length work.answer.gates) same,
        )

    by : (Kept (length gates) (map cut_of works) fingers y → moved_gap (map cut_of works) y ≤ length (joined gates works)) →
        MakesGap (length gates) y (cut_of work) ⊎ (Kept (length gates) (map cut_of works) fingers y ×
        ((DropsGap y (cut_of work) → ⊥) ⊎ Any (MakesGap (length gates) y) (map cut_of works))) →
        moved_gap (map cut_of (work ∷ works)) y ≤ length (joined gates (work ∷ works))
    by more (inl makes) = edge makes.0 makes.1
    by more (inr old) = whether (more old.0) old.1 (cases_Bool work.answer.improved)
