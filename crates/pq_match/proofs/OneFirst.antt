-- There is at most one first redex.
use Rattle.std.proofs.Common.{◌≡◌, ℕ, zero, suc, ◌<◌, List, [], ◌∷◌, length, inl, inr, refl, ap, sym, subst, ◌∙◌, arith}
use Rattle.std.specs.Prelude.{All, Option, Some, None}
use Rattle.std.proofs.lemmas.List.{ext_get_or}
use Rattle.std.proofs.lemmas.Option.{slice_get_within, get_or_from_slice_get}
use Rattle.pq_gate.specs.declared.gate.Gate.{Gate}
use Rattle.pq_rules.specs.Row.{RowView, Uses, IsSound}
use Rattle.pq_rules.specs.Renaming.{renamed}
use Rattle.pq_rules.specs.Kinds.{row_numbered}
use Rattle.pq_match.specs.Redex.{RedexView, IsRedex, IsMatch, IsWithin, HasNoRedex, last_place}
use Rattle.pq_match.specs.First.{Precedes, key, IsFirst, HasNoneWithin, FirstWithin}
use Rattle.pq_match.proofs.RenamedWires.{led_once}
use Rattle.pq_match.proofs.RewritingWires.{places_long, chosen_at}
use Rattle.pq_match.proofs.FirstOfOrder.{Comes, comes_cases, precedes_from_comes}

-- a row that has a number is one of the rows
pub row_sound : (rules : List RowView) (number : ℕ) (row : RowView) → row_numbered rules number ≡ Some row → All IsSound rules → IsSound row
row_sound rules zero row is sound = absurd (cc)
row_sound rules (suc k) row is sound =
    subst IsSound (get_or_from_slice_get rules k row row is) (sound k row (slice_get_within rules k row is))

pub number_small : (rules : List RowView) (number : ℕ) (row : RowView) → row_numbered rules number ≡ Some row → number < suc (length rules)
number_small rules zero row is = omega arith
number_small rules (suc k) row is = omega (arith, slice_get_within rules k row is)

-- so the places of a redex choose its wires
wires_once : (gates : List Gate) (row : RowView) (e f places : List ℕ) → IsSound row → length e ≡ row.wires → length f ≡ row.wires →
    IsMatch gates row.pattern e places → IsMatch gates row.pattern f places → e ≡ f
wires_once gates row e f places sound e_long f_long left right =
    ext_get_or 0 e f (e_long ∙ sym f_long)
    (λ w inside.
    let uses : Uses row.pattern w = sound.wires.used w (omega (arith, e_long)) in
    led_once e f uses.1 w uses.4 (subst (λ (g : Gate). renamed e g ≡ renamed f g) uses.3
    (sym (chosen_at gates row.pattern e places left.chosen uses.0 uses.1 uses.2) ∙ chosen_at gates row.pattern f places right.chosen uses.0 uses.1 uses.2)))

module _ (rules : List RowView) (gates : List Gate) (x y : RedexView) (left : IsRedex rules gates x) (right : IsRedex rules gates y) where
  pub one_row : x.row ≡ y.row → left.row ≡ right.row
  one_row same =
      let numbered : row_numbered rules x.row ≡ row_numbered rules y.row = ap (row_numbered rules) same in cc (numbered, left.numbered, right.numbered)

  -- redexes of one row have equally many places, so their keys are ordered
  key_precedes : Comes (key x) (key y) → Precedes (key x) (key y)
  key_precedes before =
      elim before [
        | inl less ↦ inl less
        | inr rest ↦ inr (
          rest.0,
          elim rest.1 [
            | inl less ↦ inl less
            | inr last ↦ inr (
              last.0,
              precedes_from_comes x.places y.places
                  (places_long gates left.row.pattern x.wires x.places left.matches.chosen ∙ ap (λ (r : RowView). length r.pattern) (one_row last.0)
                  ∙ sym (places_long gates right.row.pattern y.wires y.places right.matches.chosen)) last.1,
            )
          ],
        )
      ]

  one_redex : All IsSound rules → key x ≡ key y → x ≡ y
  one_redex sound same =
      let row : x.row ≡ y.row = cc in
      let places : x.places ≡ y.places = cc in
      let rows : right.row ≡ left.row = sym (one_row row) in
      let wires : x.wires ≡ y.wires = wires_once gates left.row x.wires y.wires x.places (row_sound rules x.row left.row left.numbered sound)
      left.wires.whole (right.wires.whole ∙ ap (λ (r : RowView). r.wires) rows) left.matches
      (subst (λ (ps : List ℕ). IsMatch gates left.row.pattern y.wires ps) (sym places)
      (subst (λ (r : RowView). IsMatch gates r.pattern y.wires y.places) rows right.matches)) in
      λ i. record { row = row i; wires = wires i; places = places i }

pub one_first : (rules : List RowView) (gates : List Gate) (span : ℕ) (x y : RedexView) → All IsSound rules →
    IsFirst rules gates span x → IsFirst rules gates span y → x ≡ y
one_first rules gates span x y sound left right =
    elim (comes_cases (key x) (key y)) [
      | inl before ↦ absurd (right.first x left.is left.among (key_precedes rules gates x y left.is right.is before))
      | inr other ↦ elim other [
        | inl same ↦ one_redex rules gates x y left.is right.is sound same
        | inr after ↦ absurd (left.first y right.is right.among (key_precedes rules gates y x right.is left.is after))
      ]
    ]

pub one_found : (rules : List RowView) (gates : List Gate) (span : ℕ) (found other : Option RedexView) → All IsSound rules →
    FirstWithin rules gates span found → FirstWithin rules gates span other → found ≡ other
one_found rules gates span None None sound left right = refl
one_found rules gates span None (Some y) sound left right = absurd (left.none y right.is right.among)
one_found rules gates span (Some x) None sound left right = absurd (right.none x left.is left.among)
one_found rules gates span (Some x) (Some y) sound left right = ap Some (one_first rules gates span x y sound left right)

pub last_inside : (n : ℕ) (places : List ℕ) → All (λ i. i < n) places → 0 < length places → last_place places < n
last_inside n [] inside some = absurd (omega arith)
last_inside n (p ∷ []) inside some = inside 0 0 (omega arith)
last_inside n (p ∷ q ∷ places) inside some =
    last_inside n (q ∷ places) (λ k d k_inside. inside (suc k) d (omega arith)) (omega arith)

-- a redex chooses some gate
pub some_place : (rules : List RowView) (gates : List Gate) (redex : RedexView) → All IsSound rules → IsRedex rules gates redex →
    0 < length redex.places
some_place rules gates redex sound is =
    let shorter : length is.row.replacement < length is.row.pattern = (row_sound rules redex.row is.row is.numbered sound).shortens.shorter in
    omega (arith, shorter, places_long gates is.row.pattern redex.wires redex.places is.matches.chosen)

-- each redex lies within the length of the list
pub redex_within_all : (rules : List RowView) (gates : List Gate) (redex : RedexView) → IsRedex rules gates redex → IsWithin (length gates) redex
redex_within_all rules gates redex is = omega (arith, last_inside (length gates) redex.places is.matches.inside is.some)

-- a list without a redex within its length has none
pub first_of_all : (rules : List RowView) (gates : List Gate) → HasNoneWithin rules gates (length gates) → HasNoRedex rules gates
first_of_all rules gates none redex is = none.none redex is (redex_within_all rules gates redex is)
