-- There is a first redex, or none.
use Rattle.std.proofs.Common.{◌≡◌, ℕ, zero, suc, ◌+◌, ◌<◌, ◌≤◌, List, [], ◌∷◌, length, get_or, ◌⊎◌, inl, inr, refl, ap, sym, subst, ◌∙◌, arith}
use Rattle.std.specs.Prelude.{All, Option, Some, None}
use Rattle.std.proofs.lemmas.Bool.{cases_eq}
use Rattle.std.proofs.lemmas.List.Elements.{All-from_get_or}
use Rattle.pq_gate.specs.declared.gate.Gate.{Gate}
use Rattle.pq_rules.specs.Row.{RowView, Uses, IsSound}
use Rattle.pq_rules.specs.Renaming.{renamed}
use Rattle.pq_match.specs.Redex.{RedexView, IsRedex, IsWithin, gate_at}
use Rattle.pq_match.specs.First.{key, FirstWithin}
use Rattle.pq_match.proofs.RenamedWires.{touches_renamed}
use Rattle.pq_match.proofs.FirstOfSettled.{Settled, redex_within, above_wires, touched_below}
use Rattle.pq_match.proofs.FirstOfOrder.{Comes, comes_cases, comes_through, comes_never_before_itself, comes_from_precedes}
use Rattle.pq_match.proofs.RewritingWires.{places_long, chosen_at}
use Rattle.pq_match.proofs.OneFirst.{row_sound, number_small}

-- one that is good, and before which no good one of those looked at comes
record IsLeast (Good Looked : RedexView → Type 0) (x : RedexView) : Type 0 where
  good : Good x
  least : (y : RedexView) → Looked y → Good y → ¬ Comes (key y) (key x)

-- there is one, or none of those looked at is good
abbrev Least : (RedexView → Type 0) → (RedexView → Type 0) → Type 0
Least Good Looked = ((x : RedexView) × IsLeast Good Looked x) ⊎ ((y : RedexView) → Looked y → ¬ Good y)

-- a word of at most `count` numbers below `top`, of which something holds
record Word (count top : ℕ) (P : List ℕ → Type 0) : Type 0 where
  word : List ℕ
  short : length word ≤ count
  low : All (λ i. i < top) word
  here : P word

-- a number below `top`, of which something holds
record Number (top : ℕ) (P : ℕ → Type 0) : Type 0 where
  number : ℕ
  low : number < top
  here : P number

module _ (Good : RedexView → Type 0) (settled : (x : RedexView) → Settled (Good x)) where
  fewer : {C D : RedexView → Type 0} → ((y : RedexView) → D y → C y) → Least Good C → Least Good D
  fewer part (inl found) = inl (found.0, record { good = found.1.good; least = λ y looked. found.1.least y (part y looked) })
  fewer part (inr none) = inr (λ y looked. none y (part y looked))

  one : (x : RedexView) → Least Good (λ y. y ≡ x)
  one x =
      elim (settled x) [
        | inl good ↦ inl (
          x,
          record {
            good = good;
            least = λ y same other before. comes_never_before_itself (key x) (subst (λ (z : RedexView). Comes (key z) (key x)) same before);
          },
        )
        | inr bad ↦ inr (λ y same good. bad (subst Good same good))
      ]

  nothing : Least Good (λ y. ⊥)
  nothing = inr (λ y looked good. looked)

  two : {C D : RedexView → Type 0} → Least Good C → Least Good D → Least Good (λ y. C y ⊎ D y)
  two (inr left) (inr right) = inr (λ y looked good. elim looked [ inl l ↦ left y l good | inr r ↦ right y r good ])
  two (inr left) (inl right) =
      inl (
        right.0,
        record {
          good = right.1.good;
          least = λ y looked good before. elim looked [ inl l ↦ left y l good | inr r ↦ right.1.least y r good before ];
        },
      )
  two (inl left) (inr right) =
      inl (
        left.0,
        record {
          good = left.1.good;
          least = λ y looked good before. elim looked [ inl l ↦ left.1.least y l good before | inr r ↦ right y r good ];
        },
      )
  two (inl left) (inl right) =
      elim (comes_cases (key left.0) (key right.0)) [
        | inl less ↦ inl (
          left.0,
          record {
            good = left.1.good;
            least = λ y looked good before. elim looked [
              | inl l ↦ left.1.least y l good before
              | inr r ↦ right.1.least y r good (comes_through (key y) (key left.0) (key right.0) before less)
            ];
          },
        )
        | inr other ↦ inl (
          right.0,
          record {
            good = right.1.good;
            least = λ y looked good before. elim looked [
              | inl l ↦ left.1.least y l good (elim other [
                | inl same ↦ subst (λ (k : List ℕ). Comes (key y) k) (sym same) before
                | inr more ↦ comes_through (key y) (key right.0) (key left.0) before more
              ])
              | inr r ↦ right.1.least y r good before
            ];
          },
        )
      ]

  numbers : (top : ℕ) (C : ℕ → RedexView → Type 0) → ((k : ℕ) → Least Good (C k)) → Least Good (λ y. Number top (λ k. C k y))
  numbers zero C each = inr (λ y looked good. omega (arith, looked.low))
  numbers (suc n) C each =
      fewer
      (λ y looked. elim (cases_eq looked.number n) [
        | inl same ↦ inr (subst (λ (k : ℕ). C k y) same looked.here)
        | inr differ ↦ inl (record { number = looked.number; low = omega (arith, looked.low); here = looked.here })
      ])
      (two (numbers n C each) (each n))

  words : (count top : ℕ) (C : List ℕ → RedexView → Type 0) → ((w : List ℕ) → Least Good (C w)) →
      Least Good (λ y. Word count top (λ w. C w y))
  words zero top C each = fewer (λ y looked. empty y looked.word looked.short looked.here) (each [])
    where
      empty : (y : RedexView) (w : List ℕ) → length w ≤ 0 → C w y → C [] y
      empty y [] short here = here
      empty y (a ∷ w) short here = absurd (omega arith)
  words (suc n) top C each =
      fewer (λ y looked. split y looked.word looked.short looked.low looked.here)
      (two (each []) (numbers top (λ a y. Word n top (λ w. C (a ∷ w) y)) (λ a. words n top (λ w. C (a ∷ w)) (λ w. each (a ∷ w)))))
    where
      split : (y : RedexView) (w : List ℕ) → length w ≤ suc n → All (λ i. i < top) w → C w y →
          C [] y ⊎ Number top (λ a. Word n top (λ v. C (a ∷ v) y))
      split y [] short low here = inl here
      split y (a ∷ w) short low here =
          inr (record {
            number = a;
            low = low 0 0 (omega arith);
            here = record { word = w; short = omega arith; low = λ k d inside. low (suc k) d (omega arith); here = here };
          })

-- a number above each wire of the gates
abbrev above_all : List Gate → ℕ
above_all [] = 0
above_all (g ∷ gates) = above_wires g + above_all gates

above_each : (gates : List Gate) (place : ℕ) → place < length gates → above_wires (gate_at gates place) ≤ above_all gates
above_each [] place inside = absurd (omega arith)
above_each (g ∷ gates) zero inside = omega arith
above_each (g ∷ gates) (suc place) inside = omega (arith, above_each gates place (omega arith))

module _ (rules : List RowView) (gates : List Gate) (sound : All IsSound rules) where
  -- the wires of a redex are wires of the gates
  wires_low : (x : RedexView) → IsRedex rules gates x → All (λ w. w < above_all gates) x.wires
  wires_low x is =
      All-from_get_or (λ w. w < above_all gates) x.wires 0
      (λ w inside.
      let uses : Uses is.row.pattern w = (row_sound rules x.row is.row is.numbered sound).wires.used w (omega (arith, is.wires.whole)) in
      let here : gate_at gates (get_or x.places uses.0 0) ≡ renamed x.wires uses.1 =
      chosen_at gates is.row.pattern x.wires x.places is.matches.chosen uses.0 uses.1 uses.2 ∙ ap (renamed x.wires) uses.3 in
      let touched : get_or x.wires w 0 < above_wires (renamed x.wires uses.1) =
      touched_below (renamed x.wires uses.1) (get_or x.wires w 0) (touches_renamed x.wires uses.1 w uses.4) in
      let place : get_or x.places uses.0 0 < length gates = is.matches.inside uses.0 0 (omega (arith, uses.2, places_long gates is.row.pattern x.wires x.places is.matches.chosen)) in
      omega (arith, touched, above_each gates (get_or x.places uses.0 0) place, ap above_wires here))

  module _ (span : ℕ) where
    abbrev Good : RedexView → Type 0
    Good x = IsRedex rules gates x × IsWithin span x

    -- one of these numbers, wires and places
    abbrev Looked : RedexView → Type 0
    Looked y =
        Number (suc (length rules)) (λ number. Word 3 (above_all gates) (λ wires. Word 8 (length gates) (λ places.
        y ≡ record { row = number; wires = wires; places = places })))

    candidates : Least Good Looked
    candidates =
        numbers Good (redex_within rules gates span sound) (suc (length rules)) _ (λ number.
        words Good (redex_within rules gates span sound) 3 (above_all gates) _ (λ wires.
        words Good (redex_within rules gates span sound) 8 (length gates) _ (λ places.
        one Good (redex_within rules gates span sound) (record { row = number; wires = wires; places = places }))))

    covers : (x : RedexView) → IsRedex rules gates x → Looked x
    covers x is =
        let row : IsSound is.row = row_sound rules x.row is.row is.numbered sound in
        record {
          number = x.row;
          low = number_small rules x.row is.row is.numbered;
          here = record {
            word = x.wires;
            short = omega (arith, row.wires.few, is.wires.whole);
            low = wires_low x is;
            here = record {
              word = x.places;
              short = omega (arith, row.shortens.short, places_long gates is.row.pattern x.wires x.places is.matches.chosen);
              low = is.matches.inside;
              here = refl;
            };
          };
        }

    pub some_first : (found : Option RedexView) × FirstWithin rules gates span found
    some_first =
        elim candidates [
          | inl found ↦ (
            Some found.0,
            record {
              is = found.1.good.0;
              among = found.1.good.1;
              first = λ other is within before.
                  found.1.least other (covers other is) (is, within) (comes_from_precedes (key other) (key found.0) before);
            },
          )
          | inr none ↦ (None, record { none = λ redex is within. none redex (covers redex is) (is, within) })
        ]
