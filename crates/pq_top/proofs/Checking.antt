-- A list of gates has a redex within a span exactly where one of its runs of that length has one.
use Rattle.std.proofs.Common.{◌≡◌, ℕ, zero, suc, ◌+◌, ◌-◌, ◌<◌, ◌≤◌, eqb, Bool, List, [], ◌∷◌, ◌++◌, length, map, take, drop, get_or, refl, ap, sym, subst, ◌∙◌, inl, inr, arith}
use Rattle.std.specs.Prelude.{All, AllPairs, ◌||◌}
use Rattle.std.proofs.lemmas.Bool.{eqb-true, eq-eqb}
use Rattle.std.proofs.lemmas.List.{get_or_default, get_or-map, get_or_append_left, get_or-append-add, length-map, length-take, length-drop, take-append-drop}
use Rattle.pq_gate.specs.declared.gate.Gate.{Gate}
use Rattle.pq_gate.specs.declared.gate.Gate.TheVariants.{H}
use Rattle.pq_gate.specs.Commuting.{Commutes}
use Rattle.pq_read.specs.declared.program.Options.{Options}
use Rattle.pq_read.specs.declared.program.Program.{Program}
use Rattle.pq_read.specs.Environment.{view}
use Rattle.pq_read.specs.Reads.{Reads}
use Rattle.pq_read.proofs.Meets.{same_bool}
use Rattle.pq_rules.specs.Row.{RowView}
use Rattle.pq_rules.specs.Table.{builtin_rows}
use Rattle.pq_match.specs.declared.redex.Redex.{Redex}
use Rattle.pq_match.specs.Found.{IsFirstFound, seen}
use Rattle.pq_match.specs.Redex.{RedexView, IsRedex, IsWithin, AreFree, gate_at, is_chosen, last_place}
use Rattle.pq_match.specs.First.{IsFirst, HasNoneWithin}
use Rattle.pq_loop.specs.Round.{run}
use Rattle.pq_loop.specs.Opt.{Local}
use Rattle.pq_method.proofs.Redexes.{shifted, later_redex, redex_in_longer}
use Rattle.pq_top.specs.Outputs.{redex_line, local_line, IsCheckText}

-- the gates before a run, those of the run, and those after it
around_run : (gates : List Gate) (from to : ℕ) → gates ≡ take from gates ++ (run gates from to ++ drop (to - from) (drop from gates))
around_run gates from to =
    sym (take-append-drop from gates) ∙ ap (λ (l : List Gate). take from gates ++ l) (sym (take-append-drop (to - from) (drop from gates)))

-- the last one of shifted places, and the first one
last_shifted : (k p : ℕ) (places : List ℕ) → last_place (shifted k (p ∷ places)) ≡ k + last_place (p ∷ places)
last_shifted k p [] = refl
last_shifted k p (q ∷ places) = last_shifted k q places

span_shifted : (k span : ℕ) (places : List ℕ) → 0 < length places → last_place places < get_or places 0 0 + span →
    last_place (shifted k places) < get_or (shifted k places) 0 0 + span
span_shifted k span [] some within = absurd (omega arith)
span_shifted k span (p ∷ places) some within = omega (arith, last_shifted k p places, within)

last_below : (n : ℕ) (places : List ℕ) → All (λ i. i < n) places → 0 < length places → last_place places < n
last_below n [] inside some = absurd (omega arith)
last_below n (p ∷ []) inside some = inside 0 0 (omega arith)
last_below n (p ∷ q ∷ places) inside some = last_below n (q ∷ places) (λ k d below. inside (suc k) d (omega arith)) (omega arith)

first_up_to_last : (places : List ℕ) → AllPairs (λ i j. i < j) places → get_or places 0 0 ≤ last_place places
first_up_to_last [] rising = omega arith
first_up_to_last (p ∷ []) rising = omega arith
first_up_to_last (p ∷ q ∷ places) rising =
    omega (
      arith,
      rising 0 1 0 (omega arith) (omega arith),
      first_up_to_last (q ∷ places) (λ i j d lt in'. rising (suc i) (suc j) d (omega arith) (omega arith)),
    )

up_to_last : (places : List ℕ) (i : ℕ) → AllPairs (λ i j. i < j) places → i < length places → get_or places i 0 ≤ last_place places
up_to_last [] i rising in' = absurd (omega arith)
up_to_last (p ∷ []) zero rising in' = omega arith
up_to_last (p ∷ []) (suc i) rising in' = absurd (omega arith)
up_to_last (p ∷ q ∷ places) zero rising in' = first_up_to_last (p ∷ q ∷ places) rising
up_to_last (p ∷ q ∷ places) (suc i) rising in' =
    up_to_last (q ∷ places) i (λ i j d lt in'. rising (suc i) (suc j) d (omega arith) (omega arith)) (omega arith)

from_first : (places : List ℕ) (i : ℕ) → AllPairs (λ i j. i < j) places → i < length places → get_or places 0 0 ≤ get_or places i 0
from_first places zero rising in' = omega arith
from_first places (suc i) rising in' = omega (arith, rising 0 (suc i) 0 (omega arith) in')

-- where no redex lies within the span, no run of that length has one
pub none_is_local : (rules : List RowView) (w : ℕ) (gates : List Gate) → HasNoneWithin rules gates w → Local rules w gates
none_is_local rules w gates none from to up in_list most redex is =
    let whole : gates ≡ take from gates ++ (run gates from to ++ drop (to - from) (drop from gates)) = around_run gates from to in
    let k : ℕ = length (take from gates) in
    let P : List Gate → Type 0 = λ l. IsRedex rules l (later_redex k redex) in
    let long : length (run gates from to) ≤ w = omega (arith, length-take (to - from) (drop from gates), most) in
    let last : last_place redex.places < length (run gates from to) = last_below (length (run gates from to)) redex.places is.matches.inside is.some in
    none.none (later_redex k redex)
    (subst P (sym whole) (redex_in_longer rules (take from gates) (run gates from to) (drop (to - from) (drop from gates)) redex is))
    (span_shifted k w redex.places is.some (omega (arith, long, last)))

-- a place is chosen among the places exactly where it is among the shifted ones when it is shifted
eqb_shifted : (k p i : ℕ) → eqb (k + p) (k + i) ≡ eqb p i
eqb_shifted k p i = same_bool (eqb (k + p) (k + i)) (eqb p i) (λ e. eq-eqb p i (omega (arith, eqb-true (k + p) (k + i) e))) (λ e. eq-eqb (k + p) (k + i) (omega (arith, eqb-true p i e)))

chosen_shifted : (k : ℕ) (places : List ℕ) (i : ℕ) → is_chosen (shifted k places) (k + i) ≡ is_chosen places i
chosen_shifted k [] i = refl
chosen_shifted k (p ∷ places) i =
    ap (λ (b : Bool). b || is_chosen (shifted k places) (k + i)) (eqb_shifted k p i)
    ∙ ap (λ (b : Bool). eqb p i || b) (chosen_shifted k places i)

-- the gates of a run in a longer list
gate_there : (u v x : List Gate) (i : ℕ) → i < length v → gate_at (u ++ (v ++ x)) (length u + i) ≡ gate_at v i
gate_there u v x i lt = get_or-append-add u (v ++ x) i (H 0) ∙ get_or_append_left v x (H 0) i lt

gates_there : (u v x : List Gate) (places : List ℕ) → All (λ i. i < length v) places →
    map (gate_at (u ++ (v ++ x))) (shifted (length u) places) ≡ map (gate_at v) places
gates_there u v x [] inside = refl
gates_there u v x (p ∷ places) inside =
    let first : gate_at (u ++ (v ++ x)) (length u + p) ≡ gate_at v p = gate_there u v x p (inside 0 0 (omega arith)) in
    let rest : map (gate_at (u ++ (v ++ x))) (shifted (length u) places) ≡ map (gate_at v) places =
    gates_there u v x places (λ k d below. inside (suc k) d (omega arith)) in
    (λ i. first i ∷ rest i)

-- a redex whose places all lie in a run is one of the run
redex_cut_out : (rules : List RowView) (u v x : List Gate) (redex : RedexView) → All (λ i. i < length v) redex.places →
    IsRedex rules (u ++ (v ++ x)) (later_redex (length u) redex) → IsRedex rules v redex
redex_cut_out rules u v x redex inside is = record {
  row = is.row;
  numbered = is.numbered;
  wires = is.wires;
  some = some;
  matches = record {
    rising = λ i j d lt in'. rising i j d lt in';
    inside = inside;
    chosen = sym (gates_there u v x redex.places inside) ∙ is.matches.chosen;
  };
  free = free;
}
  where
    some : 0 < length redex.places
    some = omega (arith, is.some, length-map redex.places (λ p. length u + p))

    rising : (i j d : ℕ) → i < j → j < length redex.places → get_or redex.places i d < get_or redex.places j d
    rising i j d lt in' =
        let far : j < length (shifted (length u) redex.places) = omega (arith, in', length-map redex.places (λ p. length u + p)) in
        omega (
          arith,
          is.matches.rising i j 0 lt far,
          get_or-map (λ p. length u + p) redex.places i d 0 (omega (arith, lt, in')),
          get_or-map (λ p. length u + p) redex.places j d 0 in',
        )

    last : last_place (shifted (length u) redex.places) ≡ length u + last_place redex.places
    last = last_of redex.places some
      where
        last_of : (places : List ℕ) → 0 < length places → last_place (shifted (length u) places) ≡ length u + last_place places
        last_of [] none = absurd (omega arith)
        last_of (p ∷ places) any = last_shifted (length u) p places

    free : AreFree v redex.places
    free i j chosen passed lt upto =
        let most : last_place redex.places < length v = last_below (length v) redex.places inside some in
        let P : Gate → Type 0 = λ a. Commutes a (gate_at (u ++ (v ++ x)) (length u + j)) in
        let Q : Gate → Type 0 = λ b. Commutes (gate_at v i) b in
        subst Q (gate_there u v x j (omega (arith, most, upto)))
        (subst P (gate_there u v x i (omega (arith, most, upto, lt)))
        (is.free (length u + i) (length u + j) (chosen_shifted (length u) redex.places i ∙ chosen) (chosen_shifted (length u) redex.places j ∙ passed)
        (omega (arith, lt)) (omega (arith, last, upto))))

shifted_again : (k : ℕ) (places : List ℕ) → All (λ p. k ≤ p) places → places ≡ shifted k (map (λ p. p - k) places)
shifted_again k [] least = refl
shifted_again k (p ∷ places) least =
    let first : p ≡ k + (p - k) = omega (arith, least 0 0 (omega arith)) in
    let rest : places ≡ shifted k (map (λ p. p - k) places) = shifted_again k places (λ i d below. least (suc i) d (omega arith)) in
    (λ i. first i ∷ rest i)

-- where a redex lies within the span, a run of that length has one
pub redex_not_local : (rules : List RowView) (w : ℕ) (gates : List Gate) (redex : RedexView) → IsRedex rules gates redex → IsWithin w redex →
    Local rules w gates → ⊥
redex_not_local rules w gates redex is within local =
    let least : All (λ p. from ≤ p) redex.places = λ i d in'. at_least i d in' in
    let again : redex.places ≡ shifted from places = shifted_again from redex.places least in
    let P : List Gate → Type 0 = λ l. IsRedex rules l redex in
    let Q : List ℕ → Type 0 = λ l. IsRedex rules (take from gates ++ (run gates from to ++ after)) (record { row = redex.row; wires = redex.wires; places = l }) in
    let R : ℕ → Type 0 = λ k. IsRedex rules (take from gates ++ (run gates from to ++ after)) (record { row = redex.row; wires = redex.wires; places = shifted k places }) in
    local from to (omega (arith, up)) end (omega (arith, within)) cut
    (redex_cut_out rules (take from gates) (run gates from to) after cut inside
    (subst R (sym before_long) (subst Q again (subst P (around_run gates from to) is))))
  where
    from : ℕ
    from = get_or redex.places 0 0

    to : ℕ
    to = last_place redex.places + 1

    after : List Gate
    after = drop (to - from) (drop from gates)

    places : List ℕ
    places = map (λ p. p - from) redex.places

    cut : RedexView
    cut = record { row = redex.row; wires = redex.wires; places = places }

    up : from ≤ last_place redex.places
    up = first_up_to_last redex.places is.matches.rising

    end : to ≤ length gates
    end = omega (arith, last_below (length gates) redex.places is.matches.inside is.some)

    before_long : length (take from gates) ≡ from
    before_long = omega (arith, length-take from gates, up, end)

    run_long : length (run gates from to) ≡ to - from
    run_long = omega (arith, length-take (to - from) (drop from gates), length-drop from gates, end)

    at_least : (i d : ℕ) → i < length redex.places → from ≤ get_or redex.places i d
    at_least i d in' = omega (arith, get_or_default redex.places i d 0 in', from_first redex.places i is.matches.rising in')

    inside : All (λ i. i < length (run gates from to)) places
    inside i d in' =
        let here : i < length redex.places = omega (arith, in', length-map redex.places (λ p. p - from)) in
        omega (
          arith,
          get_or-map (λ p. p - from) redex.places i 0 d here,
          from_first redex.places i is.matches.rising here,
          up_to_last redex.places i is.matches.rising here,
          run_long,
        )

-- So what is written of a program is what holds of its gates.

pub names_redex : (w : ℕ) (text output : List ℕ) (options : Options) (p : Program) (rules : List RowView) (gates : List Gate) (redex : Redex) →
    gates ≡ p.gates.items → rules ≡ builtin_rows → Reads text options (view p) → IsFirstFound rules gates w redex →
    ((wires : List ℕ) → output ≡ redex_line (seen redex wires)) → IsCheckText w options text 1 output
names_redex w text output options p rules gates redex is rules_are read found written = record {
  program = view p;
  read = read;
  says = inr (
    refl,
    record {
      redex = seen redex found.wires;
      first = first;
      not_local = redex_not_local builtin_rows w p.gates.items (seen redex found.wires) first.is first.among;
      written = written found.wires;
    },
  );
}
  where
    first : IsFirst builtin_rows p.gates.items w (seen redex found.wires)
    first =
        subst (λ (rs : List RowView). IsFirst rs p.gates.items w (seen redex found.wires)) rules_are
        (subst (λ (list : List Gate). IsFirst rules list w (seen redex found.wires)) is found.first)

pub says_local : (w : ℕ) (text output : List ℕ) (options : Options) (p : Program) (rules : List RowView) (gates : List Gate) →
    gates ≡ p.gates.items → rules ≡ builtin_rows → Reads text options (view p) → HasNoneWithin rules gates w → output ≡ local_line →
    IsCheckText w options text 0 output
says_local w text output options p rules gates is rules_are read none written = record {
  program = view p;
  read = read;
  says = inl (refl, record { none = here; local = none_is_local builtin_rows w p.gates.items here; written = written });
}
  where
    here : HasNoneWithin builtin_rows p.gates.items w
    here =
        subst (λ (rs : List RowView). HasNoneWithin rs p.gates.items w) rules_are
        (subst (λ (list : List Gate). HasNoneWithin rules list w) is none)
