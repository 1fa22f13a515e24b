use Rattle.std.proofs.Common.{◌≡◌, ◌≢◌, ℕ, zero, suc, ◌+◌, ◌%◌, ◌<◌, ◌≤◌, ◌||◌, Bool, true, false, List, [], ◌∷◌, ◌++◌, ⊎_elim, length, map, get_or, take, drop, refl, ap, sym, subst, ◌∙◌, arith, append_assoc}
use Rattle.std.specs.Prelude.{All, AllPairs, if◌then◌else◌}
use Rattle.std.specs.List.{AllByRecursion}
use Rattle.std.proofs.Math.Dec.{eqb}
use Rattle.std.proofs.Math.Nat.{add-zero}
use Rattle.std.proofs.lemmas.Bool.{eq-eqb, cases_eq}
use Rattle.std.proofs.lemmas.Bool.Decides.{nat_tests}
use Rattle.std.proofs.lemmas.List.{get_or-take, length-append, length-map, length-take, take-append-drop}
use Rattle.pq_gate.specs.declared.gate.Gate.{Gate}
use Rattle.pq_gate.specs.declared.gate.Gate.TheVariants.{H}
use Rattle.pq_gate.specs.Circuit.{IsOnWires, IsCircuit}
use Rattle.pq_gate.specs.Commuting.{Commutes}
use Rattle.pq_gate.specs.Matrix.{Same}
use Rattle.pq_gate.proofs.CircuitLaws.{IsCircuit-front, IsCircuit-back}
use Rattle.pq_gate.proofs.MoveLaws.{same_moved_inside}
use Rattle.pq_gate.proofs.SameLaws.{same_reflexive, same_transitive, same_in_front, same_behind, same_congruent}
use Rattle.pq_rules.specs.Renaming.{IsRenaming, renamed}
use Rattle.pq_rules.specs.Row.{RowView, Uses, IsSound}
use Rattle.pq_rules.proofs.LiftLaws.{same_renamed}
use Rattle.pq_match.proofs.RenamedWires.{touched_inside}
use Rattle.pq_match.specs.Redex.{RedexView, IsRedex, IsMatch, AreWires, AreFree, gate_at, last_place, is_chosen}
use Rattle.pq_match.specs.Rewrite.{unchosen, rewritten}

-- the gates that are chosen, where the first gate has the place `from`
abbrev pub chosen : List ℕ → ℕ → List Gate → List Gate
chosen places from [] = []
chosen places from (g ∷ c) = if is_chosen places from then g ∷ chosen places (from + 1) c else chosen places (from + 1) c

-- each chosen gate commutes with all later gates that aren't chosen
abbrev pub IsFreed : List ℕ → ℕ → List Gate → Type 0
IsFreed places from [] = Unit {0}
IsFreed places from (g ∷ c) =
    (is_chosen places from ≡ true → AllByRecursion (Commutes g) (unchosen places (from + 1) c)) × IsFreed places (from + 1) c

-- the gates stand in the whole list from this place on
abbrev pub StandAt : List Gate → ℕ → List Gate → Type 0
StandAt whole from [] = Unit {0}
StandAt whole from (g ∷ c) = (g ≡ gate_at whole from) × StandAt whole (from + 1) c

-- the places rise, from the first number on and below the last
abbrev pub Rise : ℕ → List ℕ → ℕ → Type 0
Rise from [] end = Unit {0}
Rise from (p ∷ places) end = (from ≤ p) × (p < end) × Rise (p + 1) places end

-- one gate more at the start: if it is chosen, it moves past the gates that aren't
gathered_more : (n : ℕ) (g : Gate) (c u v : List Gate) (b : Bool) → IsCircuit n (g ∷ c) → (b ≡ true → AllByRecursion (Commutes g) u) →
    Same n c (u ++ v) 0 → Same n (g ∷ c) ((if b then u else g ∷ u) ++ (if b then g ∷ v else v)) 0
gathered_more n g c u v true is free same =
    let kept : Same n (g ∷ c) (g ∷ (u ++ v)) 0 = same_behind n 0 (g ∷ []) c (u ++ v) (is.0, tt) same in
    let moved : Same n (g ∷ (u ++ v)) (u ++ (g ∷ v)) 0 =
    same_moved_inside n [] g u v tt (is.0, IsCircuit-front n u v same.right) (IsCircuit-back n u v same.right) (free refl) in
    same_transitive n 0 0 (g ∷ c) (g ∷ (u ++ v)) (u ++ (g ∷ v)) kept moved
gathered_more n g c u v false is free same = same_behind n 0 (g ∷ []) c (u ++ v) (is.0, tt) same

-- the chosen gates may stand behind all others
pub gathered : (n : ℕ) (places : List ℕ) (from : ℕ) (c : List Gate) → IsCircuit n c → IsFreed places from c →
    Same n c (unchosen places from c ++ chosen places from c) 0
gathered n places from [] is free = same_reflexive n [] tt
gathered n places from (g ∷ c) is free =
    gathered_more n g c (unchosen places (from + 1) c) (chosen places (from + 1) c) (is_chosen places from) is free.0
    (gathered n places (from + 1) c is.1 free.1)

-- by places
pub StandAt-each : (whole : List Gate) (from : ℕ) (c : List Gate) →
    ((k : ℕ) → k < length c → gate_at c k ≡ gate_at whole (from + k)) → StandAt whole from c
StandAt-each whole from [] each = tt
StandAt-each whole from (g ∷ c) each = (
  each 0 (omega arith) ∙ ap (gate_at whole) (add-zero from),
  StandAt-each whole (from + 1) c (λ k below. each (suc k) (omega arith) ∙ ap (gate_at whole) (omega arith)),
)

-- a prefix of a list stands in it
pub StandAt-front : (whole : List Gate) (count : ℕ) → StandAt whole 0 (take count whole)
StandAt-front whole count =
    StandAt-each whole 0 (take count whole)
    (λ k below.
    get_or-take count whole k (H 0) (omega (arith, length-take count whole)) ∙ ap (gate_at whole) (omega arith))

passed_more : (g h : Gate) (u : List Gate) (b : Bool) → (b ≡ false → Commutes g h) → AllByRecursion (Commutes g) u →
    AllByRecursion (Commutes g) (if b then u else h ∷ u)
passed_more g h u true here rest = rest
passed_more g h u false here rest = (here refl, rest)

-- a gate that commutes with the gates at all later places that aren't chosen
passed : (g : Gate) (whole : List Gate) (places : List ℕ) (i end : ℕ) →
    ((j : ℕ) → is_chosen places j ≡ false → i < j → j < end → Commutes g (gate_at whole j)) →
    (from : ℕ) (c : List Gate) → StandAt whole from c → i < from → from + length c ≤ end →
    AllByRecursion (Commutes g) (unchosen places from c)
passed g whole places i end free from [] at after inside = tt
passed g whole places i end free from (h ∷ c) at after inside =
    passed_more g h (unchosen places (from + 1) c) (is_chosen places from)
    (λ not_chosen. subst (Commutes g) (sym at.0) (free from not_chosen after (omega arith)))
    (passed g whole places i end free (from + 1) c at.1 (omega arith) (omega arith))

-- each chosen gate commutes with those that it passes
pub IsFreed-each : (whole : List Gate) (places : List ℕ) (end : ℕ) →
    ((i j : ℕ) → is_chosen places i ≡ true → is_chosen places j ≡ false → i < j → j < end → Commutes (gate_at whole i) (gate_at whole j)) →
    (from : ℕ) (c : List Gate) → StandAt whole from c → from + length c ≤ end → IsFreed places from c
IsFreed-each whole places end free from [] at inside = tt
IsFreed-each whole places end free from (g ∷ c) at inside = (
  λ is_chosen. subst (λ (h : Gate). AllByRecursion (Commutes h) (unchosen places (from + 1) c)) (sym at.0)
      (passed (gate_at whole from) whole places from end (λ j not_chosen after below. free from j is_chosen not_chosen after below)
      (from + 1) c at.1 (omega arith) (omega arith)),
  IsFreed-each whole places end free (from + 1) c at.1 (omega arith),
)

or_second : (x y : Bool) → y ≡ true → (x || y) ≡ true
or_second true y is = refl
or_second false y is = is

-- the last place is chosen
last_is_chosen : (p : ℕ) (places : List ℕ) → is_chosen (p ∷ places) (last_place (p ∷ places)) ≡ true
last_is_chosen p [] = ap (λ (b : Bool). b || false) (eq-eqb p p refl)
last_is_chosen p (q ∷ places) =
    or_second (eqb p (last_place (q ∷ places))) (is_chosen (q ∷ places) (last_place (q ∷ places))) (last_is_chosen q places)

-- so a gate that isn't chosen and stands no later stands before it
pub free_to_end : (whole : List Gate) (places : List ℕ) → AreFree whole places →
    (i j : ℕ) → is_chosen places i ≡ true → is_chosen places j ≡ false → i < j → j < last_place places + 1 →
    Commutes (gate_at whole i) (gate_at whole j)
free_to_end whole [] free i j is_in is_out after below = absurd (cc)
free_to_end whole (p ∷ places) free i j is_in is_out after below =
    let differ : j ≢ last_place (p ∷ places) =
    λ same. let found : is_chosen (p ∷ places) j ≡ true = ap (is_chosen (p ∷ places)) same ∙ last_is_chosen p places in cc in
    free i j is_in is_out after (omega arith)

not_equal : (a b : ℕ) → a ≢ b → eqb a b ≡ false
not_equal a b differ = grind (arith, nat_tests)

-- a place before all chosen ones isn't chosen
not_yet : (places : List ℕ) (from lo end : ℕ) → Rise lo places end → from < lo → is_chosen places from ≡ false
not_yet [] from lo end rise before = refl
not_yet (p ∷ places) from lo end rise before =
    ap (λ (b : Bool). b || is_chosen places from) (not_equal p from (omega arith)) ∙
    not_yet places from (p + 1) end rise.2 (omega arith)

-- a place that was passed plays no part
chosen_after : (p : ℕ) (places : List ℕ) (from : ℕ) (c : List Gate) → p < from → chosen (p ∷ places) from c ≡ chosen places from c
chosen_after p places from [] before = refl
chosen_after p places from (g ∷ c) before =
    let tail = chosen (p ∷ places) (from + 1) c in
    ap (λ (b : Bool). if b || is_chosen places from then g ∷ tail else tail) (not_equal p from (omega arith)) ∙
    ap (λ (t : List Gate). if is_chosen places from then g ∷ t else t) (chosen_after p places (from + 1) c (omega arith))

Rise-from : (places : List ℕ) (lo from end : ℕ) → from ≤ lo → Rise lo places end → Rise from places end
Rise-from [] lo from end before rise = tt
Rise-from (p ∷ places) lo from end before rise = (omega arith, rise.1, rise.2)

-- the chosen gates are those at the places
pub chosen_gates : (whole : List Gate) (places : List ℕ) (from end : ℕ) (c : List Gate) → StandAt whole from c →
    end ≡ from + length c → Rise from places end → chosen places from c ≡ map (gate_at whole) places
chosen_gates whole [] from end [] at ends rise = refl
chosen_gates whole (p ∷ places) from end [] at ends rise = absurd (omega arith)
chosen_gates whole [] from end (g ∷ c) at ends rise = chosen_gates whole [] (from + 1) end c at.1 (omega arith) tt
chosen_gates whole (p ∷ places) from end (g ∷ c) at ends rise =
    let tail : List Gate = chosen (p ∷ places) (from + 1) c in
    ⊎_elim
    (λ (here : p ≡ from).
    let front : g ≡ gate_at whole p = at.0 ∙ ap (gate_at whole) (sym here) in
    let rest : tail ≡ map (gate_at whole) places =
    chosen_after p places (from + 1) c (omega arith) ∙
    chosen_gates whole places (from + 1) end c at.1 (omega arith) (Rise-from places (p + 1) (from + 1) end (omega arith) rise.2) in
    ap (λ (b : Bool). if b || is_chosen places from then g ∷ tail else tail) (eq-eqb p from here) ∙ (λ i. front i ∷ rest i))
    (λ (differ : p ≢ from).
    let later : Rise (from + 1) (p ∷ places) end = (omega arith, rise.1, rise.2) in
    ap (λ (b : Bool). if b then g ∷ tail else tail) (not_yet (p ∷ places) from (from + 1) end later (omega arith)) ∙
    chosen_gates whole (p ∷ places) (from + 1) end c at.1 (omega arith) later)
    (cases_eq p from)

pub Rise-each : (places : List ℕ) (lo end : ℕ) → AllPairs (λ i j. i < j) places → All (λ i. i < end) places →
    ((k : ℕ) → k < length places → lo ≤ get_or places k 0) → Rise lo places end
Rise-each [] lo end rising inside above = tt
Rise-each (p ∷ places) lo end rising inside above = (
  above 0 (omega arith),
  inside 0 0 (omega arith),
  Rise-each places (p + 1) end
      (λ i j d before below. rising (suc i) (suc j) d (omega arith) (omega arith))
      (λ k d below. inside (suc k) d (omega arith))
      (λ k below. let more : p < get_or places k 0 = rising 0 (suc k) 0 (omega arith) (omega arith) in omega arith),
)

last_below : (p : ℕ) (places : List ℕ) (lo end : ℕ) → Rise lo (p ∷ places) end → last_place (p ∷ places) < end
last_below p [] lo end rise = rise.1
last_below p (q ∷ places) lo end rise = last_below q places (p + 1) end rise.2

Rise_to_last : (places : List ℕ) (lo end : ℕ) → Rise lo places end → Rise lo places (last_place places + 1)
Rise_to_last [] lo end rise = tt
Rise_to_last (p ∷ []) lo end rise = (rise.0, omega arith, tt)
Rise_to_last (p ∷ q ∷ places) lo end rise =
    let rest : Rise (p + 1) (q ∷ places) (last_place (q ∷ places) + 1) = Rise_to_last (q ∷ places) (p + 1) end rise.2 in
    (rise.0, omega arith, rest)

-- the places lie in the prefix up to the last of them
Rise-front : (whole : List Gate) (places : List ℕ) (lo : ℕ) → Rise lo places (length whole) →
    Rise lo places (length (take (last_place places + 1) whole))
Rise-front whole [] lo rise = tt
Rise-front whole (p ∷ places) lo rise =
    let count : ℕ = last_place (p ∷ places) + 1 in
    let ends : count ≡ length (take count whole) =
    omega (arith, length-take count whole, last_below p places lo (length whole) rise) in
    subst (Rise lo (p ∷ places)) ends (Rise_to_last (p ∷ places) lo (length whole) rise)

on_wires_at : (n : ℕ) (e : List ℕ) (p : List Gate) (k : ℕ) (d : Gate) → IsCircuit n (map (renamed e) p) → k < length p →
    IsOnWires n (renamed e (get_or p k d))
on_wires_at n e [] k d all below = absurd (omega arith)
on_wires_at n e (g ∷ p) zero d all below = all.0
on_wires_at n e (g ∷ p) (suc k) d all below = on_wires_at n e p k d all.1 (omega arith)

-- The wires of a pattern that uses all of its wires are renamed to wires below n, where the renamed pattern is on n wires.
pub IsRenaming-used : (m n : ℕ) (e : List ℕ) (p : List Gate) → AreWires m e → ((w : ℕ) → w < m → Uses p w) →
    IsCircuit n (map (renamed e) p) → IsRenaming m n e
IsRenaming-used m n e p wires used all = record {
  whole = wires.whole;
  inside = λ w below.
      let found = used w below in
      let on : IsOnWires n (renamed e found.1) =
      subst (λ (g : Gate). IsOnWires n (renamed e g)) found.3 (on_wires_at n e p found.0 found.1 all found.2) in
      touched_inside n e found.1 w found.4 on;
  apart = λ v w v_below w_below same.
      let up : ¬ (v < w) = λ less. wires.apart v w 0 less (omega (arith, wires.whole)) same in
      let down : ¬ (w < v) = λ less. wires.apart w v 0 less (omega (arith, wires.whole)) (sym same) in
      omega arith;
}

-- a part that was gathered behind the prefix may be replaced
replaced : (n k : ℕ) (front back u p q : List Gate) → Same n front (u ++ p) 0 → IsCircuit n back → Same n p q k → k ≤ 7 →
    Same n (front ++ back) (u ++ (q ++ back)) k
replaced n k front back u p q gathers behind same few =
    let first : Same n (front ++ back) (u ++ (p ++ back)) 0 =
    subst (λ (d : List Gate). Same n (front ++ back) d 0) (append_assoc u p back) (same_in_front n 0 back front (u ++ p) behind gathers) in
    let second : Same n (u ++ (p ++ back)) (u ++ (q ++ back)) k =
    same_congruent n k u back p q (IsCircuit-front n u p gathers.right) behind same in
    subst (λ (j : ℕ). Same n (front ++ back) (u ++ (q ++ back)) j) (let turn : (0 + k) % 8 ≡ k = omega arith in turn)
    (same_transitive n 0 k (front ++ back) (u ++ (p ++ back)) (u ++ (q ++ back)) first second)

-- the chosen gates of the prefix are the pattern's
chosen_pattern : (gates pattern : List Gate) (wires places : List ℕ) → IsMatch gates pattern wires places →
    chosen places 0 (take (last_place places + 1) gates) ≡ map (renamed wires) pattern
chosen_pattern gates pattern wires places matches =
    let count : ℕ = last_place places + 1 in
    let front : List Gate = take count gates in
    let rise : Rise 0 places (length gates) =
    Rise-each places 0 (length gates) matches.rising matches.inside (λ k below. omega arith) in
    chosen_gates gates places 0 (length front) front (StandAt-front gates count) (omega arith) (Rise-front gates places 0 rise) ∙ matches.chosen

-- the prefix of the list, with the pattern's gates gathered at its end
gathered_pattern : (gates pattern : List Gate) (wires places : List ℕ) (n : ℕ) →
    IsMatch gates pattern wires places → AreFree gates places → IsCircuit n (take (last_place places + 1) gates) →
    Same n (take (last_place places + 1) gates)
    (unchosen places 0 (take (last_place places + 1) gates) ++ map (renamed wires) pattern) 0
gathered_pattern gates pattern wires places n matches free circuit =
    let count : ℕ = last_place places + 1 in
    let front : List Gate = take count gates in
    subst (λ (v : List Gate). Same n front (unchosen places 0 front ++ v) 0) (chosen_pattern gates pattern wires places matches)
    (gathered n places 0 front circuit
    (IsFreed-each gates places count (free_to_end gates places free) 0 front (StandAt-front gates count)
    (omega (arith, length-take count gates))))

-- Rewriting a redex of a sound row turns the matrix back by the row's phase: the chosen gates may move to the last
-- chosen place, and there the renamed pattern may be replaced.
pub rewriting_keeps : (rules : List RowView) (gates : List Gate) (redex : RedexView) (is : IsRedex rules gates redex) (n : ℕ) →
    IsSound is.row → IsCircuit n gates → Same n gates (rewritten gates is.row.replacement redex) is.row.phase
rewriting_keeps rules gates redex is n sound circuit =
    let count : ℕ = last_place redex.places + 1 in
    let front : List Gate = take count gates in
    let back : List Gate = drop count gates in
    let whole : front ++ back ≡ gates = take-append-drop count gates in
    let parts : IsCircuit n (front ++ back) = subst (IsCircuit n) (sym whole) circuit in
    let u : List Gate = unchosen redex.places 0 front in
    let p : List Gate = map (renamed redex.wires) is.row.pattern in
    let q : List Gate = map (renamed redex.wires) is.row.replacement in
    let gathers : Same n front (u ++ p) 0 =
    gathered_pattern gates is.row.pattern redex.wires redex.places n is.matches is.free (IsCircuit-front n front back parts) in
    let renames : IsRenaming is.row.wires n redex.wires =
    IsRenaming-used is.row.wires n redex.wires is.row.pattern is.wires sound.wires.used (IsCircuit-back n u p gathers.right) in
    let same : Same n p q is.row.phase =
    same_renamed is.row.wires n is.row.phase redex.wires is.row.pattern is.row.replacement renames sound.same in
    subst (λ (c : List Gate). Same n c (u ++ (q ++ back)) is.row.phase) whole
    (replaced n is.row.phase front back u p q gathers (IsCircuit-back n front back parts) same sound.turn)

length_more : (g : Gate) (c u v : List Gate) (b : Bool) → length u + length v ≡ length c →
    length (if b then u else g ∷ u) + length (if b then g ∷ v else v) ≡ length (g ∷ c)
length_more g c u v true is = omega arith
length_more g c u v false is = omega arith

-- each gate is chosen or isn't
length-unchosen : (places : List ℕ) (from : ℕ) (c : List Gate) → length (unchosen places from c) + length (chosen places from c) ≡ length c
length-unchosen places from [] = refl
length-unchosen places from (g ∷ c) =
    length_more g c (unchosen places (from + 1) c) (chosen places (from + 1) c) (is_chosen places from) (length-unchosen places (from + 1) c)

-- Rewriting a redex of a sound row shortens the list.
pub rewriting_shortens : (rules : List RowView) (gates : List Gate) (redex : RedexView) (is : IsRedex rules gates redex) →
    IsSound is.row → length (rewritten gates is.row.replacement redex) < length gates
rewriting_shortens rules gates redex is sound =
    let count : ℕ = last_place redex.places + 1 in
    let front : List Gate = take count gates in
    let back : List Gate = drop count gates in
    let u : List Gate = unchosen redex.places 0 front in
    let q : List Gate = map (renamed redex.wires) is.row.replacement in
    let whole : length front + length back ≡ length gates =
    sym (length-append front back) ∙ ap (λ (c : List Gate). length c) (take-append-drop count gates) in
    let parts : length u + length (chosen redex.places 0 front) ≡ length front = length-unchosen redex.places 0 front in
    let are : length (chosen redex.places 0 front) ≡ length is.row.pattern =
    ap (λ (c : List Gate). length c) (chosen_pattern gates is.row.pattern redex.wires redex.places is.matches) ∙
    length-map is.row.pattern (renamed redex.wires) in
    omega (arith, length-append u (q ++ back), length-append q back, length-map is.row.replacement (renamed redex.wires), sound.shortens.shorter)
