-- Where the wires of a row are led to, read off the gates that match its pattern.
use Rattle.std.proofs.Common.{◌≡◌, ℕ, ◌+◌, ◌<◌, List, [], ◌∷◌, length, map, get_or, sym, refl, ap, ◌∙◌, subst, inl, inr, arith}
use Rattle.std.proofs.lemmas.Bool.{cases_lt}
use Rattle.std.proofs.lemmas.List.{length-map, get_or-map, get_or_default}
use Rattle.pq_gate.specs.Circuit.{IsOnWires, IsCircuit}
use Rattle.pq_gate.specs.Commuting.{Touches}
use Rattle.pq_gate.specs.declared.gate.Gate.{Gate}
use Rattle.pq_gate.specs.Kind.{kind_of, gate_on}
use Rattle.pq_gate.specs.Ports.{first_wire, last_wire}
use Rattle.pq_gate.proofs.WireLaws.{touches_first, touches_last}
use Rattle.pq_rules.specs.Renaming.{renamed}
use Rattle.pq_rules.specs.Row.{Uses}
use Rattle.pq_match.specs.Redex.{gate_at}
use Rattle.pq_match.proofs.RenamedWires.{touched_below_count}

-- two renamings that agree on the wires of a gate rename it alike
renamed_same : (n : ℕ) (xs ys : List ℕ) (gate : Gate) → IsOnWires n gate → ((w : ℕ) → w < n → get_or xs w 0 ≡ get_or ys w 0)
    → renamed xs gate ≡ renamed ys gate
renamed_same n xs ys gate is alike =
    let first = alike (first_wire gate) (touched_below_count n gate (first_wire gate) is (touches_first gate)) in
    let last = alike (last_wire gate) (touched_below_count n gate (last_wire gate) is (touches_last gate)) in
    λ i. gate_on (kind_of gate) (first i) (last i)

-- two renamings that agree on the wires of a circuit rename it alike
pub all_renamed_same : (n : ℕ) (xs ys : List ℕ) (gates : List Gate) → IsCircuit n gates
    → ((w : ℕ) → w < n → get_or xs w 0 ≡ get_or ys w 0) → map (renamed xs) gates ≡ map (renamed ys) gates
all_renamed_same n xs ys [] is alike = refl
all_renamed_same n xs ys (gate ∷ gates) is alike =
    let first : renamed xs gate ≡ renamed ys gate = renamed_same n xs ys gate is.0 alike in
    let rest : map (renamed xs) gates ≡ map (renamed ys) gates = all_renamed_same n xs ys gates is.1 alike in
    cc

-- where the chosen gates are the pattern's, renamed, there is a place for each gate of the pattern
pub places_long : (gates pattern : List Gate) (wires places : List ℕ) → map (gate_at gates) places ≡ map (renamed wires) pattern
    → length places ≡ length pattern
places_long gates pattern wires places same =
    sym (length-map places (gate_at gates)) ∙ ap length same ∙ length-map pattern (renamed wires)

-- the gate at each place is the pattern's, renamed
pub chosen_at : (gates pattern : List Gate) (wires places : List ℕ) → map (gate_at gates) places ≡ map (renamed wires) pattern
    → (k : ℕ) (d : Gate) → k < length pattern → gate_at gates (get_or places k 0) ≡ renamed wires (get_or pattern k d)
chosen_at gates pattern wires places same k d inside =
    sym (get_or-map (gate_at gates) places k 0 d (omega (arith, places_long gates pattern wires places same)))
    ∙ ap (λ (xs : List Gate). get_or xs k d) same ∙ get_or-map (renamed wires) pattern k d d inside

-- the wires of the first `count` gates of the pattern are read right
abbrev pub AreRead : List Gate → ℕ → List ℕ → List ℕ → Type 0
AreRead pattern count read wires = (k : ℕ) (d : Gate) (w : ℕ) → k < count → Touches (get_or pattern k d) w → get_or read w 0 ≡ get_or wires w 0

pub uses_read : (pattern : List Gate) (read wires : List ℕ) → AreRead pattern (length pattern) read wires
    → (w : ℕ) → Uses pattern w → get_or read w 0 ≡ get_or wires w 0
uses_read pattern read wires are w used =
    let P : Gate → Type 0 = λ gate. Touches gate w in
    are used.0 used.1 w used.2 (subst P (sym used.3) used.4)

-- one more gate's wires
pub read_more : (pattern : List Gate) (count : ℕ) (old new wires : List ℕ) (e : Gate) → count < length pattern → AreRead pattern count old wires
    → ((w : ℕ) → Touches (get_or pattern count e) w → get_or new w 0 ≡ get_or wires w 0)
    → ((w : ℕ) → get_or old w 0 ≡ get_or wires w 0 → get_or new w 0 ≡ get_or wires w 0)
    → AreRead pattern (count + 1) new wires
read_more pattern count old new wires e inside are touched others k d w below touches =
    elim (cases_lt k count) [
      | inl before ↦ others w (are k d w before touches)
      | inr from ↦
          (let here : k ≡ count = omega arith in
          let same : get_or pattern k d ≡ get_or pattern count e = ap (λ n. get_or pattern n d) here ∙ get_or_default pattern count d e inside in
          let P : Gate → Type 0 = λ gate. Touches gate w in
          touched w (subst P same touches))
    ]
