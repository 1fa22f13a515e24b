-- The line of a gate is read as this gate.
use Rattle.std.proofs.Common.{◌≡◌, ◌≢◌, ℕ, suc, ◌+◌, ◌<◌, ◌≤◌, Bool, true, false, not, ◌&&◌, eqb, eqb-true, ltb-true, cond, nat_lt, List, [], ◌∷◌, ◌++◌, length, map, All, AllPairs, Result, Ok, Err, refl, ap, sym, subst, ◌∙◌, arith}
use Rattle.pq_lex.specs.declared.token.Form.TheVariants.{Word}
use Rattle.pq_lex.specs.Token.{TokenView}
use Rattle.pq_gate.specs.declared.gate.Gate.{Gate}
use Rattle.pq_gate.specs.declared.ports.Ports.{Ports}
use Rattle.pq_gate.specs.declared.ports.Ports.TheVariants.{One, Two}
use Rattle.pq_gate.specs.Circuit.{AreOn, IsOnWires}
use Rattle.pq_gate.specs.Ports.{ports_of, listed_ports, wires_of, first_of, last_of, first_wire, last_wire}
use Rattle.pq_gate.proofs.GateFacts.{gate_facts}
use Rattle.pq_text.specs.Program.{RegisterView, TailView, places_of}
use Rattle.pq_text.specs.Print.{gate_word}
use Rattle.pq_text.specs.WellFormed.{IsRegister}
use Rattle.pq_read.specs.declared.refusal.Kind.TheVariants.{BarrierInside}
use Rattle.pq_read.specs.declared.refusal.Refusal.{Refusal}
use Rattle.pq_read.specs.declared.program.Options.{Options}
use Rattle.pq_read.specs.declared.word.GateWord.{GateWord}
use Rattle.pq_read.specs.declared.word.FirstWord.{FirstWord}
use Rattle.pq_read.specs.declared.word.FirstWord.TheVariants.{Gate as KnownGate}
use Rattle.pq_read.specs.Faults.{◌>>=◌, refused}
use Rattle.pq_read.specs.Words.{more_arguments, first_word}
use Rattle.pq_read.specs.Environment.{Env}
use Rattle.pq_read.specs.Arguments.{arguments_after, arguments_at}
use Rattle.pq_read.specs.Expansion.{expansion, gates_of}
use Rattle.pq_read.specs.After.{header_at, allowed, gate_at, put, statement_by, statement_at, piece_at, with_gates, after}
use Rattle.pq_write.proofs.Shapes.{Shape, shape, shape_of, comma, semicolon, indexed_shapes, place_shapes, statement_shapes, gate_shapes}
use Rattle.pq_write.proofs.WordFacts.{word_facts}
use Rattle.pq_write.proofs.Arguments.{token_at, placed, nth, is_placed, untrue, from_fifth, IsPlace, place_from, argument_of, place_read}

-- the tokens after the first word
abbrev pub one_place : {regs : List RegisterView} {w : ℕ} → IsPlace 0 regs w → List Shape
one_place p = indexed_shapes p.name p.index ++ semicolon ∷ []

abbrev pub two_places : {regs : List RegisterView} {v w : ℕ} → IsPlace 0 regs v → IsPlace 0 regs w → List Shape
two_places p q = (indexed_shapes p.name p.index ++ (comma ∷ indexed_shapes q.name q.index)) ++ semicolon ∷ []

-- what has been read after a statement
abbrev done : (Env × List TokenView) → Result Env Refusal
done x = Ok x.0

and_false : (b : Bool) → (b && false) ≡ false
and_false true = refl
and_false false = refl

gate_allowed : (options : Options) (tail : List TailView) (t : TokenView) → tail ≡ [] → allowed options tail t ≡ Ok tt
gate_allowed options tail t none =
    ap (λ l. allowed options l t) none
    ∙ ap (λ b. let r : Result (Unit {0}) Refusal = cond b (Err (refused BarrierInside t)) (Ok tt) in r) (and_false (not options.drop_barriers))

-- the arguments of a gate on one wire
one_read : (word : GateWord) (regs : List RegisterView) (old new : List Gate) (w : ℕ) (p : IsPlace 0 regs w) (spots : ℕ → TokenView)
    → more_arguments word ≡ 0 → gates_of word (argument_of p (spots 0) ∷ []) ≡ new → nat_lt 1048576 (length old + length new) ≡ false
    → gate_at word regs old (placed (one_place p) spots) ≡ Ok (old ++ new, [])
unfolding gate_at arguments_at arguments_after
one_read word regs old new w p spots none made room = rw (place_read regs w p spots (token_at semicolon (spots 4) ∷ []), none, made, room) refl

-- the arguments of a gate on two wires
two_read : (word : GateWord) (regs : List RegisterView) (old new : List Gate) (v w : ℕ) (p : IsPlace 0 regs v) (q : IsPlace 0 regs w) (spots : ℕ → TokenView)
    → more_arguments word ≡ 1 → eqb (q.span.first + q.index) (p.span.first + p.index) ≡ false
    → gates_of word (argument_of p (spots 0) ∷ argument_of q (spots 5) ∷ []) ≡ new → nat_lt 1048576 (length old + length new) ≡ false
    → gate_at word regs old (placed (two_places p q) spots) ≡ Ok (old ++ new, [])
unfolding gate_at arguments_at arguments_after
two_read word regs old new v w p q spots one apart made room =
    rw (
      place_read regs v p spots (token_at comma (spots 4) ∷ placed (one_place q) (from_fifth spots)),
      one,
      place_read regs w q (from_fifth spots) (token_at semicolon (spots 9) ∷ []),
      apart,
      made,
      room,
    ) refl

-- a statement whose first word is this one
pub statement_read : (options : Options) (E : Env) (word : List ℕ) (known : FirstWord) (t : TokenView) (ts : List TokenView) (F : Env)
    → E.header ≡ true → E.included ≡ true → first_word true word ≡ known
    → statement_by known options E (token_at (shape Word word) t) ts ≡ Ok (F, []) → after options E (token_at (shape Word word) t ∷ ts) ≡ Ok F
unfolding piece_at statement_at
statement_read options E word known t ts F header included first read =
    let first_token : TokenView = token_at (shape Word word) t in
    ap (λ b. cond b (statement_at options E (first_token ∷ ts)) (put (header_at (first_token ∷ ts)) (λ _. record { header = true; included = E.included; program = E.program })) >>= done) header
    ∙ (ap (λ b. statement_by (first_word b word) options E first_token ts >>= done) included
    ∙ (ap (λ f. statement_by f options E first_token ts >>= done) first
    ∙ ap (λ r. r >>= done) read))

-- a statement of a gate by its word
gate_read : (options : Options) (E : Env) (word : List ℕ) (known : GateWord) (t : TokenView) (ts : List TokenView) (gates : List Gate)
    → E.header ≡ true → E.included ≡ true → E.program.tail ≡ [] → first_word true word ≡ KnownGate known
    → gate_at known E.program.qregs E.program.gates ts ≡ Ok (gates, []) → after options E (token_at (shape Word word) t ∷ ts) ≡ Ok (with_gates E gates)
gate_read options E word known t ts gates header included none first read =
    statement_read options E word (KnownGate known) t ts (with_gates E gates) header included first
    (rw (gate_allowed options E.program.tail (token_at (shape Word word) t) none, read) refl)

one_more : (old : List Gate) → length old < 1048576 → nat_lt 1048576 (length old + 1) ≡ false
one_more old few = untrue (nat_lt 1048576 (length old + 1)) (λ yes. omega (arith, ltb-true 1048576 (length old + 1) yes))

-- the gate that the arguments make
one_made : (g : Gate) {regs : List RegisterView} {w : ℕ} (p : IsPlace 0 regs w) (t : TokenView) → wires_of g ≡ w ∷ []
    → more_arguments (word_facts g).known ≡ 0 → gates_of (word_facts g).known (argument_of p t ∷ []) ≡ g ∷ []
unfolding gates_of
one_made g {regs} {w} p t wires none =
    let first : first_wire g ≡ w = ap first_of wires in
    let there : p.span.first + p.index ≡ first_wire g = omega (arith, p.reached, first) in
    ap (λ k. expansion (word_facts g).known k 0 0) there ∙ (word_facts g).made 0 0 (λ one. absurd (omega (arith, none, one)))

two_made : (g : Gate) {regs : List RegisterView} {v w : ℕ} (p : IsPlace 0 regs v) (q : IsPlace 0 regs w) (s t : TokenView) → wires_of g ≡ v ∷ w ∷ []
    → gates_of (word_facts g).known (argument_of p s ∷ argument_of q t ∷ []) ≡ g ∷ []
unfolding gates_of
two_made g {regs} {v} {w} p q s t wires =
    let first : first_wire g ≡ v = ap first_of wires in
    let last : last_wire g ≡ w = ap last_of wires in
    let here : p.span.first + p.index ≡ first_wire g = omega (arith, p.reached, first) in
    let there : q.span.first + q.index ≡ last_wire g = omega (arith, q.reached, last) in
    (λ i. expansion (word_facts g).known (here i) (there i) 0) ∙ (word_facts g).made (last_wire g) 0 (λ one. refl)

module _ (options : Options) (E : Env) (g : Gate) (front : List TokenView) (header : E.header ≡ true) (included : E.included ≡ true)
    (none : E.program.tail ≡ []) (few : length E.program.gates < 1048576) (shaped : map shape_of front ≡ gate_shapes E.program.qregs g) where
  -- a gate on one wire
  one_wire : (w : ℕ) → IsPlace 0 E.program.qregs w → wires_of g ≡ w ∷ [] → after options E front ≡ Ok (with_gates E (E.program.gates ++ g ∷ []))
  one_wire w p wires =
      let facts = word_facts g in
      let spots = λ (k : ℕ). nth front (suc k) in
      let no_more : more_arguments facts.known ≡ 0 = omega (arith, facts.more, ap length wires) in
      let shapes : gate_shapes E.program.qregs g ≡ shape Word (gate_word g) ∷ one_place p =
      ap (λ ws. statement_shapes (gate_word g) (map (place_shapes E.program.qregs) ws)) wires
      ∙ ap (λ ss. shape Word (gate_word g) ∷ ss ++ semicolon ∷ []) p.written in
      ap (after options E) (is_placed (shape Word (gate_word g) ∷ one_place p) front (shaped ∙ shapes))
      ∙ gate_read options E (gate_word g) facts.known (nth front 0) (placed (one_place p) spots) (E.program.gates ++ g ∷ []) header included none facts.named
      (one_read facts.known E.program.qregs E.program.gates (g ∷ []) w p spots no_more (one_made g p (spots 0) wires no_more) (one_more E.program.gates few))

  -- a gate on two wires
  two_wires : (v w : ℕ) → IsPlace 0 E.program.qregs v → IsPlace 0 E.program.qregs w → wires_of g ≡ v ∷ w ∷ [] → v ≢ w
      → after options E front ≡ Ok (with_gates E (E.program.gates ++ g ∷ []))
  two_wires v w p q wires unlike =
      let facts = word_facts g in
      let spots = λ (k : ℕ). nth front (suc k) in
      let one_more_argument : more_arguments facts.known ≡ 1 = omega (arith, facts.more, ap length wires) in
      let apart : eqb (q.span.first + q.index) (p.span.first + p.index) ≡ false =
      untrue (eqb (q.span.first + q.index) (p.span.first + p.index)) (λ yes. unlike (let same : q.span.first + q.index ≡ p.span.first + p.index = eqb-true _ _ yes in omega (arith, p.reached, q.reached))) in
      let shapes : gate_shapes E.program.qregs g ≡ shape Word (gate_word g) ∷ two_places p q =
      ap (λ ws. statement_shapes (gate_word g) (map (place_shapes E.program.qregs) ws)) wires
      ∙ (λ i. shape Word (gate_word g) ∷ (p.written i ++ (comma ∷ q.written i)) ++ semicolon ∷ []) in
      ap (after options E) (is_placed (shape Word (gate_word g) ∷ two_places p q) front (shaped ∙ shapes))
      ∙ gate_read options E (gate_word g) facts.known (nth front 0) (placed (two_places p q) spots) (E.program.gates ++ g ∷ []) header included none facts.named
      (two_read facts.known E.program.qregs E.program.gates (g ∷ []) v w p q spots one_more_argument apart (two_made g p q (spots 0) (spots 5) wires) (one_more E.program.gates few))

-- After the line of a gate on the wires the gate is the last one.
pub after_gate : (options : Options) (E : Env) (g : Gate) (front : List TokenView) → E.header ≡ true → E.included ≡ true → E.program.tail ≡ []
    → All IsRegister E.program.qregs → AllPairs (λ q r. q.name ≢ r.name) E.program.qregs → places_of E.program.qregs ≤ 4096
    → IsOnWires (places_of E.program.qregs) g → length E.program.gates < 1048576 → map shape_of front ≡ gate_shapes E.program.qregs g
    → after options E front ≡ Ok (with_gates E (E.program.gates ++ g ∷ []))
after_gate options E g front header included none each apart few_places on few shaped = by (gate_facts g).ports (gate_facts g).listed
  where
    by : (ports : Ports) → listed_ports ports ≡ ports_of g → after options E front ≡ Ok (with_gates E (E.program.gates ++ g ∷ []))
    by (One only) listed =
        let wires : wires_of g ≡ only.wire ∷ [] = sym (ap (map (λ p. p.wire)) listed) in
        let inside : AreOn (places_of E.program.qregs) (only.wire ∷ []) = subst (AreOn (places_of E.program.qregs)) wires on in
        one_wire options E g front header included none few shaped only.wire (place_from 0 E.program.qregs only.wire each apart few_places inside) wires
    by (Two first last) listed =
        let wires : wires_of g ≡ first.wire ∷ last.wire ∷ [] = sym (ap (map (λ p. p.wire)) listed) in
        let inside : AreOn (places_of E.program.qregs) (first.wire ∷ last.wire ∷ []) = subst (AreOn (places_of E.program.qregs)) wires on in
        two_wires options E g front header included none few shaped first.wire last.wire (place_from 0 E.program.qregs first.wire each apart few_places inside.0)
        (place_from 0 E.program.qregs last.wire each apart few_places inside.1) wires inside.2
