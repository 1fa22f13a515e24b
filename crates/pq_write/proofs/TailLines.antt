-- The line of an entry of the tail is read as this entry.
use Rattle.std.proofs.Common.{◌≡◌, ◌≢◌, ℕ, suc, ◌+◌, ◌<◌, ◌≤◌, true, false, ◌||◌, eqb, eqb-true, ltb-true, cond, nat_lt, List, [], ◌∷◌, ◌++◌, length, map, All, AllPairs, append_assoc, codes, Ok, refl, sym, ap, subst, ◌∙◌, arith}
use Rattle.std.specs.List.{list_any}
use Rattle.std.proofs.lemmas.List.Elements.{All-head, All-tail}
use Rattle.pq_lex.specs.declared.token.Form.TheVariants.{Word}
use Rattle.pq_lex.specs.Token.{TokenView}
use Rattle.pq_text.specs.Program.{RegisterView, TailView, Barrier, Measure, places_of, entries_of}
use Rattle.pq_text.specs.WellFormed.{IsRegister, IsTailEntry}
use Rattle.pq_read.specs.declared.program.Options.{Options}
use Rattle.pq_read.specs.declared.word.FirstWord.TheVariants as firsts
use Rattle.pq_read.specs.Faults.{Reading}
use Rattle.pq_read.specs.Environment.{Env}
use Rattle.pq_read.specs.After.{adjoined, adjoined_below, barrier_wires, barrier_at, measure_at, put, with_tail, after}
use Rattle.pq_read.proofs.Counts.{entries_of-append}
use Rattle.pq_read.proofs.Barriers.{barrier_more, barrier_done}
use Rattle.pq_write.proofs.Shapes.{Shape, shape, shape_of, comma, semicolon, arrow, indexed_shapes, place_shapes, joined_shapes, tail_shapes}
use Rattle.pq_write.proofs.GateLines.{statement_read}
use Rattle.pq_write.proofs.Arguments.{token_at, placed, nth, is_placed, untrue, from_fifth, IsPlace, place_from, argument_of, place_read}

-- Each wire differs from those before it.
abbrev Differ : List ℕ → List ℕ → Type 0
Differ before [] = Unit {0}
Differ before (w ∷ ws) = (list_any (λ v. eqb v w) before ≡ false) × Differ (before ++ w ∷ []) ws

all_middle : (P : ℕ → Type 0) (xs : List ℕ) (y : ℕ) (ys : List ℕ) → All P (xs ++ y ∷ ys) → P y
all_middle P [] y ys all = All-head P y ys all
all_middle P (x ∷ xs) y ys all = all_middle P xs y ys (All-tail P x (xs ++ y ∷ ys) all)

none_before : (before : List ℕ) (w : ℕ) (ws : List ℕ) → AllPairs (λ u v. u ≢ v) (before ++ w ∷ ws) → list_any (λ v. eqb v w) before ≡ false
none_before [] w ws apart = refl
none_before (b ∷ bs) w ws apart =
    let later : All (λ v. b ≢ v) (bs ++ w ∷ ws) = λ k d in'. apart 0 (suc k) d (omega arith) (omega arith) in
    let first : eqb b w ≡ false = untrue (eqb b w) (λ yes. all_middle (λ v. b ≢ v) bs w ws later (eqb-true b w yes)) in
    let more : list_any (λ v. eqb v w) bs ≡ false = none_before bs w ws (λ i j d less in'. apart (suc i) (suc j) d (omega arith) (omega arith)) in
    λ i. first i || more i

differ_from : (before ws : List ℕ) → AllPairs (λ u v. u ≢ v) (before ++ ws) → Differ before ws
differ_from before [] apart = tt
differ_from before (w ∷ ws) apart =
    (none_before before w ws apart, differ_from (before ++ w ∷ []) ws (subst (AllPairs (λ u v. u ≢ v)) (sym (append_assoc before (w ∷ []) ws)) apart))

adjoined_new : (before : List ℕ) (w v : ℕ) → v ≡ w → list_any (λ u. eqb u w) before ≡ false → adjoined before v ≡ before ++ w ∷ []
adjoined_new before w v same new = ap (adjoined before) same ∙ ap (λ b. cond b before (before ++ w ∷ [])) new

-- the wire of an argument joins those before it
joins : (regs : List RegisterView) (before : List ℕ) (w : ℕ) (p : IsPlace 0 regs w) → list_any (λ u. eqb u w) before ≡ false
    → adjoined_below before (p.span.first + p.index) 1 ≡ before ++ w ∷ []
joins regs before w p new = adjoined_new before w (p.span.first + p.index + 0) (omega (arith, p.reached)) new

-- what is read of the wires of a barrier and of the `;` after them
record ReadsWires (reading : Reading (List ℕ)) (wires : List ℕ) : Type 0 where
  spot : TokenView
  is : reading ≡ Ok (wires, token_at semicolon spot ∷ [])

abbrev barrier_shapes : List RegisterView → List ℕ → List Shape
barrier_shapes regs wires = joined_shapes (map (place_shapes regs) wires) ++ semicolon ∷ []

last_wire : (regs : List RegisterView) (before : List ℕ) (w : ℕ) (p : IsPlace 0 regs w) (spots : ℕ → TokenView) → list_any (λ u. eqb u w) before ≡ false
    → ReadsWires (barrier_wires regs before 0 (placed (indexed_shapes p.name p.index ++ semicolon ∷ []) spots)) (before ++ w ∷ [])
last_wire regs before w p spots new =
    let last : List TokenView = token_at semicolon (spots 4) ∷ [] in
    record {
      spot = spots 4;
      is = barrier_done regs before (placed (indexed_shapes p.name p.index) spots ++ last) (argument_of p (spots 0), last) (place_read regs w p spots last) refl
          ∙ ap (λ ws. let r : Reading (List ℕ) = Ok (ws, last) in r) (joins regs before w p new);
    }

one_more_wire : (regs : List RegisterView) (before : List ℕ) (w : ℕ) (p : IsPlace 0 regs w) (spots : ℕ → TokenView) (rest : List Shape) (wires : List ℕ)
    → list_any (λ u. eqb u w) before ≡ false → ReadsWires (barrier_wires regs (before ++ w ∷ []) 0 (placed rest (from_fifth spots))) wires
    → ReadsWires (barrier_wires regs before 0 (placed (indexed_shapes p.name p.index ++ (comma ∷ rest)) spots)) wires
one_more_wire regs before w p spots rest wires new later =
    let more : List TokenView = placed rest (from_fifth spots) in
    let step = barrier_more regs before (placed (indexed_shapes p.name p.index) spots ++ (token_at comma (spots 4) ∷ more))
    (argument_of p (spots 0), token_at comma (spots 4) ∷ more) (token_at comma (spots 4), more) (place_read regs w p spots (token_at comma (spots 4) ∷ more)) refl refl in
    record { spot = later.spot; is = step.0 ∙ (ap (λ ws. barrier_wires regs ws 0 more) (joins regs before w p new) ∙ later.is) }

wires_read : (regs : List RegisterView) (places : (w : ℕ) → w < places_of regs → IsPlace 0 regs w) (w : ℕ) (ws before : List ℕ) (spots : ℕ → TokenView)
    → All (λ v. v < places_of regs) (w ∷ ws) → Differ before (w ∷ ws)
    → ReadsWires (barrier_wires regs before 0 (placed (barrier_shapes regs (w ∷ ws)) spots)) (before ++ w ∷ ws)
wires_read regs places w [] before spots on differ =
    let p = places w (All-head (λ v. v < places_of regs) w [] on) in
    subst (λ (ss : List Shape). ReadsWires (barrier_wires regs before 0 (placed (ss ++ semicolon ∷ []) spots)) (before ++ w ∷ [])) (sym p.written)
    (last_wire regs before w p spots differ.0)
wires_read regs places w (v ∷ ws) before spots on differ =
    let p = places w (All-head (λ u. u < places_of regs) w (v ∷ ws) on) in
    let later : ReadsWires (barrier_wires regs (before ++ w ∷ []) 0 (placed (barrier_shapes regs (v ∷ ws)) (from_fifth spots))) ((before ++ w ∷ []) ++ v ∷ ws) =
    wires_read regs places v ws (before ++ w ∷ []) (from_fifth spots) (All-tail (λ u. u < places_of regs) w (v ∷ ws) on) differ.1 in
    subst (λ (ss : List Shape). ReadsWires (barrier_wires regs before 0 (placed ((ss ++ (comma ∷ joined_shapes (map (place_shapes regs) (v ∷ ws)))) ++ semicolon ∷ []) spots)) (before ++ w ∷ v ∷ ws)) (sym p.written)
    (one_more_wire regs before w p spots (barrier_shapes regs (v ∷ ws)) (before ++ w ∷ v ∷ ws) differ.0 (rw append_assoc at later))

-- what follows the word of a barrier
barrier_read : (regs : List RegisterView) (tail : List TailView) (wires : List ℕ) (ts : List TokenView) → ReadsWires (barrier_wires regs [] 0 ts) wires
    → nat_lt 1048576 (entries_of tail + length wires) ≡ false → barrier_at regs tail ts ≡ Ok (tail ++ Barrier wires ∷ [], [])
unfolding barrier_at
barrier_read regs tail wires ts read room = rw (read.is, room) refl

-- what follows the word of a measurement
abbrev measure_shapes : {qregs cregs : List RegisterView} {wire bit : ℕ} → IsPlace 0 qregs wire → IsPlace 0 cregs bit → List Shape
measure_shapes p q = indexed_shapes p.name p.index ++ (arrow ∷ (indexed_shapes q.name q.index ++ semicolon ∷ []))

measure_read : (qregs cregs : List RegisterView) (tail : List TailView) (wire bit : ℕ) (p : IsPlace 0 qregs wire) (q : IsPlace 0 cregs bit) (spots : ℕ → TokenView)
    → nat_lt 1048576 (entries_of tail + 1) ≡ false
    → measure_at qregs cregs tail (placed (measure_shapes p q) spots) ≡ Ok (tail ++ Measure (p.span.first + p.index + 0) (q.span.first + q.index + 0) ∷ [], [])
unfolding measure_at
measure_read qregs cregs tail wire bit p q spots room =
    rw (
      place_read qregs wire p spots (token_at arrow (spots 4) ∷ placed (indexed_shapes q.name q.index ++ semicolon ∷ []) (from_fifth spots)),
      place_read cregs bit q (from_fifth spots) (token_at semicolon (spots 9) ∷ []),
      room,
    ) refl

room_left : (tail : List TailView) (t : TailView) (more : ℕ) → entries_of (t ∷ []) ≡ more → entries_of (tail ++ t ∷ []) ≤ 1048576 → nat_lt 1048576 (entries_of tail + more) ≡ false
room_left tail t more counted few =
    untrue (nat_lt 1048576 (entries_of tail + more)) (λ yes. omega (arith, ltb-true 1048576 (entries_of tail + more) yes, entries_of-append tail (t ∷ [])))

barrier_line : (options : Options) (E : Env) (wires : List ℕ) (front : List TokenView) → E.header ≡ true → E.included ≡ true
    → ((w : ℕ) → w < places_of E.program.qregs → IsPlace 0 E.program.qregs w) → IsTailEntry (places_of E.program.qregs) (places_of E.program.cregs) (Barrier wires)
    → entries_of (E.program.tail ++ Barrier wires ∷ []) ≤ 1048576 → map shape_of front ≡ tail_shapes E.program.qregs E.program.cregs (Barrier wires)
    → after options E front ≡ Ok (with_tail E (E.program.tail ++ Barrier wires ∷ []))
barrier_line options E [] front header included places entry few shaped = absurd (omega (arith, entry.some))
barrier_line options E (w ∷ ws) front header included places entry few shaped =
    let ts : List TokenView = placed (barrier_shapes E.program.qregs (w ∷ ws)) (λ k. nth front (suc k)) in
    let room = room_left E.program.tail (Barrier (w ∷ ws)) (length (w ∷ ws)) (omega arith) few in
    let wires = wires_read E.program.qregs places w ws [] (λ k. nth front (suc k)) entry.in_range (differ_from [] (w ∷ ws) entry.distinct) in
    ap (after options E) (is_placed (shape Word (codes "barrier") ∷ barrier_shapes E.program.qregs (w ∷ ws)) front shaped)
    ∙ statement_read options E (codes "barrier") firsts.Barrier (nth front 0) ts (with_tail E (E.program.tail ++ Barrier (w ∷ ws) ∷ [])) header included refl
    (ap (λ r. put r (with_tail E)) (barrier_read E.program.qregs E.program.tail (w ∷ ws) ts wires room))

measure_line : (options : Options) (E : Env) (wire bit : ℕ) (front : List TokenView) (p : IsPlace 0 E.program.qregs wire) (q : IsPlace 0 E.program.cregs bit)
    → E.header ≡ true → E.included ≡ true
    → entries_of (E.program.tail ++ Measure wire bit ∷ []) ≤ 1048576 → map shape_of front ≡ tail_shapes E.program.qregs E.program.cregs (Measure wire bit)
    → after options E front ≡ Ok (with_tail E (E.program.tail ++ Measure wire bit ∷ []))
measure_line options E wire bit front p q header included few shaped =
    let spots = λ (k : ℕ). nth front (suc k) in
    let room = room_left E.program.tail (Measure wire bit) 1 (omega arith) few in
    let from : p.span.first + p.index + 0 ≡ wire = omega (arith, p.reached) in
    let into : q.span.first + q.index + 0 ≡ bit = omega (arith, q.reached) in
    ap (after options E) (is_placed (shape Word (codes "measure") ∷ measure_shapes p q) front
    (shaped ∙ (λ i. shape Word (codes "measure") ∷ p.written i ++ (arrow ∷ (q.written i ++ semicolon ∷ [])))))
    ∙ statement_read options E (codes "measure") firsts.Measure (nth front 0) (placed (measure_shapes p q) spots) (with_tail E (E.program.tail ++ Measure wire bit ∷ [])) header included refl
    (ap (λ r. put r (with_tail E)) (measure_read E.program.qregs E.program.cregs E.program.tail wire bit p q spots room
    ∙ (λ i. let r : Reading (List TailView) = Ok (E.program.tail ++ Measure (from i) (into i) ∷ [], []) in r)))

-- After the line of an entry of the tail the entry is the last one.
pub after_tail : (options : Options) (E : Env) (t : TailView) (front : List TokenView) → E.header ≡ true → E.included ≡ true
    → All IsRegister E.program.qregs → All IsRegister E.program.cregs
    → AllPairs (λ q r. q.name ≢ r.name) E.program.qregs → AllPairs (λ q r. q.name ≢ r.name) E.program.cregs
    → places_of E.program.qregs ≤ 4096 → places_of E.program.cregs ≤ 4096
    → IsTailEntry (places_of E.program.qregs) (places_of E.program.cregs) t → entries_of (E.program.tail ++ t ∷ []) ≤ 1048576
    → map shape_of front ≡ tail_shapes E.program.qregs E.program.cregs t
    → after options E front ≡ Ok (with_tail E (E.program.tail ++ t ∷ []))
after_tail options E (Barrier wires) front header included q_each c_each q_apart c_apart qubits bits entry few shaped =
    barrier_line options E wires front header included (λ w on. place_from 0 E.program.qregs w q_each q_apart qubits on) entry few shaped
after_tail options E (Measure wire bit) front header included q_each c_each q_apart c_apart qubits bits entry few shaped =
    measure_line options E wire bit front (place_from 0 E.program.qregs wire q_each q_apart qubits entry.wire_in_range)
    (place_from 0 E.program.cregs bit c_each c_apart bits entry.bit_in_range) header included few shaped
