-- A text whose tokens are those of a program's canonical text is read as this program.
use Rattle.std.proofs.Common.{◌≡◌, ℕ, ◌+◌, ◌<◌, ◌≤◌, false, ◌||◌, List, [], ◌∷◌, ◌++◌, length, map, flat_map, get_or, All, AllPairs, Ok, codes, refl, sym, ap, ◌∙◌, subst, arith, append_assoc, length-append}
use Rattle.std.specs.List.{AllByRecursion}
use Rattle.std.proofs.lemmas.List.{append-nil, get_or_append_left, get_or-append-add}
use Rattle.std.proofs.lemmas.List.Concat.{flat_map-cons}
use Rattle.std.proofs.lemmas.List.Elements.{All-head, All-nil}
use Rattle.std.proofs.Math.Seq.{get_or-append_seam}
use Rattle.pq_lex.specs.Token.{TokenView}
use Rattle.pq_lex.specs.Lex.{tokens_of}
use Rattle.pq_gate.specs.declared.gate.Gate.{Gate}
use Rattle.pq_gate.specs.Circuit.{IsOnWires, IsCircuit}
use Rattle.pq_text.specs.Program.{RegisterView, TailView, ProgramView, places_of, entries_of}
use Rattle.pq_text.specs.Print.{print}
use Rattle.pq_text.specs.WellFormed.{IsRegister, IsTailEntry, WellFormed}
use Rattle.pq_read.specs.declared.program.Options.{Options}
use Rattle.pq_read.specs.Environment.{Env, start}
use Rattle.pq_read.specs.After.{is_taken, with_gates, with_tail}
use Rattle.pq_read.specs.Reads.{read_tokens, Reads}
use Rattle.pq_read.proofs.Counts.{places_of-append, entries_of-append}
use Rattle.pq_read.proofs.Pieces.{read_done, reads_for}
use Rattle.pq_write.proofs.Shapes.{Shape, shape_of, missing, header_shapes, include_shapes, register_shapes, gate_shapes, tail_shapes, program_shapes}
use Rattle.pq_write.proofs.Steps.{Steps}
use Rattle.pq_write.proofs.Lexing.{lexed_program}
use Rattle.pq_write.proofs.GateLines.{after_gate}
use Rattle.pq_write.proofs.TailLines.{after_tail}
use Rattle.pq_write.proofs.Frame.{steps_by, steps_none, steps_join, parts_of, placed, placed_all}
use Rattle.pq_write.proofs.Lines.{begun, reading, header_steps, include_steps, IsNotNamed, not_found, qreg_steps, creg_steps, gate_is_line, tail_is_line}

-- what holds of a list holds of its parts
all_left : {A : Type 0} (P : A → Type 0) (xs ys : List A) → All P (xs ++ ys) → All P xs
all_left P xs ys h = λ k d lt. subst P (get_or_append_left xs ys d k lt) (h k d (omega (arith, length-append xs ys)))

all_right : {A : Type 0} (P : A → Type 0) (xs ys : List A) → All P (xs ++ ys) → All P ys
all_right P xs ys h = λ k d lt. subst P (get_or-append-add xs ys k d) (h (length xs + k) d (omega (arith, length-append xs ys)))

all_here : {A : Type 0} (P : A → Type 0) (xs : List A) (y : A) (ys : List A) → All P (xs ++ y ∷ ys) → P y
all_here P xs y ys h = All-head P y ys (all_right P xs (y ∷ ys) h)

each_here : {A : Type 0} (P : A → Type 0) (xs : List A) (y : A) (ys : List A) → AllByRecursion P (xs ++ y ∷ ys) → P y
each_here P [] y ys h = h.0
each_here P (x ∷ xs) y ys h = each_here P xs y ys h.1

pairs_left : {A : Type 0} (R : A → A → Type 0) (xs ys : List A) → AllPairs R (xs ++ ys) → AllPairs R xs
pairs_left R xs ys h = λ i j d lt len.
    subst (λ x. R x (get_or xs j d)) (get_or_append_left xs ys d i (omega arith))
    (subst (R (get_or (xs ++ ys) i d)) (get_or_append_left xs ys d j len) (h i j d lt (omega (arith, length-append xs ys))))

pairs_right : {A : Type 0} (R : A → A → Type 0) (xs ys : List A) → AllPairs R (xs ++ ys) → AllPairs R ys
pairs_right R xs ys h = λ i j d lt len.
    subst (λ x. R x (get_or ys j d)) (get_or-append-add xs ys i d)
    (subst (R (get_or (xs ++ ys) (length xs + i) d)) (get_or-append-add xs ys j d) (h (length xs + i) (length xs + j) d (omega arith) (omega (arith, length-append xs ys))))

pairs_here : {A : Type 0} (R : A → A → Type 0) (xs : List A) (y : A) (ys : List A) → AllPairs R (xs ++ y ∷ ys) → All (λ x. R x y) xs
pairs_here R xs y ys h = λ k d lt.
    subst (λ x. R x y) (get_or_append_left xs (y ∷ ys) d k lt)
    (subst (R (get_or (xs ++ y ∷ ys) k d)) (get_or-append_seam xs y ys d) (h k (length xs) d lt (omega (arith, length-append xs (y ∷ ys)))))

-- The lines of a list are read, if each line is after those before it.
steps_each : {A : Type 0} (options : Options) (shapes : A → List Shape) (read : List A → Env) (all : List A)
    → ((done : List A) (x : A) (rest : List A) → all ≡ done ++ x ∷ rest → Steps options (shapes x) (read done) (read (done ++ x ∷ [])))
    → (done left : List A) → all ≡ done ++ left → Steps options (flat_map shapes left) (read done) (read all)
steps_each options shapes read all each done [] whole =
    subst (λ l. Steps options [] (read done) (read l)) (sym (whole ∙ append-nil done)) (steps_none options (read done))
steps_each options shapes read all each done (x ∷ rest) whole =
    subst (λ l. Steps options l (read done) (read all)) (sym (flat_map-cons shapes x rest))
    (steps_join options (shapes x) (flat_map shapes rest) (read done) (read (done ++ x ∷ [])) (read all) (each done x rest whole)
    (steps_each options shapes read all each (done ++ x ∷ []) rest (whole ∙ sym (append_assoc done (x ∷ []) rest))))

-- two registers with different names
abbrev pub OtherName : RegisterView → RegisterView → Type 0
OtherName q r = q.name ≡ r.name → ⊥

not_taken : (qregs cregs : List RegisterView) (name : List ℕ) → All (IsNotNamed name) qregs → All (IsNotNamed name) cregs → is_taken qregs cregs name ≡ false
not_taken qregs cregs name q c = λ i. not_found qregs 0 name q i || not_found cregs 0 name c i

registers_room : (all before : List RegisterView) (r : RegisterView) (later : List RegisterView) → all ≡ before ++ r ∷ later → places_of all ≤ 4096
    → places_of before + r.size ≤ 4096
registers_room all before r later whole h =
    let e : places_of all ≡ places_of before + places_of (r ∷ later) = ap places_of whole ∙ places_of-append before (r ∷ later) in omega arith

-- the program so far
abbrev pub so_far : List RegisterView → List RegisterView → List Gate → List TailView → ProgramView
so_far qregs cregs gates tail = record { qregs = qregs; cregs = cregs; gates = gates; tail = tail }

-- the quantum registers
qreg_next : (options : Options) (qregs : List RegisterView) → All IsRegister qregs → AllPairs OtherName qregs → places_of qregs ≤ 4096
    → (done : List RegisterView) (r : RegisterView) (rest : List RegisterView) → qregs ≡ done ++ r ∷ rest
    → Steps options (register_shapes (codes "qreg") r) (reading (so_far done [] [] [])) (reading (so_far (done ++ r ∷ []) [] [] []))
qreg_next options qregs registers names room done r rest whole =
    let register : IsRegister r = all_here IsRegister done r rest (subst (All IsRegister) whole registers) in
    let free : All (IsNotNamed r.name) done = pairs_here OtherName done r rest (subst (AllPairs OtherName) whole names) in
    qreg_steps options (so_far done [] [] []) r register (not_taken done [] r.name free (All-nil (IsNotNamed r.name))) (registers_room qregs done r rest whole room)

qregs_steps : (options : Options) (qregs : List RegisterView) → All IsRegister qregs → AllPairs OtherName qregs → places_of qregs ≤ 4096
    → Steps options (flat_map (register_shapes (codes "qreg")) qregs) (reading start.program) (reading (so_far qregs [] [] []))
qregs_steps options qregs registers names room =
    steps_each options (register_shapes (codes "qreg")) (λ done. reading (so_far done [] [] [])) qregs (qreg_next options qregs registers names room) [] qregs refl

-- the classical ones, after them
creg_next : (options : Options) (qregs cregs : List RegisterView) → All IsRegister (qregs ++ cregs) → AllPairs OtherName (qregs ++ cregs) → places_of cregs ≤ 4096
    → (done : List RegisterView) (r : RegisterView) (rest : List RegisterView) → cregs ≡ done ++ r ∷ rest
    → Steps options (register_shapes (codes "creg") r) (reading (so_far qregs done [] [])) (reading (so_far qregs (done ++ r ∷ []) [] []))
creg_next options qregs cregs registers names room done r rest whole =
    let before : qregs ++ cregs ≡ (qregs ++ done) ++ r ∷ rest = ap (λ l. qregs ++ l) whole ∙ sym (append_assoc qregs done (r ∷ rest)) in
    let register : IsRegister r = all_here IsRegister (qregs ++ done) r rest (subst (All IsRegister) before registers) in
    let free : All (IsNotNamed r.name) (qregs ++ done) = pairs_here OtherName (qregs ++ done) r rest (subst (AllPairs OtherName) before names) in
    creg_steps options (so_far qregs done [] []) r register
    (not_taken qregs done r.name (all_left (IsNotNamed r.name) qregs done free) (all_right (IsNotNamed r.name) qregs done free)) (registers_room cregs done r rest whole room)

cregs_steps : (options : Options) (qregs cregs : List RegisterView) → All IsRegister (qregs ++ cregs) → AllPairs OtherName (qregs ++ cregs) → places_of cregs ≤ 4096
    → Steps options (flat_map (register_shapes (codes "creg")) cregs) (reading (so_far qregs [] [] [])) (reading (so_far qregs cregs [] []))
cregs_steps options qregs cregs registers names room =
    steps_each options (register_shapes (codes "creg")) (λ done. reading (so_far qregs done [] [])) cregs (creg_next options qregs cregs registers names room) [] cregs refl

-- the gates
gate_next : (options : Options) (p : ProgramView) → WellFormed p → (done : List Gate) (g : Gate) (rest : List Gate) → p.gates ≡ done ++ g ∷ rest
    → Steps options (gate_shapes p.qregs g) (reading (so_far p.qregs p.cregs done [])) (reading (so_far p.qregs p.cregs (done ++ g ∷ []) []))
gate_next options p w done g rest whole =
    let E : Env = reading (so_far p.qregs p.cregs done []) in
    let within : length (done ++ g ∷ rest) ≤ 1048576 = subst (λ l. length l ≤ 1048576) whole w.gates in
    let few : length done < 1048576 = omega (arith, length-append done (g ∷ rest)) in
    let on : IsOnWires (places_of p.qregs) g = each_here (IsOnWires (places_of p.qregs)) done g rest (subst (IsCircuit (places_of p.qregs)) whole w.circuit) in
    let registers : All IsRegister p.qregs = all_left IsRegister p.qregs p.cregs w.registers in
    let names : AllPairs OtherName p.qregs = pairs_left OtherName p.qregs p.cregs w.names in
    steps_by options E (with_gates E (done ++ g ∷ [])) (gate_shapes p.qregs g) (gate_is_line p.qregs g)
    (λ front shaped. after_gate options E g front refl refl refl registers names w.qubits on few shaped)

gates_steps : (options : Options) (p : ProgramView) → WellFormed p
    → Steps options (flat_map (gate_shapes p.qregs) p.gates) (reading (so_far p.qregs p.cregs [] [])) (reading (so_far p.qregs p.cregs p.gates []))
gates_steps options p w =
    steps_each options (gate_shapes p.qregs) (λ done. reading (so_far p.qregs p.cregs done [])) p.gates (gate_next options p w) [] p.gates refl

-- the tail
tail_next : (options : Options) (p : ProgramView) → WellFormed p → (done : List TailView) (t : TailView) (rest : List TailView) → p.tail ≡ done ++ t ∷ rest
    → Steps options (tail_shapes p.qregs p.cregs t) (reading (so_far p.qregs p.cregs p.gates done)) (reading (so_far p.qregs p.cregs p.gates (done ++ t ∷ [])))
tail_next options p w done t rest whole =
    let E : Env = reading (so_far p.qregs p.cregs p.gates done) in
    let again : p.tail ≡ (done ++ t ∷ []) ++ rest = whole ∙ sym (append_assoc done (t ∷ []) rest) in
    let within : entries_of ((done ++ t ∷ []) ++ rest) ≤ 1048576 = subst (λ l. entries_of l ≤ 1048576) again w.entries in
    let few : entries_of (done ++ t ∷ []) ≤ 1048576 = omega (arith, entries_of-append (done ++ t ∷ []) rest) in
    let in_range : All (IsTailEntry (places_of p.qregs) (places_of p.cregs)) (done ++ t ∷ rest) = subst (All (IsTailEntry (places_of p.qregs) (places_of p.cregs))) whole w.tail in
    let entry : IsTailEntry (places_of p.qregs) (places_of p.cregs) t = all_here (IsTailEntry (places_of p.qregs) (places_of p.cregs)) done t rest in_range in
    let q_each : All IsRegister p.qregs = all_left IsRegister p.qregs p.cregs w.registers in
    let c_each : All IsRegister p.cregs = all_right IsRegister p.qregs p.cregs w.registers in
    let q_names : AllPairs OtherName p.qregs = pairs_left OtherName p.qregs p.cregs w.names in
    let c_names : AllPairs OtherName p.cregs = pairs_right OtherName p.qregs p.cregs w.names in
    steps_by options E (with_tail E (done ++ t ∷ [])) (tail_shapes p.qregs p.cregs t) (tail_is_line p.qregs p.cregs t)
    (λ front shaped. after_tail options E t front refl refl q_each c_each q_names c_names w.qubits w.bits entry few shaped)

tail_steps : (options : Options) (p : ProgramView) → WellFormed p
    → Steps options (flat_map (tail_shapes p.qregs p.cregs) p.tail) (reading (so_far p.qregs p.cregs p.gates [])) (reading p)
tail_steps options p w =
    steps_each options (tail_shapes p.qregs p.cregs) (λ done. reading (so_far p.qregs p.cregs p.gates done)) p.tail (tail_next options p w) [] p.tail refl

-- the lines of the whole text, one kind after another
program_steps : (options : Options) (p : ProgramView) → WellFormed p → Steps options (program_shapes p) start (reading p)
program_steps options p w =
    let tail : List Shape = flat_map (tail_shapes p.qregs p.cregs) p.tail in
    let gates : List Shape = flat_map (gate_shapes p.qregs) p.gates in
    let cregs : List Shape = flat_map (register_shapes (codes "creg")) p.cregs in
    let qregs : List Shape = flat_map (register_shapes (codes "qreg")) p.qregs in
    let some : Env = reading (so_far p.qregs [] [] []) in
    let all : Env = reading (so_far p.qregs p.cregs [] []) in
    let circuit : Env = reading (so_far p.qregs p.cregs p.gates []) in
    let from_gates : Steps options (gates ++ tail) all (reading p) =
    steps_join options gates tail all circuit (reading p) (gates_steps options p w) (tail_steps options p w)
    in
    let from_cregs : Steps options (cregs ++ (gates ++ tail)) some (reading p) =
    steps_join options cregs (gates ++ tail) some all (reading p) (cregs_steps options p.qregs p.cregs w.registers w.names w.bits) from_gates
    in
    let from_qregs : Steps options (qregs ++ (cregs ++ (gates ++ tail))) (reading start.program) (reading p) =
    steps_join options qregs (cregs ++ (gates ++ tail)) (reading start.program) some (reading p)
    (qregs_steps options p.qregs (all_left IsRegister p.qregs p.cregs w.registers) (pairs_left OtherName p.qregs p.cregs w.names) w.qubits) from_cregs
    in
    steps_join options header_shapes (include_shapes ++ (qregs ++ (cregs ++ (gates ++ tail)))) start begun (reading p) (header_steps options)
    (steps_join options include_shapes (qregs ++ (cregs ++ (gates ++ tail))) begun (reading start.program) (reading p) (include_steps options) from_qregs)

-- the end of the text
end_read : (options : Options) (p : ProgramView) (ts : List TokenView) → map shape_of ts ≡ missing ∷ [] → read_tokens options (reading p) ts ≡ Ok p
end_read options p =
    placed_all (missing ∷ []) (λ (ts : List TokenView). read_tokens options (reading p) ts ≡ Ok p)
    (λ line column. read_done options (reading p) (placed missing line column ∷ []) refl refl)

pub reads_back : (p : ProgramView) (options : Options) (ts : List TokenView) → WellFormed p → map shape_of ts ≡ program_shapes p ++ missing ∷ []
    → read_tokens options start ts ≡ Ok p
reads_back p options ts w shaped =
    let parts = parts_of (program_shapes p) (missing ∷ []) ts shaped in
    ap (read_tokens options start) parts.whole
    ∙ (program_steps options p w parts.first parts.second parts.first_shaped ∙ end_read options p parts.second parts.second_shaped)

-- the canonical text of a well-formed program
pub reads_printed : (p : ProgramView) (options : Options) → WellFormed p → Reads (print p) options p
reads_printed p options w =
    let ts : List TokenView = tokens_of (print p) in
    reads_for (print p) options ts p p refl (reads_back p options ts w (lexed_program p w)) refl
