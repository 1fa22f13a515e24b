-- The canonical text of a well-formed program is short.
use Rattle.std.proofs.Common.{◌≡◌, ℕ, ◌+◌, ◌*◌, ◌<◌, ◌≤◌, ◌^◌, Bool, true, false, cond, ltb, ◌-◌, List, [], ◌∷◌, ◌++◌, length, map, flat_map, All, codes, decimal, refl, subst, arith}
use Rattle.std.specs.List.{join_with_byte}
use Rattle.std.proofs.lemmas.Bool.{ltb-true}
use Rattle.std.proofs.lemmas.List.{length-append, take_at, drop_at}
use Rattle.std.proofs.lemmas.List.Elements.{All-head, All-tail, All-take, All-drop}
use Rattle.std.proofs.lemmas.Fmt.{length-decimal-le}
use Rattle.std.proofs.Math.Nat.{mul-suc}
use Rattle.pq_gate.specs.declared.gate.Gate.{Gate}
use Rattle.pq_gate.specs.Ports.{wires_of}
use Rattle.pq_gate.proofs.WireLaws.{few_wires}
use Rattle.pq_text.specs.Program.{RegisterView, TailView, Barrier, Measure, ProgramView, places_of, entries_of}
use Rattle.pq_text.specs.Print.{header, indexed, place, register_line, gate_word, gate_line, tail_line, print}
use Rattle.pq_text.specs.WellFormed.{IsRegister, IsTailEntry, WellFormed}
use Rattle.pq_write.proofs.WordFacts.{word_facts}

pub indexed_short : (name : List ℕ) (n : ℕ) → length name ≤ 64 → n < 2 ^ 32 → length (indexed name n) ≤ 110
indexed_short name n short small =
    let digits : length (decimal n) ≤ 10 = length-decimal-le 10 n (omega arith) (omega arith) (omega arith) in
    omega (arith, length-append name (91 ∷ decimal n ++ 93 ∷ []), length-append (decimal n) (93 ∷ []))

chosen_short : (b : Bool) (x y : List ℕ) (m : ℕ) → (b ≡ true → length x ≤ m) → (b ≡ false → length y ≤ m) → length (cond b x y) ≤ m
chosen_short b x y m if_so otherwise =
    elim b as (λ v. (v ≡ true → length x ≤ m) → (v ≡ false → length y ≤ m) → length (cond v x y) ≤ m) [
      | true ↦ λ here _. here refl
      | false ↦ λ _ there. there refl
    ] if_so otherwise

pub place_short : (regs : List RegisterView) (n : ℕ) → All IsRegister regs → places_of regs ≤ 4096 → length (place regs n) ≤ 110
place_short [] n each limit = omega arith
place_short (r ∷ rs) n each limit =
    let own = All-head IsRegister r rs each in
    let named = own.named in
    let short = named.short in
    chosen_short (ltb n r.size) (indexed r.name n) (place rs (n - r.size)) 110
    (λ is. indexed_short r.name n short (omega (arith, ltb-true n r.size is)))
    (λ is. place_short rs (n - r.size) (All-tail IsRegister r rs each) (omega arith))

-- lines of so many bytes at most
pub lines_short : {X : Type 0} (f : X → List ℕ) (m : ℕ) (xs : List X) → ((x : X) → length (f x) ≤ m) → length (flat_map f xs) ≤ m * length xs
lines_short f m [] short = omega arith
lines_short f m (x ∷ xs) short =
    let more : length (flat_map f xs) ≤ m * length xs = lines_short f m xs short in
    let one : length (f x) ≤ m = short x in
    omega (arith, length-append (f x) (flat_map f xs), mul-suc m (length xs))

one_short : (text : List ℕ) → length text ≤ 110 → length (text ++ codes ";\n") ≤ 112
one_short text short = omega (arith, length-append text (codes ";\n"))

pub register_short : (word : List ℕ) (r : RegisterView) → length word ≡ 4 → IsRegister r → r.size ≤ 4096 → length (register_line word r) ≤ 120
register_short word r four own small =
    let named = own.named in
    let short = named.short in
    omega (arith, length-append word (32 ∷ indexed r.name r.size ++ codes ";\n"), length-append (indexed r.name r.size) (codes ";\n"), indexed_short r.name r.size short (omega arith))

pub registers_short : (word : List ℕ) (regs : List RegisterView) → length word ≡ 4 → All IsRegister regs → places_of regs ≤ 4096 → length (flat_map (register_line word) regs) ≤ 120 * places_of regs
registers_short word [] four each limit = omega arith
registers_short word (r ∷ rs) four each limit =
    let own = All-head IsRegister r rs each in
    let some = own.some in
    let more = registers_short word rs four (All-tail IsRegister r rs each) (omega arith) in
    omega (arith, length-append (register_line word r) (flat_map (register_line word) rs), register_short word r four own (omega arith))

joined_short : (regs : List RegisterView) → ((n : ℕ) → length (place regs n) ≤ 110) → (wires : List ℕ) → length (join_with_byte 44 (map (place regs) wires)) ≤ 111 * length wires
joined_short regs short [] = omega arith
joined_short regs short (w ∷ []) = omega (arith, short w)
joined_short regs short (w ∷ v ∷ ws) =
    let more = joined_short regs short (v ∷ ws) in
    omega (arith, short w, length-append (place regs w) (44 ∷ join_with_byte 44 (map (place regs) (v ∷ ws))))

pub gate_short : (regs : List RegisterView) → ((n : ℕ) → length (place regs n) ≤ 110) → (g : Gate) → length (gate_line regs g) ≤ 300
gate_short regs short g =
    let arguments : List ℕ = join_with_byte 44 (map (place regs) (wires_of g)) in
    omega (
      arith,
      length-append (gate_word g) (32 ∷ arguments ++ codes ";\n"),
      length-append arguments (codes ";\n"),
      joined_short regs short (wires_of g),
      few_wires g,
      (word_facts g).short,
    )

tail_short : (qregs cregs : List RegisterView) → ((n : ℕ) → length (place qregs n) ≤ 110) → ((n : ℕ) → length (place cregs n) ≤ 110) → (n m : ℕ) (t : TailView) → IsTailEntry n m t → length (tail_line qregs cregs t) ≤ 300 * entries_of (t ∷ [])
tail_short qregs cregs short also n m (Barrier wires) entry =
    let some = entry.some in
    let all : length (join_with_byte 44 (map (place qregs) wires)) ≤ 111 * length wires = joined_short qregs short wires in
    omega (arith, length-append (join_with_byte 44 (map (place qregs) wires)) (codes ";\n"))
tail_short qregs cregs short also n m (Measure wire bit) entry =
    omega (arith, length-append (place qregs wire) (codes " -> " ++ (place cregs bit ++ codes ";\n")), one_short (place cregs bit) (also bit), short wire)

entries_cons : (t : TailView) (ts : List TailView) → entries_of (t ∷ ts) ≡ entries_of (t ∷ []) + entries_of ts
entries_cons (Barrier wires) ts = omega arith
entries_cons (Measure wire bit) ts = omega arith

pub tails_short : (qregs cregs : List RegisterView) → ((n : ℕ) → length (place qregs n) ≤ 110) → ((n : ℕ) → length (place cregs n) ≤ 110) → (n m : ℕ) (ts : List TailView) → All (IsTailEntry n m) ts → length (flat_map (tail_line qregs cregs) ts) ≤ 300 * entries_of ts
tails_short qregs cregs short also n m [] each = omega arith
tails_short qregs cregs short also n m (t ∷ ts) each =
    let one = tail_short qregs cregs short also n m t (All-head (IsTailEntry n m) t ts each) in
    let more = tails_short qregs cregs short also n m ts (All-tail (IsTailEntry n m) t ts each) in
    omega (arith, entries_cons t ts, length-append (tail_line qregs cregs t) (flat_map (tail_line qregs cregs) ts))

-- the parts of the text of a well-formed program have fewer than 2 ^ 30 bytes each
pub record IsShort (p : ProgramView) : Type 0 where
  pub qregs : length (flat_map (register_line (codes "qreg")) p.qregs) ≤ 2 ^ 30
  pub cregs : length (flat_map (register_line (codes "creg")) p.cregs) ≤ 2 ^ 30
  pub gates : length (flat_map (gate_line p.qregs) p.gates) ≤ 2 ^ 30
  pub tail : length (flat_map (tail_line p.qregs p.cregs) p.tail) ≤ 2 ^ 30

pub quantum : (p : ProgramView) → WellFormed p → All IsRegister p.qregs
quantum p well = subst (All IsRegister) (take_at p.qregs p.cregs (length p.qregs) refl) (All-take IsRegister (length p.qregs) (p.qregs ++ p.cregs) well.registers)

pub classical : (p : ProgramView) → WellFormed p → All IsRegister p.cregs
classical p well = subst (All IsRegister) (drop_at p.qregs p.cregs (length p.qregs) refl) (All-drop IsRegister (length p.qregs) (p.qregs ++ p.cregs) well.registers)

pub is_short : (p : ProgramView) → WellFormed p → IsShort p
is_short p well =
    let wire : (n : ℕ) → length (place p.qregs n) ≤ 110 = λ n. place_short p.qregs n (quantum p well) well.qubits in
    let bit : (n : ℕ) → length (place p.cregs n) ≤ 110 = λ n. place_short p.cregs n (classical p well) well.bits in
    let q = registers_short (codes "qreg") p.qregs refl (quantum p well) well.qubits in
    let c = registers_short (codes "creg") p.cregs refl (classical p well) well.bits in
    let g = lines_short (gate_line p.qregs) 300 p.gates (gate_short p.qregs wire) in
    let t = tails_short p.qregs p.cregs wire bit (places_of p.qregs) (places_of p.cregs) p.tail well.tail in
    record {
      qregs = omega (arith, well.qubits);
      cregs = omega (arith, well.bits);
      gates = omega (arith, well.gates);
      tail = omega (arith, well.entries);
    }

pub length_header : length header ≡ 36
unfolding header
length_header = refl

pub length_print : (p : ProgramView) → 36 + length (flat_map (register_line (codes "qreg")) p.qregs) + length (flat_map (register_line (codes "creg")) p.cregs)
    + length (flat_map (gate_line p.qregs) p.gates) + length (flat_map (tail_line p.qregs p.cregs) p.tail) ≡ length (print p)
length_print p =
    let q : List ℕ = flat_map (register_line (codes "qreg")) p.qregs in
    let c : List ℕ = flat_map (register_line (codes "creg")) p.cregs in
    let g : List ℕ = flat_map (gate_line p.qregs) p.gates in
    let t : List ℕ = flat_map (tail_line p.qregs p.cregs) p.tail in
    omega (arith, length_header, length-append header (q ++ (c ++ (g ++ t))), length-append q (c ++ (g ++ t)), length-append c (g ++ t), length-append g t)

pub print_short : (p : ProgramView) → WellFormed p → length (print p) < 2 ^ 33
print_short p well =
    let short = is_short p well in
    omega (arith, length_print p, short.qregs, short.cregs, short.gates, short.tail)
