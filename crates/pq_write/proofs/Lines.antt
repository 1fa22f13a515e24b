-- The reader goes over the lines of a canonical text.
use Rattle.std.proofs.Common.{◌≡◌, ℕ, ◌+◌, ◌-◌, ◌≤◌, true, false, not, nat_lt, cond, List, [], ◌∷◌, ◌++◌, length, map, get_or, All, Some, Result, Ok, Err, codes, decimal, bytes_eq, refl, sym, ap, ◌∙◌, subst, arith, append_assoc}
use Rattle.std.specs.List.{AllByRecursion, list_all}
use Rattle.std.specs.Option.{is_some}
use Rattle.std.specs.Char.{is_ascii_digit}
use Rattle.std.specs.Str.Parse.{digits_value}
use Rattle.std.proofs.lemmas.Bool.Decides.{nat_tests}
use Rattle.std.proofs.lemmas.List.Elements.{All-head, All-tail}
use Rattle.std.proofs.lemmas.List.Sums.{list_all-from_AllPass}
use Rattle.std.specs.Int.{IsInRange}
use Rattle.std.proofs.lemmas.Str.Parse.{digit_at}
use Rattle.std.proofs.lemmas.Grind.{get_or_default_zero}
use Rattle.std.proofs.lemmas.Fmt.{decimal_is_IsNumeral}
use Rattle.std.proofs.lemmas.Slice.Eq.{bytes_eq-Decides}
use borrow.Author.Tests.{le-ltb}
use Rattle.pq_lex.specs.declared.token.Form.TheVariants.{Word, Number, RightBracket}
use Rattle.pq_lex.specs.Token.{TokenView}
use Rattle.pq_gate.specs.declared.gate.Gate.{Gate}
use Rattle.pq_gate.specs.Ports.{wires_of}
use Rattle.pq_text.specs.Program.{RegisterView, TailView, Barrier, Measure, ProgramView, places_of}
use Rattle.pq_text.specs.Print.{gate_word}
use Rattle.pq_text.specs.WellFormed.{IsRegister}
use Rattle.pq_read.specs.declared.refusal.Kind.{Kind}
use Rattle.pq_read.specs.declared.refusal.Kind.TheVariants.{Syntax, RepeatedName, NameTooLong, TooManyQubits, TooManyBits}
use Rattle.pq_read.specs.declared.refusal.Refusal.{Refusal}
use Rattle.pq_read.specs.declared.program.Options.{Options}
use Rattle.pq_read.specs.declared.argument.Span.{Span}
use Rattle.pq_read.specs.Faults.{◌>>=◌, refused, integer_at}
use Rattle.pq_read.specs.Words.{is_name}
use Rattle.pq_read.specs.Environment.{Env, start, span_from}
use Rattle.pq_read.specs.After.{header_at, include_at, is_taken, new_name, new_size, declared_at, put, with_qreg, with_creg, statement_at, piece_at, after}
use Rattle.pq_read.proofs.Names.{lawful_is_name}
use Rattle.pq_read.proofs.Circuits.{all_append}
use Rattle.pq_read.proofs.Sizes.{size_fits}
use Rattle.pq_write.proofs.Shapes.{Shape, shape, comma, semicolon, arrow, header_shapes, include_shapes, indexed_shapes, place_shapes, register_shapes, joined_shapes, statement_shapes, gate_shapes, tail_shapes}
use Rattle.pq_write.proofs.Steps.{Steps}
use Rattle.pq_write.proofs.Frame.{IsInner, IsLine, ends_after, steps_by, placed, Placed, placed_all}
use Rattle.pq_write.proofs.WordFacts.{word_facts}

-- what has been read after the header, and after the include
abbrev pub begun : Env
begun = record { header = true; included = false; program = start.program }

abbrev pub reading : ProgramView → Env
reading p = record { header = true; included = true; program = p }

pub header_steps : (options : Options) → Steps options header_shapes start begun
unfolding piece_at header_at
header_steps options =
    steps_by options start begun header_shapes (record { ends = (refl, (refl, refl)); other = refl })
    (placed_all header_shapes (λ (front : List TokenView). after options start front ≡ Ok begun) (λ l1 c1 l2 c2 l3 c3. refl))

pub include_steps : (options : Options) → Steps options include_shapes begun (reading start.program)
unfolding piece_at statement_at include_at
include_steps options =
    steps_by options begun (reading start.program) include_shapes (record { ends = (refl, (refl, refl)); other = refl })
    (placed_all include_shapes (λ (front : List TokenView). after options begun front ≡ Ok (reading start.program)) (λ l1 c1 l2 c2 l3 c3. refl))

-- a name that no register has
abbrev pub IsNotNamed : List ℕ → RegisterView → Type 0
IsNotNamed name q = q.name ≡ name → ⊥

pub not_found : (regs : List RegisterView) (first : ℕ) (name : List ℕ) → All (IsNotNamed name) regs → is_some (span_from first regs name) ≡ false
not_found [] first name h = refl
not_found (r ∷ rs) first name h =
    elim (bytes_eq r.name name) as (λ b. bytes_eq r.name name ≡ b → is_some (cond b (Some (let s : Span = record { first = first; size = r.size } in s)) (span_from (first + r.size) rs name)) ≡ false) [
      | true ↦ λ is. absurd (All-head (IsNotNamed name) r rs h ((bytes_eq-Decides r.name name).0 is))
      | false ↦ λ is. not_found rs (first + r.size) name (All-tail (IsNotNamed name) r rs h)
    ] refl

pub free_name : (qregs cregs : List RegisterView) (t : TokenView) → is_name t.bytes ≡ true → length t.bytes ≤ 64 → is_taken qregs cregs t.bytes ≡ false
    → new_name qregs cregs t ≡ Ok t.bytes
free_name qregs cregs t named short free =
    let s : nat_lt 64 (length t.bytes) ≡ false = le-ltb 64 (length t.bytes) short in
    λ i. let r : Result (List ℕ) Refusal = cond (not (named i)) (Err (refused Syntax t)) (cond (s i) (Err (refused NameTooLong t)) (cond (free i) (Err (refused RepeatedName t)) (Ok t.bytes))) in r

digit_test : (c : ℕ) → IsInRange 48 57 c → is_ascii_digit c ≡ true
digit_test c h = let low : 48 ≤ c = h.0 in let high : c ≤ 57 = h.1 in grind (arith, nat_tests)

decimal_digits : (n : ℕ) → n ≤ 4096 → list_all is_ascii_digit (decimal n) ≡ true
decimal_digits n h =
    let digits = (decimal_is_IsNumeral n (omega arith)).0.1 in
    list_all-from_AllPass is_ascii_digit (decimal n)
    (λ i d lt. subst (λ c. is_ascii_digit c ≡ true) (sym (get_or_default_zero (decimal n) i d lt)) (digit_test (get_or (decimal n) i 0) (digit_at (decimal n) i digits lt)))

decimal_token : ℕ → ℕ → ℕ → TokenView
decimal_token n line column = placed (shape Number (decimal n)) line column

integer_read : (n line column : ℕ) (rest : List TokenView) → n ≤ 4096
    → integer_at (decimal_token n line column ∷ rest) ≡ Ok (decimal_token n line column, rest)
unfolding integer_at decimal_token
integer_read n line column rest h =
    let t : TokenView = placed (shape Number (decimal n)) line column in
    ap (λ b. let r : Result (TokenView × List TokenView) Refusal = cond b (Ok (t, rest)) (Err (refused Syntax t)) in r) (decimal_digits n h)

size_read : (too_many : Kind) (regs : List RegisterView) (n line column : ℕ) → 1 ≤ n → places_of regs + n ≤ 4096
    → new_size too_many regs (decimal_token n line column) ≡ Ok n
unfolding decimal_token
size_read too_many regs n line column some room =
    let value : digits_value 10 (decimal n) ≡ n = (decimal_is_IsNumeral n (omega arith)).1 in
    size_fits too_many regs (placed (shape Number (decimal n)) line column) n (omega arith) (λ e. omega arith) room

-- a reading, and what is made of it
then_is : {A B : Type 0} (r : Result A Refusal) (x : A) (f : A → Result B Refusal) → r ≡ Ok x → (r >>= f) ≡ f x
then_is r x f h = ap (λ q. q >>= f) h

-- the tokens after the first word of a register's line
abbrev pub IsDeclaration : Kind → List RegisterView → List RegisterView → List RegisterView → RegisterView → List TokenView → Type 0
IsDeclaration too_many qregs cregs regs r rest = declared_at too_many qregs cregs regs rest ≡ Ok (r, [])

declared : (too_many : Kind) (qregs cregs regs : List RegisterView) (r : RegisterView) → IsRegister r → is_taken qregs cregs r.name ≡ false
    → places_of regs + r.size ≤ 4096 → Placed (indexed_shapes r.name r.size ++ semicolon ∷ []) (IsDeclaration too_many qregs cregs regs r)
unfolding declared_at decimal_token
declared too_many qregs cregs regs r register free room = λ l1 c1 l2 c2 l3 c3 l4 c4 l5 c5.
    let some : 1 ≤ r.size = register.some in
    let name : TokenView = placed (shape Word r.name) l1 c1 in
    let rest : List TokenView = placed (shape RightBracket (codes "]")) l4 c4 ∷ placed semicolon l5 c5 ∷ [] in
    then_is (new_name qregs cregs name) r.name _ (free_name qregs cregs name (lawful_is_name r.name register.named.lawful) register.named.short free)
    ∙ (then_is (integer_at (decimal_token r.size l3 c3 ∷ rest)) (decimal_token r.size l3 c3, rest) _ (integer_read r.size l3 c3 rest (omega arith))
    ∙ then_is (new_size too_many regs (decimal_token r.size l3 c3)) r.size _ (size_read too_many regs r.size l3 c3 some room))

pub qreg_steps : (options : Options) (p : ProgramView) (r : RegisterView) → IsRegister r → is_taken p.qregs p.cregs r.name ≡ false → places_of p.qregs + r.size ≤ 4096
    → Steps options (register_shapes (codes "qreg") r) (reading p) (with_qreg (reading p) r)
unfolding piece_at statement_at
qreg_steps options p r register free room =
    let E : Env = reading p in
    steps_by options E (with_qreg E r) (register_shapes (codes "qreg") r) (record { ends = (refl, (refl, (refl, (refl, (refl, refl))))); other = refl })
    (placed_all (register_shapes (codes "qreg") r) (λ (front : List TokenView). after options E front ≡ Ok (with_qreg E r))
    (λ l0 c0 l1 c1 l2 c2 l3 c3 l4 c4 l5 c5. ap (λ x. put x (with_qreg E) >>= λ y. let s : Result Env Refusal = Ok y.0 in s)
    (declared TooManyQubits p.qregs p.cregs p.qregs r register free room l1 c1 l2 c2 l3 c3 l4 c4 l5 c5)))

pub creg_steps : (options : Options) (p : ProgramView) (r : RegisterView) → IsRegister r → is_taken p.qregs p.cregs r.name ≡ false → places_of p.cregs + r.size ≤ 4096
    → Steps options (register_shapes (codes "creg") r) (reading p) (with_creg (reading p) r)
unfolding piece_at statement_at
creg_steps options p r register free room =
    let E : Env = reading p in
    steps_by options E (with_creg E r) (register_shapes (codes "creg") r) (record { ends = (refl, (refl, (refl, (refl, (refl, refl))))); other = refl })
    (placed_all (register_shapes (codes "creg") r) (λ (front : List TokenView). after options E front ≡ Ok (with_creg E r))
    (λ l0 c0 l1 c1 l2 c2 l3 c3 l4 c4 l5 c5. ap (λ x. put x (with_creg E) >>= λ y. let s : Result Env Refusal = Ok y.0 in s)
    (declared TooManyBits p.qregs p.cregs p.cregs r register free room l1 c1 l2 c2 l3 c3 l4 c4 l5 c5)))

-- no place and no list of arguments has a `;`
inner_place : (regs : List RegisterView) (n : ℕ) → AllByRecursion IsInner (place_shapes regs n)
inner_place [] n = tt
inner_place (r ∷ rs) n =
    elim (nat_lt n r.size) as (λ b. AllByRecursion IsInner (cond b (indexed_shapes r.name n) (place_shapes rs (n - r.size)))) [
      | true ↦ (refl, (refl, (refl, (refl, tt))))
      | false ↦ inner_place rs (n - r.size)
    ]

inner_places : (regs : List RegisterView) (ns : List ℕ) → AllByRecursion IsInner (joined_shapes (map (place_shapes regs) ns))
inner_places regs [] = tt
inner_places regs (n ∷ []) = inner_place regs n
inner_places regs (n ∷ m ∷ more) =
    all_append IsInner (place_shapes regs n) (comma ∷ joined_shapes (map (place_shapes regs) (m ∷ more))) (inner_place regs n) (refl, inner_places regs (m ∷ more))

statement_line : (word : List ℕ) (regs : List RegisterView) (ns : List ℕ) → bytes_eq (codes "gate") word ≡ false → IsLine (statement_shapes word (map (place_shapes regs) ns))
statement_line word regs ns other =
    record { ends = ends_after (shape Word word ∷ joined_shapes (map (place_shapes regs) ns)) (refl, inner_places regs ns); other = other }

pub gate_is_line : (qregs : List RegisterView) (g : Gate) → IsLine (gate_shapes qregs g)
gate_is_line qregs g = statement_line (gate_word g) qregs (wires_of g) (word_facts g).other

pub tail_is_line : (qregs cregs : List RegisterView) (t : TailView) → IsLine (tail_shapes qregs cregs t)
tail_is_line qregs cregs (Barrier wires) = statement_line (codes "barrier") qregs wires refl
tail_is_line qregs cregs (Measure wire bit) =
    let first : Shape = shape Word (codes "measure") in
    let between : List Shape = place_shapes qregs wire ++ (arrow ∷ place_shapes cregs bit) in
    let inner : AllByRecursion IsInner between =
    all_append IsInner (place_shapes qregs wire) (arrow ∷ place_shapes cregs bit) (inner_place qregs wire) (refl, inner_place cregs bit)
    in
    subst (λ (l : List Shape). IsLine (first ∷ l)) (append_assoc (place_shapes qregs wire) (arrow ∷ place_shapes cregs bit) (semicolon ∷ []))
    (record { ends = ends_after (first ∷ between) (refl, inner); other = refl })
