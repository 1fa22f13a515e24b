-- The canonical text of a well-formed program has the tokens that its shapes say.
use Rattle.std.proofs.Common.{◌≡◌, ℕ, ◌-◌, ◌<◌, ◌≤◌, true, ◌&&◌, nat_lt, List, [], ◌∷◌, ◌++◌, map, flat_map, codes, decimal, refl, sym, ap, ◌∙◌, arith}
use Rattle.std.specs.List.{list_all, join_with_byte, AllByRecursion}
use Rattle.std.specs.Char.{is_ascii_alphabetic, IsAsciiLowercase}
use Rattle.std.proofs.lemmas.Bool.{ltb-true}
use Rattle.std.proofs.lemmas.Bool.Decides.{nat_tests}
use Rattle.std.proofs.lemmas.List.{map-append, append-nil}
use Rattle.std.proofs.lemmas.List.Elements.{recursion_from_All}
use Rattle.pq_lex.specs.declared.token.Form.TheVariants.{Number, Quoted, LeftBracket, RightBracket}
use Rattle.pq_lex.specs.Front.{is_word_byte, front}
use Rattle.pq_lex.specs.Lex.{lex, tokens, tokens_of}
use Rattle.pq_gate.specs.Ports.{wires_of}
use Rattle.pq_text.specs.Name.{IsNameByte, IsLawfulName}
use Rattle.pq_text.specs.Program.{RegisterView, TailView, Barrier, Measure, ProgramView, places_of}
use Rattle.pq_text.specs.WellFormed.{IsRegister, WellFormed}
use Rattle.pq_text.specs.Print.{header, indexed, place, register_line, statement, gate_word, gate_line, tail_line, print}
use Rattle.pq_write.proofs.Shapes.{Shape, shape, shape_of, comma, semicolon, arrow, missing, header_shapes, include_shapes, indexed_shapes, place_shapes, register_shapes, joined_shapes, statement_shapes, gate_shapes, tail_shapes, program_shapes, position, LexedAt, Lexes}
use Rattle.pq_write.proofs.LexingTokens.{IsWord, nothing, then_more, both, either, one_token, no_blank, space, comma_alone, left_bracket, right_bracket, arrow_alone, end_of_line, word_then, word_space, number_then}
use Rattle.pq_write.proofs.WordFacts.{word_facts}

-- a register whose line and whose places are written as tokens
pub record IsSpelled (r : RegisterView) : Type 0 where
  pub word : IsWord r.name
  pub small : r.size ≤ 4096

-- the two lines at the head
version : Lexes (codes "2.0;\n") (shape Number (codes "2.0") ∷ semicolon ∷ [])
unfolding front
version rest line column =
    then_more (codes "2.0") (codes ";\n") (shape Number (codes "2.0") ∷ []) (semicolon ∷ []) rest line column
    (one_token Number (codes "2.0") (codes ";\n" ++ rest) line column (no_blank 50 (codes ".0;\n" ++ rest) refl refl) refl refl) end_of_line

library : Lexes (codes "\"qelib1.inc\"") (shape Quoted (codes "\"qelib1.inc\"") ∷ [])
unfolding front
library rest line column = one_token Quoted (codes "\"qelib1.inc\"") rest line column (no_blank 34 (codes "qelib1.inc\"" ++ rest) refl refl) refl refl

head : Lexes header (header_shapes ++ include_shapes)
unfolding header
head =
    both (codes "OPENQASM 2.0;\n") (codes "include \"qelib1.inc\";\n") header_shapes include_shapes
    (word_space (codes "OPENQASM") (codes "2.0;\n") (shape Number (codes "2.0") ∷ semicolon ∷ []) (refl, refl) version)
    (word_space (codes "include") (codes "\"qelib1.inc\";\n") (shape Quoted (codes "\"qelib1.inc\"") ∷ semicolon ∷ []) (refl, refl)
    (both (codes "\"qelib1.inc\"") (codes ";\n") (shape Quoted (codes "\"qelib1.inc\"") ∷ []) (semicolon ∷ []) library end_of_line))

-- places and lines
index_then : (name : List ℕ) (n : ℕ) → IsWord name → n ≤ 4096 → Lexes (indexed name n) (indexed_shapes name n)
index_then name n is small =
    let last : List Shape = shape RightBracket (codes "]") ∷ [] in
    word_then name 91 (decimal n ++ 93 ∷ []) (shape LeftBracket (codes "[") ∷ shape Number (decimal n) ∷ last) is refl
    (both (91 ∷ []) (decimal n ++ 93 ∷ []) (shape LeftBracket (codes "[") ∷ []) (shape Number (decimal n) ∷ last) left_bracket (number_then n [] last small right_bracket))

place_lexes : (rs : List RegisterView) (n : ℕ) → AllByRecursion IsSpelled rs → Lexes (place rs n) (place_shapes rs n)
place_lexes [] n all = nothing
place_lexes (r ∷ rs) n all =
    either (nat_lt n r.size) (indexed r.name n) (place rs (n - r.size)) (indexed_shapes r.name n) (place_shapes rs (n - r.size))
    (λ inside. let lt : n < r.size = ltb-true n r.size inside in index_then r.name n all.0.word (omega (arith, all.0.small)))
    (place_lexes rs (n - r.size) all.1)

arguments_lex : (rs : List RegisterView) (ws : List ℕ) → AllByRecursion IsSpelled rs → Lexes (join_with_byte 44 (map (place rs) ws)) (joined_shapes (map (place_shapes rs) ws))
arguments_lex rs [] all = nothing
arguments_lex rs (w ∷ []) all = place_lexes rs w all
arguments_lex rs (v ∷ w ∷ ws) all =
    let t : List ℕ = join_with_byte 44 (map (place rs) (w ∷ ws)) in
    let s : List Shape = joined_shapes (map (place_shapes rs) (w ∷ ws)) in
    both (place rs v) (44 ∷ t) (place_shapes rs v) (comma ∷ s) (place_lexes rs v all) (both (44 ∷ []) t (comma ∷ []) s comma_alone (arguments_lex rs (w ∷ ws) all))

statement_lexes : (word : List ℕ) (rs : List RegisterView) (ws : List ℕ) → IsWord word → AllByRecursion IsSpelled rs → Lexes (statement word (map (place rs) ws)) (statement_shapes word (map (place_shapes rs) ws))
statement_lexes word rs ws is all =
    let t : List ℕ = join_with_byte 44 (map (place rs) ws) in
    let s : List Shape = joined_shapes (map (place_shapes rs) ws) in
    word_space word (t ++ codes ";\n") (s ++ semicolon ∷ []) is (both t (codes ";\n") s (semicolon ∷ []) (arguments_lex rs ws all) end_of_line)

register_lexes : (word : List ℕ) (r : RegisterView) → IsWord word → IsSpelled r → Lexes (register_line word r) (register_shapes word r)
register_lexes word r is spelled =
    word_space word (indexed r.name r.size ++ codes ";\n") (indexed_shapes r.name r.size ++ semicolon ∷ []) is
    (both (indexed r.name r.size) (codes ";\n") (indexed_shapes r.name r.size) (semicolon ∷ []) (index_then r.name r.size spelled.word spelled.small) end_of_line)

registers_lex : (word : List ℕ) (rs : List RegisterView) → IsWord word → AllByRecursion IsSpelled rs → Lexes (flat_map (register_line word) rs) (flat_map (register_shapes word) rs)
registers_lex word [] is all = nothing
registers_lex word (r ∷ rs) is all =
    both (register_line word r) (flat_map (register_line word) rs) (register_shapes word r) (flat_map (register_shapes word) rs) (register_lexes word r is all.0) (registers_lex word rs is all.1)

lines_lex : {A : Type 0} (f : A → List ℕ) (g : A → List Shape) (xs : List A) → ((x : A) → Lexes (f x) (g x)) → Lexes (flat_map f xs) (flat_map g xs)
lines_lex f g [] each = nothing
lines_lex f g (x ∷ xs) each = both (f x) (flat_map f xs) (g x) (flat_map g xs) (each x) (lines_lex f g xs each)

tail_lexes : (qregs cregs : List RegisterView) → AllByRecursion IsSpelled qregs → AllByRecursion IsSpelled cregs → (t : TailView) → Lexes (tail_line qregs cregs t) (tail_shapes qregs cregs t)
tail_lexes qregs cregs wires bits (Barrier ws) = statement_lexes (codes "barrier") qregs ws (refl, refl) wires
tail_lexes qregs cregs wires bits (Measure wire bit) =
    let t : List ℕ = place cregs bit ++ codes ";\n" in
    let s : List Shape = place_shapes cregs bit ++ semicolon ∷ [] in
    let end : Lexes t s = both (place cregs bit) (codes ";\n") (place_shapes cregs bit) (semicolon ∷ []) (place_lexes cregs bit bits) end_of_line in
    let middle : Lexes (codes " -> " ++ t) (arrow ∷ s) =
    both (32 ∷ []) (codes "-> " ++ t) [] (arrow ∷ s) space (both (codes "->") (32 ∷ t) (arrow ∷ []) s arrow_alone (both (32 ∷ []) t [] s space end)) in
    word_space (codes "measure") (place qregs wire ++ (codes " -> " ++ t)) (place_shapes qregs wire ++ (arrow ∷ s)) (refl, refl)
    (both (place qregs wire) (codes " -> " ++ t) (place_shapes qregs wire) (arrow ∷ s) (place_lexes qregs wire wires) middle)

-- the registers of a well-formed program are spelled so
lower_is_letter : (b : ℕ) → IsAsciiLowercase b → is_ascii_alphabetic b ≡ true
lower_is_letter b h = grind (arith, nat_tests)

name_byte : (b : ℕ) → IsNameByte b → is_word_byte b ≡ true
name_byte b h = grind (arith, nat_tests)

name_bytes : (name : List ℕ) → AllByRecursion IsNameByte name → list_all is_word_byte name ≡ true
name_bytes [] all = refl
name_bytes (b ∷ name) all = λ i. name_byte b all.0 i && name_bytes name all.1 i

no_letter : IsAsciiLowercase 0 → ⊥
no_letter h = omega arith

name_is_word : (name : List ℕ) → IsLawfulName name → IsWord name
name_is_word [] lawful = no_letter lawful.first
name_is_word (b ∷ name) lawful = (lower_is_letter b lawful.first, name_bytes name (recursion_from_All IsNameByte (b ∷ name) lawful.bytes).1)

front_of : {A : Type 0} (P : A → Type 0) (xs ys : List A) → AllByRecursion P (xs ++ ys) → AllByRecursion P xs
front_of P [] ys all = tt
front_of P (x ∷ xs) ys all = (all.0, front_of P xs ys all.1)

back_of : {A : Type 0} (P : A → Type 0) (xs ys : List A) → AllByRecursion P (xs ++ ys) → AllByRecursion P ys
back_of P [] ys all = all
back_of P (x ∷ xs) ys all = back_of P xs ys all.1

registers_spelled : (rs : List RegisterView) → AllByRecursion IsRegister rs → places_of rs ≤ 4096 → AllByRecursion IsSpelled rs
registers_spelled [] all limit = tt
registers_spelled (r ∷ rs) all limit =
    (record { word = name_is_word r.name all.0.named.lawful; small = omega arith }, registers_spelled rs all.1 (omega arith))

-- the whole text
text_lexes : (p : ProgramView) → AllByRecursion IsSpelled p.qregs → AllByRecursion IsSpelled p.cregs → Lexes (print p) (program_shapes p)
text_lexes p wires bits =
    let gates : Lexes (flat_map (gate_line p.qregs) p.gates) (flat_map (gate_shapes p.qregs) p.gates) =
    lines_lex (gate_line p.qregs) (gate_shapes p.qregs) p.gates (λ g. statement_lexes (gate_word g) p.qregs (wires_of g) (word_facts g).lexed wires) in
    let tail : Lexes (flat_map (tail_line p.qregs p.cregs) p.tail) (flat_map (tail_shapes p.qregs p.cregs) p.tail) =
    lines_lex (tail_line p.qregs p.cregs) (tail_shapes p.qregs p.cregs) p.tail (tail_lexes p.qregs p.cregs wires bits) in
    both header _ (header_shapes ++ include_shapes) _ head
    (both _ _ _ _ (registers_lex (codes "qreg") p.qregs (refl, refl) wires)
    (both _ _ _ _ (registers_lex (codes "creg") p.cregs (refl, refl) bits)
    (both _ _ _ _ gates tail)))

-- the end of a text is a token of its own
at_the_end : (text : List ℕ) (shapes : List Shape) → Lexes text shapes → map shape_of (tokens_of text) ≡ shapes ++ missing ∷ []
unfolding lex
at_the_end text shapes lexes =
    let a : LexedAt text shapes [] 1 1 = lexes [] 1 1 in
    ap (λ t. map shape_of (tokens_of t)) (sym (append-nil text))
    ∙ (ap (map shape_of) a.lexed
    ∙ (map-append shape_of a.front (tokens (position [] a.next_line a.next_column)) ∙ ap (λ (s : List Shape). s ++ missing ∷ []) a.shaped))

-- the tokens of the canonical text
pub lexed_program : (p : ProgramView) → WellFormed p → map shape_of (tokens_of (print p)) ≡ program_shapes p ++ missing ∷ []
lexed_program p is =
    let all : AllByRecursion IsRegister (p.qregs ++ p.cregs) = recursion_from_All IsRegister (p.qregs ++ p.cregs) is.registers in
    at_the_end (print p) (program_shapes p) (text_lexes p (registers_spelled p.qregs (front_of IsRegister p.qregs p.cregs all) is.qubits) (registers_spelled p.cregs (back_of IsRegister p.qregs p.cregs all) is.bits))
