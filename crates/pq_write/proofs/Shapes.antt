-- The tokens of the canonical text without their places, and what it means that a text has them.
use Rattle.std.specs.Prelude.{◌≡◌, ℕ, ◌-◌, List, [], ◌∷◌, ◌++◌, map, flat_map, codes, decimal, nat_lt, if◌then◌else◌}
use Rattle.pq_lex.specs.declared.token.Form.{Form}
use Rattle.pq_lex.specs.declared.token.Form.TheVariants.{Word, Number, Quoted, Semicolon, Comma, LeftBracket, RightBracket, Arrow, Missing}
use Rattle.pq_lex.specs.Token.{TokenView}
use Rattle.pq_lex.specs.Lex.{Position, tokens}
use Rattle.pq_gate.specs.declared.gate.Gate.{Gate}
use Rattle.pq_gate.specs.Ports.{wires_of}
use Rattle.pq_text.specs.Program.{RegisterView, TailView, Barrier, Measure, ProgramView}
use Rattle.pq_text.specs.Print.{gate_word}

-- a token without its place
pub record Shape : Type 0 where
  pub form : Form
  pub bytes : List ℕ

abbrev pub shape : Form → List ℕ → Shape
shape form bytes = record { form = form; bytes = bytes }

abbrev pub shape_of : TokenView → Shape
shape_of t = shape t.form t.bytes

abbrev pub comma : Shape
comma = shape Comma (codes ",")

abbrev pub semicolon : Shape
semicolon = shape Semicolon (codes ";")

abbrev pub arrow : Shape
arrow = shape Arrow (codes "->")

abbrev pub missing : Shape
missing = shape Missing []

-- the two lines that each text begins with
abbrev pub header_shapes : List Shape
header_shapes = shape Word (codes "OPENQASM") ∷ shape Number (codes "2.0") ∷ semicolon ∷ []

abbrev pub include_shapes : List Shape
include_shapes = shape Word (codes "include") ∷ shape Quoted (codes "\"qelib1.inc\"") ∷ semicolon ∷ []

-- `NAME[INDEX]`
abbrev pub indexed_shapes : List ℕ → ℕ → List Shape
indexed_shapes name index = shape Word name ∷ shape LeftBracket (codes "[") ∷ shape Number (decimal index) ∷ shape RightBracket (codes "]") ∷ []

-- a wire or a bit by its register and its index there
abbrev pub place_shapes : List RegisterView → ℕ → List Shape
place_shapes [] n = []
place_shapes (r ∷ rs) n = if nat_lt n r.size then indexed_shapes r.name n else place_shapes rs (n - r.size)

abbrev pub register_shapes : List ℕ → RegisterView → List Shape
register_shapes word r = shape Word word ∷ indexed_shapes r.name r.size ++ semicolon ∷ []

-- arguments with a comma between each two
abbrev pub joined_shapes : List (List Shape) → List Shape
joined_shapes [] = []
joined_shapes (a ∷ []) = a
joined_shapes (a ∷ b ∷ more) = a ++ (comma ∷ joined_shapes (b ∷ more))

abbrev pub statement_shapes : List ℕ → List (List Shape) → List Shape
statement_shapes word arguments = shape Word word ∷ joined_shapes arguments ++ semicolon ∷ []

abbrev pub gate_shapes : List RegisterView → Gate → List Shape
gate_shapes qregs gate = statement_shapes (gate_word gate) (map (place_shapes qregs) (wires_of gate))

abbrev pub tail_shapes : List RegisterView → List RegisterView → TailView → List Shape
tail_shapes qregs cregs (Barrier wires) = statement_shapes (codes "barrier") (map (place_shapes qregs) wires)
tail_shapes qregs cregs (Measure wire bit) = shape Word (codes "measure") ∷ place_shapes qregs wire ++ (arrow ∷ (place_shapes cregs bit ++ semicolon ∷ []))

-- the lines of a whole text
abbrev pub program_shapes : ProgramView → List Shape
program_shapes p =
    header_shapes
    ++ (include_shapes
    ++ (flat_map (register_shapes (codes "qreg")) p.qregs
    ++ (flat_map (register_shapes (codes "creg")) p.cregs
    ++ (flat_map (gate_shapes p.qregs) p.gates
    ++ flat_map (tail_shapes p.qregs p.cregs) p.tail))))

abbrev pub position : List ℕ → ℕ → ℕ → Position
position text line column = record { rest = text; line = line; column = column }

-- the tokens of a text that something follows, and where that begins
pub record LexedAt (text : List ℕ) (shapes : List Shape) (rest : List ℕ) (line column : ℕ) : Type 0 where
  pub front : List TokenView
  pub next_line : ℕ
  pub next_column : ℕ
  pub shaped : map shape_of front ≡ shapes
  pub lexed : tokens (position (text ++ rest) line column) ≡ front ++ tokens (position rest next_line next_column)

-- Wherever the text stands and whatever follows it, its tokens have these shapes, and then come those of
-- what follows.
abbrev pub Lexes : List ℕ → List Shape → Type 0
Lexes text shapes = (rest : List ℕ) (line column : ℕ) → LexedAt text shapes rest line column
