-- The reader goes over a line as one piece, and over lines one after another.
use Rattle.std.proofs.Common.{◌≡◌, ℕ, Bool, true, false, ◌&&◌, ◌==◌, cond, List, [], ◌∷◌, ◌++◌, map, Ok, codes, bytes_eq, refl, sym, ap, ◌∙◌, subst, append_assoc}
use Rattle.std.specs.List.{AllByRecursion}
use Rattle.pq_lex.specs.declared.token.Form.{Form}
use Rattle.pq_lex.specs.declared.token.Form.TheVariants.{Word, Semicolon, RightBrace}
use Rattle.pq_lex.specs.Token.{TokenView, number_of}
use Rattle.pq_read.specs.declared.program.Options.{Options}
use Rattle.pq_read.specs.Faults.{◌>>=◌, is_form}
use Rattle.pq_read.specs.Environment.{Env}
use Rattle.pq_read.specs.After.{after}
use Rattle.pq_read.specs.Pieces.{Cut, Front, Until, ended_by, joined_to, cut}
use Rattle.pq_read.specs.Reads.{read_pieces, read_tokens}
use Rattle.pq_write.proofs.Shapes.{Shape, shape_of, semicolon}
use Rattle.pq_write.proofs.Steps.{Steps}

-- whether a shape ends a piece
abbrev pub is_end : Shape → Bool
is_end s = number_of s.form == number_of Semicolon

abbrev pub IsInner : Shape → Type 0
IsInner s = is_end s ≡ false

-- a `;` ends the shapes, and there is none before it
abbrev pub EndsOnce : List Shape → Type 0
EndsOnce [] = ⊥
EndsOnce (s ∷ []) = is_end s ≡ true
EndsOnce (s ∷ t ∷ more) = IsInner s × EndsOnce (t ∷ more)

-- whether the shapes begin with the word `gate`
abbrev pub begins_gate : List Shape → Bool
begins_gate [] = false
begins_gate (s ∷ more) = (number_of s.form == number_of Word) && bytes_eq (codes "gate") s.bytes

-- the shapes of a line, which is one piece
pub record IsLine (shapes : List Shape) : Type 0 where
  pub ends : EndsOnce shapes
  pub other : begins_gate shapes ≡ false

pub ends_after : (body : List Shape) → AllByRecursion IsInner body → EndsOnce (body ++ semicolon ∷ [])
ends_after [] h = refl
ends_after (s ∷ []) h = (h.0, refl)
ends_after (s ∷ t ∷ more) h = (h.0, ends_after (t ∷ more) h.1)

-- a piece in front of what was cut
abbrev pub before_cut : List TokenView → Cut → Cut
before_cut piece c = record { pieces = piece ∷ c.pieces; rest = c.rest }

cut_to_end : (front later : List TokenView) → EndsOnce (map shape_of front) → cut (Until Semicolon) (front ++ later) ≡ before_cut front (cut Front later)
unfolding cut
cut_to_end [] later h = absurd h
cut_to_end (t ∷ []) later h =
    λ i. cond (h i) (ended_by t (cut Front later)) (joined_to t (cut (Until Semicolon) later).pieces (cut (Until Semicolon) later).rest)
cut_to_end (t ∷ u ∷ ts) later h =
    let more : List TokenView = u ∷ ts ++ later in
    (λ i. cond (h.0 i) (ended_by t (cut Front more)) (joined_to t (cut (Until Semicolon) more).pieces (cut (Until Semicolon) more).rest))
    ∙ ap (λ (c : Cut). joined_to t c.pieces c.rest) (cut_to_end (u ∷ ts) later h.1)

step : Form → TokenView → List TokenView → Cut
step form t ts = cond (is_form form t) (ended_by t (cut Front ts)) (joined_to t (cut (Until form) ts).pieces (cut (Until form) ts).rest)

-- a line is the first piece, and then what follows is cut
pub cut_line : (front later : List TokenView) → IsLine (map shape_of front) → cut Front (front ++ later) ≡ before_cut front (cut Front later)
unfolding cut step
cut_line [] later line = absurd line.ends
cut_line (t ∷ ts) later line =
    ap (λ b. step (cond b RightBrace Semicolon) t (ts ++ later)) line.other ∙ cut_to_end (t ∷ ts) later line.ends

-- a line that is read, whatever follows it
pub steps_by : (options : Options) (before next : Env) (shapes : List Shape) → IsLine shapes
    → ((front : List TokenView) → map shape_of front ≡ shapes → after options before front ≡ Ok next) → Steps options shapes before next
unfolding read_tokens read_pieces
steps_by options before next shapes line reads = λ front later shaped.
    let c : cut Front (front ++ later) ≡ before_cut front (cut Front later) = cut_line front later (subst IsLine (sym shaped) line) in
    (λ i. read_pieces options before (c i).pieces (c i).rest)
    ∙ ap (λ r. r >>= λ F. read_pieces options F (cut Front later).pieces (cut Front later).rest) (reads front shaped)

-- tokens in two parts of these shapes
pub record Parts (one two : List Shape) (front : List TokenView) : Type 0 where
  pub first : List TokenView
  pub second : List TokenView
  pub whole : front ≡ first ++ second
  pub first_shaped : map shape_of first ≡ one
  pub second_shaped : map shape_of second ≡ two

pub parts_of : (one two : List Shape) (front : List TokenView) → map shape_of front ≡ one ++ two → Parts one two front
parts_of [] two front h = record { first = []; second = front; whole = refl; first_shaped = refl; second_shaped = h }
parts_of (s ∷ one) two [] h = cc
parts_of (s ∷ one) two (t ∷ ts) h =
    let same : shape_of t ≡ s = cc in
    let rest : map shape_of ts ≡ one ++ two = cc in
    let more = parts_of one two ts rest in
    record {
      first = t ∷ more.first;
      second = more.second;
      whole = ap (λ (l : List TokenView). t ∷ l) more.whole;
      first_shaped = λ i. same i ∷ more.first_shaped i;
      second_shaped = more.second_shaped;
    }

-- nothing is read over nothing
pub steps_none : (options : Options) (E : Env) → Steps options [] E E
steps_none options E [] later shaped = refl
steps_none options E (t ∷ ts) later shaped = cc

-- one part and then another
pub steps_join : (options : Options) (one two : List Shape) (E F G : Env) → Steps options one E F → Steps options two F G → Steps options (one ++ two) E G
steps_join options one two E F G first second = λ front later shaped.
    let p = parts_of one two front shaped in
    ap (λ l. read_tokens options E (l ++ later)) p.whole
    ∙ (ap (read_tokens options E) (append_assoc p.first p.second later)
    ∙ (first p.first (p.second ++ later) p.first_shaped ∙ second p.second later p.second_shaped))

-- a token of a shape at a place
abbrev pub placed : Shape → ℕ → ℕ → TokenView
placed s line column = record { form = s.form; bytes = s.bytes; line = line; column = column }

-- P holds of the tokens of these shapes, at whatever places they stand
abbrev pub Placed : List Shape → (List TokenView → Type 0) → Type 0
Placed [] P = P []
Placed (s ∷ more) P = (line column : ℕ) → Placed more (λ rest. P (placed s line column ∷ rest))

pub placed_all : (shapes : List Shape) (P : List TokenView → Type 0) → Placed shapes P → (front : List TokenView) → map shape_of front ≡ shapes → P front
placed_all [] P h [] shaped = h
placed_all [] P h (t ∷ ts) shaped = cc
placed_all (s ∷ more) P h [] shaped = cc
placed_all (s ∷ more) P h (t ∷ ts) shaped =
    let same : s ≡ shape_of t = cc in
    let rest : map shape_of ts ≡ more = cc in
    subst (λ (u : Shape). P (placed u t.line t.column ∷ ts)) same (placed_all more (λ (l : List TokenView). P (placed s t.line t.column ∷ l)) (h t.line t.column) ts rest)
