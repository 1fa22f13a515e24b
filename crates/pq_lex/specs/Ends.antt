-- Where a text surely ends with a token, whatever follows it.
use Rattle.std.specs.Prelude.{◌≡◌, ◌⊎◌, ℕ, ◌+◌, ◌<◌, ◌≤◌, Bool, true, false, ◌==◌, List, [], ◌∷◌, length, take, if◌then◌else◌}
use Rattle.pq_lex.specs.declared.ends.Mode.{Mode}
use Rattle.pq_lex.specs.declared.ends.Mode.TheVariants.{Code, AfterSlash, Comment, Quote}
use Rattle.pq_lex.specs.declared.token.Form.TheVariants.{Semicolon, Missing, Malformed}
use Rattle.pq_lex.specs.Token.{TokenView, number_of}
use Rattle.pq_lex.specs.Front.{is_newline, is_unquotable, fronted}
use Rattle.pq_lex.specs.Lex.{Place, placed, lex, Position, tokens}
use Rattle.pq_lex.specs.Added.{extended}

-- the mode behind a byte among the tokens
abbrev pub after_code : ℕ → Mode
after_code b = if b == 34 then Quote else if b == 47 then AfterSlash else Code

abbrev pub after_byte : Mode → ℕ → Mode
after_byte Code b = after_code b
after_byte AfterSlash b = if b == 47 then Comment else after_code b
after_byte Comment b = if is_newline b then Code else Comment
after_byte Quote b = if is_unquotable b then Code else Quote

-- the mode behind some bytes
abbrev pub mode_after : Mode → List ℕ → Mode
mode_after m [] = m
mode_after m (b ∷ rest) = mode_after (after_byte m b) rest

-- The text, which begins in a mode, ends with a `;` among the tokens.
abbrev pub IsEnded : Mode → List ℕ → Type 0
IsEnded m [] = ⊥
IsEnded m (b ∷ []) = (after_byte m b ≡ Code) × (b ≡ 59)
IsEnded m (b ∷ c ∷ rest) = IsEnded (after_byte m b) (c ∷ rest)

-- the last end after a byte: behind it, where it is an end, else where it was
abbrev pub EndsAt : ℕ → ℕ → Mode → ℕ → ℕ → Type 0
EndsAt behind b mode old new = ((new ≡ behind) × (b ≡ 59) × (mode ≡ Code)) ⊎ ((new ≡ old) × (b ≡ 59 → mode ≡ Code → ⊥))

-- Of the first so many bytes of a text that begins in a mode, the last end is this one, 0 where there is none.
pub record EndsLast (m : Mode) (text : List ℕ) (count upto : ℕ) : Type 0 where
  pub ended : 1 ≤ count → IsEnded m (take count text)
  pub within : count ≤ upto
  pub last : (k : ℕ) → count ≤ k → k < upto → IsEnded m (take (k + 1) text) → ⊥

-- the tokens of a text, where others follow in place of its end
abbrev pub spliced : List TokenView → List TokenView → List TokenView
spliced [] more = []
spliced (t ∷ ts) more = if number_of t.form == number_of Missing then more else t ∷ spliced ts more

-- the missing token at the end of a text
abbrev pub missing_at : Place → TokenView
missing_at at = placed (fronted Missing 0) at []

-- by whether a token is malformed, and whether it is missing
abbrev pub ByLast : Bool → Bool → Type 0 → Type 0 → Type 0 → Type 0
ByLast true missing malformed ended more = malformed
ByLast false true malformed ended more = ended
ByLast false false malformed ended more = more

-- The tokens end with a malformed one, or with a `;` and then the missing one at a place. Where they begin behind
-- a `;`, the missing one may stand alone.
abbrev pub AreClosed : Place → Bool → List TokenView → Type 0
AreClosed end behind [] = ⊥
AreClosed end behind (t ∷ ts) =
    ByLast (number_of t.form == number_of Malformed) (number_of t.form == number_of Missing)
    (ts ≡ [])
    ((behind ≡ true) × (t ≡ missing_at end) × (ts ≡ []))
    (AreClosed end (number_of t.form == number_of Semicolon) ts)

-- What follows a text adds tokens, from where the text ends, and changes none.
pub record EndsForGood (p : Position) : Type 0 where
  pub end : Place
  pub some : 1 ≤ end.column
  pub within : end.line + end.column ≤ p.line + (p.column + length p.rest)
  pub closed : (behind : Bool) → AreClosed end behind (tokens p)
  pub joined : (more : List ℕ) → tokens (extended p more) ≡ spliced (tokens p) (lex 0 end more)
