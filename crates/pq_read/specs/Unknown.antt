-- Why no fault of what is begun is known yet.
use Rattle.std.specs.Prelude.{◌≡◌, ◌≢◌, ◌⊎◌, ℕ, ◌<◌, Bool, true, false, ◌==◌, ◌&&◌, List, ◌++◌, length, codes, bytes_eq}
use Rattle.pq_lex.specs.declared.token.Form.TheVariants.{Semicolon, Malformed}
use Rattle.pq_lex.specs.Token.{TokenView, number_of}
use Rattle.pq_lex.specs.Front.{blank_length, front}
use Rattle.pq_lex.specs.Lex.{Position, tokens}
use Rattle.pq_lex.specs.Added.{extended, IsUndecided, IsUnsure}
use Rattle.pq_read.specs.declared.known.Expected.TheVariants.{Name, Nothing}
use Rattle.pq_read.specs.Faults.{is_form, head}
use Rattle.pq_read.specs.Environment.{Env}
use Rattle.pq_read.specs.Expected.{expected_after, behind_first}

-- A `;` is next, whatever follows.
abbrev pub EndsNext : Position → Type 0
EndsNext q = (t : TokenView) × (is_form Semicolon t ≡ true) × ((more : List ℕ) → head (tokens (extended q more)) ≡ t)

-- Neither a token nor that a malformed one is next is known whatever follows.
pub record IsUncertain (q : Position) : Type 0 where
  pub token : IsUnsure q.rest
  pub malformed : (blank_length q.rest ≢ 0) ⊎ (IsUndecided q.rest ⊎ ((number_of (front q.rest).form == number_of Malformed) ≡ false))

abbrev pub begins_barrier : Env → List TokenView → Bool
begins_barrier E ts = E.header && bytes_eq (codes "barrier") (head ts).bytes

-- Of the tokens that are the same whatever follows, those before a `;` tell no fault: they are fewer than a statement has
-- that is no barrier, or they are those of a barrier and go on as one.
pub record HasNoKnownFault (E : Env) (p : Position) : Type 0 where
  pub sure : List TokenView
  pub left : Position
  pub same : (more : List ℕ) → tokens (extended p more) ≡ sure ++ tokens (extended left more)
  pub stops : EndsNext left ⊎ IsUncertain left
  pub few : begins_barrier E sure ≡ false → length sure < 16
  pub straight : begins_barrier E sure ≡ true → expected_after E.program.qregs Name (behind_first sure) ≢ Nothing
