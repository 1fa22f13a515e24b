-- What bytes added at the end of a text change: only what stands after a token that three bytes follow.
use Rattle.std.specs.Prelude.{◌≡◌, ◌⊎◌, ℕ, ◌+◌, ◌<◌, ◌≤◌, true, false, ◌==◌, List, [], ◌∷◌, ◌++◌, length, drop, slice_index, if◌then◌else◌}
use Rattle.std.specs.List.{position_or_len}
use Rattle.pq_lex.specs.declared.token.Form.TheVariants.{Malformed}
use Rattle.pq_lex.specs.Token.{TokenView, number_of, is_last}
use Rattle.pq_lex.specs.Front.{is_newline, blank_length, front}
use Rattle.pq_lex.specs.Lex.{placed, Position, moved, next_line, tokens, from_token}

-- the same place, with more bytes at the end of the text
abbrev pub extended : Position → List ℕ → Position
extended p more = record { rest = p.rest ++ more; line = p.line; column = p.column }

-- after what is skipped as one at the start
abbrev pub after_blank : Position → Position
after_blank p = if slice_index p.rest 0 == 10 then next_line p else moved (blank_length p.rest) p

-- the token at the start where nothing is skipped, and the position after it
abbrev pub first_token : Position → TokenView
first_token p = placed (front p.rest) (record { line = p.line; column = p.column }) p.rest

abbrev pub after_token : Position → Position
after_token p = moved (front p.rest).count p

-- What is skipped at the start is skipped whatever is added, if a byte follows it. The token at the start is
-- the same whatever is added, if it isn't malformed and three bytes follow it (as many as decide that the
-- `e` after a number begins no exponent). Bytes that are added change only what stands after.
pub record ChangesLater (p : Position) (more : List ℕ) : Type 0 where
  pub blank : 1 ≤ blank_length p.rest → blank_length p.rest < length p.rest
      → (tokens p ≡ tokens (after_blank p)) × (tokens (extended p more) ≡ tokens (extended (after_blank p) more))
  pub token : blank_length p.rest ≡ 0 → (number_of (front p.rest).form == number_of Malformed) ≡ false → (front p.rest).count + 3 ≤ length p.rest
      → (tokens p ≡ from_token (first_token p) (tokens (after_token p))) × (tokens (extended p more) ≡ from_token (first_token p) (tokens (extended (after_token p) more)))

-- The tokens are a malformed one alone, whatever is added.
pub record StaysMalformed (p : Position) : Type 0 where
  pub token : TokenView
  pub malformed : token.form ≡ Malformed
  pub always : (more : List ℕ) → tokens (extended p more) ≡ token ∷ []

-- Nothing tells yet what further bytes make of the start: it is one byte at most, or a `"` whose line doesn't end.
abbrev pub IsUndecided : List ℕ → Type 0
IsUndecided text = (length text < 2) ⊎ (slice_index text 0 ≡ 34) × (length (drop 1 text) ≤ position_or_len is_newline (drop 1 text))

-- No token at the start is sure to stay: all of the text is skipped as one, or nothing is skipped, and the token is the
-- last one or has fewer than three bytes behind it.
abbrev pub IsUnsure : List ℕ → Type 0
IsUnsure text = (blank_length text ≡ length text) ⊎ (blank_length text ≡ 0) × ((is_last (front text).form ≡ true) ⊎ (length text < (front text).count + 3))
