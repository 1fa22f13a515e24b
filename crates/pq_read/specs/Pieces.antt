-- The tokens of a text in pieces and a rest.
use Rattle.std.specs.Prelude.{◌&&◌, List, [], ◌∷◌, codes, bytes_eq, if◌then◌else◌}
use Rattle.pq_lex.specs.declared.token.Form.{Form}
use Rattle.pq_lex.specs.declared.token.Form.TheVariants.{Word, Semicolon, RightBrace}
use Rattle.pq_lex.specs.Token.{TokenView}
use Rattle.pq_read.specs.Faults.{is_form}

pub record Cut : Type 0 where
  pub pieces : List (List TokenView)
  pub rest : List TokenView

-- Where a cut stands: at the start of a piece, or in one that ends with a mark.
pub data Within : Type 0 where
  Front : Within
  Until : (mark : Form) → Within

-- A piece that begins with the word `gate` ends with its first `}`, every other piece with its first `;`.
abbrev pub ends_with : Within → TokenView → Form
ends_with Front t = if is_form Word t && bytes_eq (codes "gate") t.bytes then RightBrace else Semicolon
ends_with (Until mark) t = mark

-- a token in front of what was cut, where it ends its piece or not
abbrev pub ended_by : TokenView → Cut → Cut
ended_by t c = record { pieces = (t ∷ []) ∷ c.pieces; rest = c.rest }

abbrev pub joined_to : TokenView → List (List TokenView) → List TokenView → Cut
joined_to t [] rest = record { pieces = []; rest = t ∷ rest }
joined_to t (p ∷ ps) rest = record { pieces = (t ∷ p) ∷ ps; rest = rest }

-- The rest is what is left after the last piece.
unfoldable pub cut : Within → List TokenView → Cut
cut within [] = record { pieces = []; rest = [] }
cut within (t ∷ ts) =
    if is_form (ends_with within t) t then ended_by t (cut Front ts)
    else joined_to t (cut (Until (ends_with within t)) ts).pieces (cut (Until (ends_with within t)) ts).rest
