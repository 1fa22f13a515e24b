-- That the pieces of a text leave nothing out.
use Rattle.std.specs.Prelude.{◌≡◌, List, [], ◌++◌, flat_map, Err, Ok}
use Rattle.std.specs.List.{AllByRecursion}
use Rattle.pq_lex.specs.Token.{TokenView}
use Rattle.pq_read.specs.declared.refusal.Refusal.{Refusal}
use Rattle.pq_read.specs.declared.program.Options.{Options}
use Rattle.pq_read.specs.Environment.{Env}
use Rattle.pq_read.specs.After.{piece_at}
use Rattle.pq_read.specs.Pieces.{Front, cut}

-- a piece that is accepted is read to its last token
abbrev pub IsReadWhole : Options → Env → List TokenView → Type 0
IsReadWhole options E piece = (x : Env × List TokenView) → piece_at options E piece ≡ Ok x → x.1 ≡ []

abbrev pub IsRefused : Options → Env → List TokenView → Type 0
IsRefused options E ts = (fault : Refusal) × (piece_at options E ts ≡ Err fault)

-- The pieces and the rest are all tokens in order. Whatever was read before, each piece is read whole or refused,
-- and no rest is a statement: where it isn't the end of the text alone, the text is refused.
pub record AreCutWell (ts : List TokenView) : Type 0 where
  pub all : flat_map (λ piece. piece) (cut Front ts).pieces ++ (cut Front ts).rest ≡ ts
  pub pieces : (options : Options) (E : Env) → AllByRecursion (IsReadWhole options E) (cut Front ts).pieces
  pub rest : (options : Options) (E : Env) → IsRefused options E (cut Front ts).rest
