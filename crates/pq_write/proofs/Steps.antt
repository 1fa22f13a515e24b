-- What it means that a reader goes over a part of a text.
use Rattle.std.specs.Prelude.{◌≡◌, List, ◌++◌, map}
use Rattle.pq_lex.specs.Token.{TokenView}
use Rattle.pq_read.specs.declared.program.Options.{Options}
use Rattle.pq_read.specs.Environment.{Env}
use Rattle.pq_read.specs.Reads.{read_tokens}
use Rattle.pq_write.proofs.Shapes.{Shape, shape_of}

-- Whatever follows tokens of these shapes, the reader goes over them, and what it has read becomes another.
abbrev pub Steps : Options → List Shape → Env → Env → Type 0
Steps options shapes before after = (front later : List TokenView) → map shape_of front ≡ shapes
    → read_tokens options before (front ++ later) ≡ read_tokens options after later
