-- Where the registers begin, by their names.
use Rattle.std.specs.Prelude.{◌≡◌, ℕ, List, String}
use Rattle.std.specs.BTreeMap.{BTreeMap, get_by_text}
use Rattle.pq_text.specs.Program.{RegisterView}
use Rattle.pq_read.specs.declared.argument.Span.{Span}
use Rattle.pq_read.specs.Environment.{span_from}

-- the map has the span of each name
pub record AreSpans {Y : Type 0} (regs : List RegisterView) (spans : BTreeMap (String Y) Span) : Type 0 where
  pub found : (name : List ℕ) → get_by_text spans name ≡ span_from 0 regs name
