-- What has been read so far.
use Rattle.std.specs.Prelude.{ℕ, ◌+◌, Bool, true, false, List, [], ◌∷◌, map, Option, Some, None, bytes_eq, if◌then◌else◌}
use Rattle.pq_text.specs.Program.{RegisterView, TailView, Barrier, Measure, ProgramView}
use Rattle.pq_read.specs.declared.program.Register.{Register}
use Rattle.pq_read.specs.declared.program.TailItem.{TailItem}
use Rattle.pq_read.specs.declared.program.TailItem.TheVariants as items
use Rattle.pq_read.specs.declared.program.Program.{Program}
use Rattle.pq_read.specs.declared.argument.Span.{Span}

-- a program without where it lies in memory
abbrev pub register_view : Register → RegisterView
register_view r = record { name = r.name; size = r.size }

abbrev pub item_view : TailItem → TailView
item_view (items.Barrier wires) = Barrier wires.items
item_view (items.Measure wire bit) = Measure wire bit

abbrev pub view : Program → ProgramView
view p = record {
  qregs = map register_view p.qregs.items;
  cregs = map register_view p.cregs.items;
  gates = p.gates.items;
  tail = map item_view p.tail.items;
}

-- whether the header was read, whether the include was, and the program so far
pub record Env : Type 0 where
  pub header : Bool
  pub included : Bool
  pub program : ProgramView

abbrev pub start : Env
start = record { header = false; included = false; program = record { qregs = []; cregs = []; gates = []; tail = [] } }

-- the first place and the size of a register by its name, where the first register begins at a place
abbrev pub span_from : ℕ → List RegisterView → List ℕ → Option Span
span_from first [] name = None
span_from first (r ∷ rs) name = if bytes_eq r.name name then Some (record { first = first; size = r.size }) else span_from (first + r.size) rs name

abbrev pub is_measurement : TailView → Bool
is_measurement (Barrier wires) = false
is_measurement (Measure wire bit) = true
