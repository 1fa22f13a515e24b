-- What the registers of one kind keep.
use Rattle.std.specs.Prelude.{◌≡◌, ℕ, ◌+◌, ◌≤◌, true, false, List}
use Rattle.std.specs.List.{AllByRecursion}
use Rattle.pq_limits.specs.declared.TheConstants.{MAX_PLACES}
use Rattle.pq_text.specs.Program.{RegisterView, places_of}
use Rattle.pq_read.specs.declared.argument.Span.{Span}
use Rattle.pq_read.specs.declared.argument.Argument.{Argument}
use Rattle.pq_read.specs.Words.{is_name}

-- a register has a name and at least one place
pub record IsKept (r : RegisterView) : Type 0 where
  pub named : is_name r.name ≡ true
  pub some : 1 ≤ r.size

-- the registers have so many places together, and at most as many as the limit
pub record AreRegisters (total : ℕ) (regs : List RegisterView) : Type 0 where
  pub counted : total ≡ places_of regs
  pub within : total ≤ MAX_PLACES
  pub each : AllByRecursion IsKept regs

-- the span of a register by its name
pub record IsSpan (span : Span) (name : List ℕ) : Type 0 where
  pub named : is_name name ≡ true
  pub some : 1 ≤ span.size
  pub within : span.first + span.size ≤ MAX_PLACES

-- an argument has some places, and only one where it isn't a whole register
pub record IsArgument (a : Argument) : Type 0 where
  pub some : 1 ≤ a.count
  pub within : a.first + a.count ≤ MAX_PLACES
  pub one : a.whole ≡ false → a.count ≡ 1

-- a register that may join these
pub record IsNew (regs : List RegisterView) (r : RegisterView) : Type 0 where
  pub kept : IsKept r
  pub room : places_of regs + r.size ≤ MAX_PLACES
