-- Which programs there are.
use Rattle.std.specs.Prelude.{◌≢◌, ℕ, ◌<◌, ◌≤◌, List, ◌++◌, length, All, AllPairs}
use Rattle.pq_limits.specs.declared.TheConstants.{MAX_QUBITS, MAX_BITS, MAX_GATES, MAX_ENTRIES}
use Rattle.pq_gate.specs.Circuit.{IsCircuit}
use Rattle.pq_text.specs.Name.{IsRegisterName}
use Rattle.pq_text.specs.Program.{RegisterView, TailView, Barrier, Measure, ProgramView, places_of, entries_of}

-- a register has a lawful name of at most 64 bytes, and at least one wire or bit
pub record IsRegister (r : RegisterView) : Type 0 where
  pub named : IsRegisterName r.name
  pub some : 1 ≤ r.size

-- a barrier over some of the n wires has at least one of them, and none twice
pub record IsBarrier (n : ℕ) (wires : List ℕ) : Type 0 where
  pub some : 1 ≤ length wires
  pub in_range : All (λ w. w < n) wires
  pub distinct : AllPairs (λ v w. v ≢ w) wires

-- a measurement of one of the n wires into one of the m bits
pub record IsMeasurement (n m wire bit : ℕ) : Type 0 where
  pub wire_in_range : wire < n
  pub bit_in_range : bit < m

abbrev pub IsTailEntry : ℕ → ℕ → TailView → Type 0
IsTailEntry n m (Barrier wires) = IsBarrier n wires
IsTailEntry n m (Measure wire bit) = IsMeasurement n m wire bit

-- The program is within the limits, its registers have names of their own over both kinds, and its gates
-- and its tail are on its wires and bits.
pub record WellFormed (p : ProgramView) : Type 0 where
  pub registers : All IsRegister (p.qregs ++ p.cregs)
  pub names : AllPairs (λ q r. q.name ≢ r.name) (p.qregs ++ p.cregs)
  pub qubits : places_of p.qregs ≤ MAX_QUBITS
  pub bits : places_of p.cregs ≤ MAX_BITS
  pub circuit : IsCircuit (places_of p.qregs) p.gates
  pub gates : length p.gates ≤ MAX_GATES
  pub tail : All (IsTailEntry (places_of p.qregs) (places_of p.cregs)) p.tail
  pub entries : entries_of p.tail ≤ MAX_ENTRIES
