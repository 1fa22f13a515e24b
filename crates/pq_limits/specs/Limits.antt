-- What is within the limits.
use Rattle.std.specs.Prelude.{ℕ, ◌≤◌}
use Rattle.pq_limits.specs.declared.TheConstants.{MIN_OMEGA, MAX_OMEGA, MIN_WORKERS, MAX_WORKERS, MIN_QUBITS, MAX_QUBITS}

-- a number lies between two, with both
pub record IsBetween (low high number : ℕ) : Type 0 where
  pub least : low ≤ number
  pub most : number ≤ high

-- a length of a window, in gates
abbrev pub IsOmega : ℕ → Type 0
IsOmega = IsBetween MIN_OMEGA MAX_OMEGA

-- a number of workers
abbrev pub AreWorkers : ℕ → Type 0
AreWorkers = IsBetween MIN_WORKERS MAX_WORKERS

-- a number of qubits of a generated program
abbrev pub AreQubits : ℕ → Type 0
AreQubits = IsBetween MIN_QUBITS MAX_QUBITS
