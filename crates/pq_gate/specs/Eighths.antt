use Rattle.std.specs.Prelude.{ℕ}
use Rattle.pq_gate.specs.declared.gate.Eighths.{Eighths}
use Rattle.pq_gate.specs.declared.gate.Eighths.TheVariants.{T, S, Z, Sdg, Tdg}

-- how many eighths of a whole turn the value 1 is turned by
abbrev pub eighths_of : Eighths → ℕ
eighths_of T = 1
eighths_of S = 2
eighths_of Z = 4
eighths_of Sdg = 6
eighths_of Tdg = 7
