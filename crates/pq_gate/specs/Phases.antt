use Rattle.std.specs.Prelude.{◌≡◌, ℕ, ◌⊎◌}
use Rattle.pq_gate.specs.declared.gate.Sum.{Sum}
use Rattle.pq_gate.specs.declared.gate.Sum.TheVariants.{Nothing, One, Two}
use Rattle.pq_gate.specs.Eighths.{eighths_of}

-- The least gates that turn by k eighths, for k from 0 to 7: none, one, or two where k is 3 or 5.
abbrev pub TurnsBy : Sum → ℕ → Type 0
TurnsBy Nothing k = k ≡ 0
TurnsBy (One eighths) k = k ≡ eighths_of eighths
TurnsBy Two k = (k ≡ 3) ⊎ (k ≡ 5)
