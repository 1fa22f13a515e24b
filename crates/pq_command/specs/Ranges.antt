-- The ranges of the numbers.
use Rattle.std.specs.Prelude.{◌≤◌}
use Rattle.pq_limits.specs.Limits.{IsOmega, AreWorkers, AreQubits}
use Rattle.pq_limits.specs.declared.TheConstants.{MAX_GATES}
use Rattle.pq_command.specs.declared.settings.Settings.{Settings}
use Rattle.pq_command.specs.declared.settings.Settings.TheVariants.{Opt, Check, Gen, Bench}

-- the numbers are in their ranges
abbrev pub IsInRange : Settings → Type 0
IsInRange (Opt omega workers drop_barriers) = IsOmega omega × AreWorkers workers
IsInRange (Check omega drop_barriers) = IsOmega omega
IsInRange (Gen seed qubits gates) = AreQubits qubits × (gates ≤ MAX_GATES)
IsInRange (Bench omega workers seed qubits gates) = IsOmega omega × AreWorkers workers × AreQubits qubits × (gates ≤ MAX_GATES)
