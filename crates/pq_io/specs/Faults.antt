-- Counts of faults.
use Rattle.std.specs.Prelude.{◌≡◌, ℕ, ◌+◌, ◌-◌, ◌^◌, ◌<◌, ◌⊎◌, min}

-- In a call a count of faults rose: it is greater at the exit than at the entry, or stands at its last value.
abbrev pub Rose : ℕ → ℕ → Type 0
Rose old new = (old < new) ⊎ (new ≡ 2 ^ 64 - 1)

-- one more, until the count stands at its last value
abbrev pub counted : ℕ → ℕ
counted count = min (count + 1) (2 ^ 64 - 1)
