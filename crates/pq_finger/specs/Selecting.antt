use Rattle.std.specs.Prelude.{ℕ, ◌+◌, ◌*◌, Option, Some, None}

-- the least gap that may be selected after the last selected one
abbrev pub least_after : ℕ → Option ℕ → ℕ
least_after omega None = 0
least_after omega (Some gap) = gap + 2 * omega
