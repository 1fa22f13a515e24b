use Rattle.std.specs.Prelude.{ℕ, List, ◌++◌, take, drop}

-- the list with this part in place of its items from the number `first` up to the number `end`
abbrev pub spliced : {A : Type 0} → List A → ℕ → ℕ → List A → List A
spliced items first end part = take first items ++ (part ++ drop end items)
