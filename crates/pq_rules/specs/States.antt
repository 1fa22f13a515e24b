use Rattle.std.specs.Prelude.{ℕ, zero, suc, ◌/◌, ◌%◌, ◌==◌, Bool, List, [], ◌∷◌}

-- The basis state of n wires with this number: bit w of the number is the value of wire w.
abbrev pub state : ℕ → ℕ → List Bool
state zero number = []
state (suc n) number = (number % 2 == 1) ∷ state n (number / 2)
