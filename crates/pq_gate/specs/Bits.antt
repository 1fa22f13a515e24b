use Rattle.std.specs.Prelude.{ℕ, Bool, true, false, not, if◌then◌else◌, ◌&&◌, List, [], ◌∷◌, slice_index_or, slice_set}
use Rattle.std.specs.Bool.{beq}

-- A basis state of n wires is a list of n bits: the bit at w is the value of wire w.

-- the value of a wire
abbrev pub bit : List Bool → ℕ → Bool
bit x wire = slice_index_or x wire false

-- the state with the wire's value changed where `by` is 1
abbrev pub toggled : List Bool → ℕ → Bool → List Bool
toggled x wire by = slice_set x wire (if by then not (bit x wire) else bit x wire)

-- whether two states are one
abbrev pub same_bits : List Bool → List Bool → Bool
same_bits [] [] = true
same_bits (p ∷ x) (q ∷ y) = beq p q && same_bits x y
same_bits [] (q ∷ y) = false
same_bits (p ∷ x) [] = false
