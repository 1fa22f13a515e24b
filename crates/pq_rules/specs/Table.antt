use Rattle.std.specs.Prelude.{ℕ, List, [], ◌∷◌}
use Rattle.pq_gate.specs.declared.gate.Eighths.TheVariants.{T, S, Z, Sdg, Tdg}
use Rattle.pq_gate.specs.declared.gate.Gate.{Gate}
use Rattle.pq_gate.specs.declared.gate.Gate.TheVariants.{H, X, Phase, Cx}
use Rattle.pq_rules.specs.Row.{RowView}

-- a row: its wires, the pattern, the replacement, and the phase
abbrev pub row : ℕ → List Gate → List Gate → ℕ → RowView
row wires pattern replacement phase = record { wires = wires; pattern = pattern; replacement = replacement; phase = phase }

-- the wires of a row
abbrev pub a : ℕ
a = 0

abbrev pub b : ℕ
b = 1

abbrev pub c : ℕ
c = 2

-- the built-in rows, in their order; the first has the number 1
unfoldable pub builtin_rows : List RowView
builtin_rows =
    row 1 (H a ∷ H a ∷ []) [] 0 ∷
    row 1 (X a ∷ X a ∷ []) [] 0 ∷
    row 2 (Cx a b ∷ Cx a b ∷ []) [] 0 ∷
    row 1 (Phase T a ∷ Phase T a ∷ []) (Phase S a ∷ []) 0 ∷
    row 1 (Phase T a ∷ Phase Sdg a ∷ []) (Phase Tdg a ∷ []) 0 ∷
    row 1 (Phase T a ∷ Phase Tdg a ∷ []) [] 0 ∷
    row 1 (Phase S a ∷ Phase S a ∷ []) (Phase Z a ∷ []) 0 ∷
    row 1 (Phase S a ∷ Phase Z a ∷ []) (Phase Sdg a ∷ []) 0 ∷
    row 1 (Phase S a ∷ Phase Sdg a ∷ []) [] 0 ∷
    row 1 (Phase S a ∷ Phase Tdg a ∷ []) (Phase T a ∷ []) 0 ∷
    row 1 (Phase Z a ∷ Phase S a ∷ []) (Phase Sdg a ∷ []) 0 ∷
    row 1 (Phase Z a ∷ Phase Z a ∷ []) [] 0 ∷
    row 1 (Phase Z a ∷ Phase Sdg a ∷ []) (Phase S a ∷ []) 0 ∷
    row 1 (Phase Sdg a ∷ Phase T a ∷ []) (Phase Tdg a ∷ []) 0 ∷
    row 1 (Phase Sdg a ∷ Phase S a ∷ []) [] 0 ∷
    row 1 (Phase Sdg a ∷ Phase Z a ∷ []) (Phase S a ∷ []) 0 ∷
    row 1 (Phase Sdg a ∷ Phase Sdg a ∷ []) (Phase Z a ∷ []) 0 ∷
    row 1 (Phase Tdg a ∷ Phase T a ∷ []) [] 0 ∷
    row 1 (Phase Tdg a ∷ Phase S a ∷ []) (Phase T a ∷ []) 0 ∷
    row 1 (Phase Tdg a ∷ Phase Tdg a ∷ []) (Phase Sdg a ∷ []) 0 ∷
    row 1 (H a ∷ X a ∷ H a ∷ []) (Phase Z a ∷ []) 0 ∷
    row 1 (H a ∷ Phase Z a ∷ H a ∷ []) (X a ∷ []) 0 ∷
    row 1 (X a ∷ Phase T a ∷ X a ∷ []) (Phase Tdg a ∷ []) 1 ∷
    row 1 (X a ∷ Phase S a ∷ X a ∷ []) (Phase Sdg a ∷ []) 2 ∷
    row 1 (X a ∷ Phase Z a ∷ X a ∷ []) (Phase Z a ∷ []) 4 ∷
    row 1 (X a ∷ Phase Sdg a ∷ X a ∷ []) (Phase S a ∷ []) 6 ∷
    row 1 (X a ∷ Phase Tdg a ∷ X a ∷ []) (Phase T a ∷ []) 7 ∷
    row 1 (H a ∷ Phase S a ∷ H a ∷ Phase T a ∷ []) (Phase Sdg a ∷ H a ∷ Phase Tdg a ∷ []) 1 ∷
    row 1 (H a ∷ Phase S a ∷ H a ∷ Phase S a ∷ []) (Phase Sdg a ∷ H a ∷ []) 1 ∷
    row 1 (H a ∷ Phase S a ∷ H a ∷ Phase Z a ∷ []) (Phase Sdg a ∷ H a ∷ Phase S a ∷ []) 1 ∷
    row 1 (H a ∷ Phase S a ∷ H a ∷ Phase Sdg a ∷ []) (Phase Sdg a ∷ H a ∷ Phase Z a ∷ []) 1 ∷
    row 1 (Phase T a ∷ H a ∷ Phase S a ∷ H a ∷ []) (Phase Tdg a ∷ H a ∷ Phase Sdg a ∷ []) 1 ∷
    row 1 (Phase S a ∷ H a ∷ Phase S a ∷ H a ∷ []) (H a ∷ Phase Sdg a ∷ []) 1 ∷
    row 1 (Phase Z a ∷ H a ∷ Phase S a ∷ H a ∷ []) (Phase S a ∷ H a ∷ Phase Sdg a ∷ []) 1 ∷
    row 1 (Phase Sdg a ∷ H a ∷ Phase S a ∷ H a ∷ []) (Phase Z a ∷ H a ∷ Phase Sdg a ∷ []) 1 ∷
    row 1 (H a ∷ Phase Sdg a ∷ H a ∷ Phase S a ∷ []) (Phase S a ∷ H a ∷ Phase Z a ∷ []) 7 ∷
    row 1 (H a ∷ Phase Sdg a ∷ H a ∷ Phase Z a ∷ []) (Phase S a ∷ H a ∷ Phase Sdg a ∷ []) 7 ∷
    row 1 (H a ∷ Phase Sdg a ∷ H a ∷ Phase Sdg a ∷ []) (Phase S a ∷ H a ∷ []) 7 ∷
    row 1 (H a ∷ Phase Sdg a ∷ H a ∷ Phase Tdg a ∷ []) (Phase S a ∷ H a ∷ Phase T a ∷ []) 7 ∷
    row 1 (Phase S a ∷ H a ∷ Phase Sdg a ∷ H a ∷ []) (Phase Z a ∷ H a ∷ Phase S a ∷ []) 7 ∷
    row 1 (Phase Z a ∷ H a ∷ Phase Sdg a ∷ H a ∷ []) (Phase Sdg a ∷ H a ∷ Phase S a ∷ []) 7 ∷
    row 1 (Phase Sdg a ∷ H a ∷ Phase Sdg a ∷ H a ∷ []) (H a ∷ Phase S a ∷ []) 7 ∷
    row 1 (Phase Tdg a ∷ H a ∷ Phase Sdg a ∷ H a ∷ []) (Phase T a ∷ H a ∷ Phase S a ∷ []) 7 ∷
    row 2 (X a ∷ Cx a b ∷ X a ∷ []) (Cx a b ∷ X b ∷ []) 0 ∷
    row 2 (Phase Z b ∷ Cx a b ∷ Phase Z b ∷ []) (Cx a b ∷ Phase Z a ∷ []) 0 ∷
    row 2 (H a ∷ H b ∷ Cx a b ∷ H a ∷ H b ∷ []) (Cx b a ∷ []) 0 ∷
    row 2 (H a ∷ H b ∷ Cx a b ∷ H b ∷ H a ∷ []) (Cx b a ∷ []) 0 ∷
    row 2 (H b ∷ H a ∷ Cx a b ∷ H a ∷ H b ∷ []) (Cx b a ∷ []) 0 ∷
    row 2 (H b ∷ H a ∷ Cx a b ∷ H b ∷ H a ∷ []) (Cx b a ∷ []) 0 ∷
    row 3 (Cx a b ∷ Cx b c ∷ Cx a b ∷ []) (Cx b c ∷ Cx a c ∷ []) 0 ∷
    row 3 (Cx b c ∷ Cx a b ∷ Cx b c ∷ []) (Cx a b ∷ Cx a c ∷ []) 0 ∷
    row 2 (Cx a b ∷ Cx b a ∷ Cx a b ∷ Cx b a ∷ []) (Cx b a ∷ Cx a b ∷ []) 0 ∷
    []
