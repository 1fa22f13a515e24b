-- What is seen on a wire, in the order of its numbers.
use Rattle.std.specs.Prelude.{ℕ, List, [], ◌∷◌, slice_index_or}
use Rattle.pq_gate.specs.declared.gate.Eighths.TheVariants.{T, S, Z, Sdg, Tdg}
use Rattle.pq_gate.specs.declared.role.Role.TheVariants as role
use Rattle.pq_rules.specs.declared.seen.Seen.{Seen}
use Rattle.pq_rules.specs.declared.seen.Seen.TheVariants as seen

abbrev pub sights : List Seen
sights =
    seen.Plays role.H ∷ seen.Plays role.X ∷ seen.Plays role.Control ∷ seen.Plays role.Target ∷
    seen.Plays (role.Phase T) ∷ seen.Plays (role.Phase S) ∷ seen.Plays (role.Phase Z) ∷ seen.Plays (role.Phase Sdg) ∷ seen.Plays (role.Phase Tdg) ∷
    seen.Nothing ∷ seen.Unclear ∷ []

-- what has this number
abbrev pub seen_at : ℕ → Seen
seen_at number = slice_index_or sights number seen.Unclear
