-- What a list of gates is rewritten to.
use Rattle.std.specs.Prelude.{ℕ, ◌+◌, List, [], ◌∷◌, ◌++◌, map, take, drop, if◌then◌else◌}
use Rattle.pq_gate.specs.declared.gate.Gate.{Gate}
use Rattle.pq_rules.specs.Renaming.{renamed}
use Rattle.pq_match.specs.Redex.{RedexView, is_chosen, last_place}

-- the gates that aren't chosen, where the first gate has the place `from`
abbrev pub unchosen : List ℕ → ℕ → List Gate → List Gate
unchosen places from [] = []
unchosen places from (gate ∷ gates) =
    if is_chosen places from then unchosen places (from + 1) gates else gate ∷ unchosen places (from + 1) gates

-- The chosen gates leave, the replacement with its wires renamed stands where the last of them stood, and all
-- other gates keep their order.
abbrev pub rewritten : List Gate → List Gate → RedexView → List Gate
rewritten gates replacement redex =
    unchosen redex.places 0 (take (last_place redex.places + 1) gates)
    ++ (map (renamed redex.wires) replacement ++ drop (last_place redex.places + 1) gates)
