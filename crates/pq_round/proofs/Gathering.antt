-- The gates at places with one place more.
use Rattle.std.proofs.Common.{◌≡◌, ℕ, ◌+◌, ◌<◌, List, [], ◌∷◌, ◌++◌, length, get_or, take, Option, Some, None, ap, ◌∙◌}
use Rattle.std.specs.List.{cons_option}
use Rattle.std.proofs.lemmas.List.{take_more, append-nil}
use Rattle.std.proofs.lemmas.List.Elements.{filter_map-append}
use Rattle.pq_gate.specs.declared.gate.Gate.{Gate}
use Rattle.pq_round.specs.Results.{gates_at}

pub gates_more : (cells : List (Option Gate)) (places : List ℕ) (index : ℕ) → index < length places
    → gates_at cells (take (index + 1) places) ≡ gates_at cells (take index places) ++ cons_option (get_or cells (get_or places index 0) None) []
gates_more cells places index below =
    ap (λ (l : List ℕ). gates_at cells l) (take_more places index 0 below)
    ∙ filter_map-append (λ place. get_or cells place None) (take index places) (get_or places index 0 ∷ [])

pub gates_more_some : (cells : List (Option Gate)) (places : List ℕ) (index : ℕ) (gate : Gate) → index < length places
    → get_or cells (get_or places index 0) None ≡ Some gate
    → gates_at cells (take (index + 1) places) ≡ gates_at cells (take index places) ++ gate ∷ []
gates_more_some cells places index gate below is =
    gates_more cells places index below ∙ ap (λ (o : Option Gate). gates_at cells (take index places) ++ cons_option o []) is

pub gates_more_none : (cells : List (Option Gate)) (places : List ℕ) (index : ℕ) → index < length places
    → get_or cells (get_or places index 0) None ≡ None
    → gates_at cells (take (index + 1) places) ≡ gates_at cells (take index places)
gates_more_none cells places index below is =
    gates_more cells places index below ∙ ap (λ (o : Option Gate). gates_at cells (take index places) ++ cons_option o []) is
    ∙ append-nil (gates_at cells (take index places))
