-- The line of a redex.
use Rattle.std.proofs.Common.{◌≡◌, ℕ, List, [], ◌∷◌, ◌++◌, take, codes, decimal, ap, ◌∙◌, append_assoc}
use Rattle.std.specs.List.{flat_map}
use Rattle.pq_match.specs.declared.redex.Redex.{Redex}
use Rattle.pq_match.specs.Found.{seen}
use Rattle.pq_top.specs.Outputs.{spaced, redex_line}

-- what is appended piece by piece
pub redex_said : (redex : Redex) (wires before two three four text : List ℕ) → before ≡ [] →
    two ≡ before ++ (codes "redex " ++ decimal redex.row) → three ≡ two ++ codes " at" → four ≡ three ++ flat_map spaced (take redex.count redex.places) →
    text ≡ four ++ (10 ∷ []) → text ≡ redex_line (seen redex wires)
unfolding redex_line
redex_said redex wires before two three four text e0 e2 e3 e4 e5 =
    let places : List ℕ = flat_map spaced (take redex.count redex.places) in
    rw (e5, e4, e3, e2, e0)
    (ap (λ l. codes "redex " ++ l)
    (append_assoc (decimal redex.row ++ codes " at") places (10 ∷ []) ∙ append_assoc (decimal redex.row) (codes " at") (places ++ (10 ∷ []))))
