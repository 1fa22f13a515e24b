-- Jobs for tests: their places are those of gates, and none of these is a tombstone.
use Rattle.std.proofs.Common.{arith, ◌≡◌, ℕ, zero, suc, ◌+◌, ◌<◌, Some, List, [], ◌∷◌, map, length, get_or, refl, subst}
use Rattle.std.specs.Prelude.{All, Contains}
use Rattle.std.specs.List.{concat}
use Rattle.std.proofs.lemmas.List.Elements.{All-append, All-nil, All-weaker}
use Rattle.pq_gate.specs.declared.gate.Gate.{Gate}
use Rattle.pq_array.specs.Cells.{IsLive, live_places}
use Rattle.pq_board.proofs.Trials.{all_live}

is_live : (gates : List Gate) (place : ℕ) → place < length gates → IsLive (map Some gates) place
is_live [] place lt = absurd (omega arith)
is_live (g ∷ gs) zero lt = refl
is_live (g ∷ gs) (suc place) lt = is_live gs place (omega arith)

pub jobs_are_live : (gates : List Gate) (jobs : List (List ℕ)) → All (All (λ place. place < length gates)) jobs → All (λ places. All (IsLive (map Some gates)) places) jobs
jobs_are_live gates jobs inside =
    All-weaker (All (λ place. place < length gates)) (λ places. All (IsLive (map Some gates)) places)
    (λ places below. All-weaker (λ place. place < length gates) (IsLive (map Some gates)) (is_live gates) places below) jobs inside

is_listed : (gates : List Gate) (place : ℕ) → place < length gates → Contains (live_places (map Some gates)) place
is_listed gates place lt = let e : 0 + place ≡ place = omega arith in subst (Contains (live_places (map Some gates))) e (all_live gates 0 place lt)

pub jobs_are_listed : (gates : List Gate) (jobs : List (List ℕ)) → All (All (λ place. place < length gates)) jobs → All (Contains (live_places (map Some gates))) (concat jobs)
jobs_are_listed gates [] inside = All-nil (Contains (live_places (map Some gates)))
jobs_are_listed gates (j ∷ js) inside =
    All-append (Contains (live_places (map Some gates))) j (concat js) (λ k d lt. is_listed gates (get_or j k d) (inside 0 j (omega arith) k d lt))
    (jobs_are_listed gates js (λ k d lt. inside (suc k) d (omega (arith, lt))))
