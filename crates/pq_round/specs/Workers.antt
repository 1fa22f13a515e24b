-- What workers that claim tickets have done.
use Rattle.std.specs.Prelude.{◌≡◌, ℕ, ◌+◌, ◌<◌, ◌≤◌, max, nat_lt, Option, List, [], ◌∷◌, ◌++◌, map, length, slice_index_or, All}
use Rattle.std.specs.List.{filter}
use Rattle.pq_gate.specs.declared.gate.Gate.{Gate}
use Rattle.pq_rules.specs.Row.{RowView}
use Rattle.pq_oracle.specs.Outcomes.{WorkedView}
use Rattle.pq_board.specs.Steps.{lowered_places}
use Rattle.pq_board.specs.declared.plan.View.{View}
use Rattle.pq_round.specs.Results.{IsResultOf, all_given_up}

-- the result of the job that its ticket names
pub record IsOfItsJob (cells : List (Option Gate)) (jobs : List (List ℕ)) (rules : List RowView) (worked : WorkedView) : Type 0 where
  pub below : worked.ticket < length jobs
  pub result : IsResultOf cells (slice_index_or jobs worked.ticket []) rules worked.ticket worked

-- The tickets of a pass that have a job are those of the results, in order; the results are those of their jobs; and the lowered
-- places are those that the segments gave up.
pub record HasDone (cells : List (Option Gate)) (rules : List RowView) (view : View) (results : List WorkedView) : Type 0 where
  pub tickets : filter (λ ticket. nat_lt ticket (length view.plan.jobs)) view.tickets ≡ map (λ worked. worked.ticket) results
  pub each : All (IsOfItsJob cells view.plan.jobs rules) results
  pub lowered : lowered_places view.lowered ≡ all_given_up view.plan.jobs results

-- a pass lowered these places, and did nothing else
pub record HasLowered (old new : View) (places : List ℕ) : Type 0 where
  pub plan : new.plan ≡ old.plan
  pub rights : new.rights ≡ old.rights
  pub tickets : new.tickets ≡ old.tickets
  pub lowered : lowered_places new.lowered ≡ lowered_places old.lowered ++ places

-- one more than the greatest of the tickets, or 0
abbrev pub next_of : List ℕ → ℕ
next_of [] = 0
next_of (ticket ∷ tickets) = max (ticket + 1) (next_of tickets)

-- a pass drew a ticket with a job, which is greater than those that it had
pub record HasDrawnOne (old new : View) : Type 0 where
  pub rights : new.rights ≡ old.rights
  pub later : next_of old.tickets < next_of new.tickets
  pub below : next_of new.tickets ≤ length old.plan.jobs
