-- The results of a round.
use Rattle.std.specs.Prelude.{◌≡◌, ℕ, ◌-◌, ◌<◌, cond, Option, None, List, [], length, drop, slice_index_or}
use Rattle.std.specs.List.{filter_map, flat_map, sum_by}
use Rattle.pq_gate.specs.declared.gate.Gate.{Gate}
use Rattle.pq_rules.specs.Row.{RowView}
use Rattle.pq_oracle.specs.Ora.{Ora}
use Rattle.pq_oracle.specs.Outcomes.{WorkedView}
use Rattle.pq_board.specs.Sums.{weigh}

-- the gates at some places
abbrev pub gates_at : List (Option Gate) → List ℕ → List Gate
gates_at cells places = filter_map (λ place. slice_index_or cells place None) places

-- a segment that was worked: under this ticket, of the gates at these places, under these rules
pub record IsResultOf (cells : List (Option Gate)) (places : List ℕ) (rules : List RowView) (ticket : ℕ) (worked : WorkedView) : Type 0 where
  pub ticket_is : worked.ticket ≡ ticket
  pub input_is : worked.input ≡ gates_at cells places
  pub rules_are : worked.rules ≡ rules
  pub oracle : Ora rules (gates_at cells places) worked.answer

-- one result for each job, in their order; the tickets are the jobs' numbers
pub record AreResults (cells : List (Option Gate)) (jobs : List (List ℕ)) (rules : List RowView) (results : List WorkedView) : Type 0 where
  pub count : length results ≡ length jobs
  pub each : (ticket : ℕ) (d : WorkedView) → ticket < length jobs
      → IsResultOf cells (slice_index_or jobs ticket []) rules ticket (slice_index_or results ticket d)

-- the places that a worked segment gives up: where it was improved, those of its job from the index on that is the length of its output
abbrev pub given_up : List (List ℕ) → WorkedView → List ℕ
given_up jobs worked = cond worked.answer.improved (drop (length worked.answer.gates) (slice_index_or jobs worked.ticket [])) []

-- the places that all of them give up
abbrev pub all_given_up : List (List ℕ) → List WorkedView → List ℕ
all_given_up jobs results = flat_map (given_up jobs) results

-- the same numbers, each as often, in whatever order: their weights, added up, are the same whatever each number weighs
abbrev pub AreSameNumbers : List ℕ → List ℕ → Type 0
AreSameNumbers xs ys = (h : ℕ → ℕ) → weigh h xs ≡ weigh h ys

-- how many gates the oracle took away in all
abbrev pub removed_gates : List WorkedView → ℕ
removed_gates results = sum_by (λ worked. length worked.input - length worked.answer.gates) results
