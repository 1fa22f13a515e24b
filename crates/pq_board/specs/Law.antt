-- The law of a board: what its words and the views of its passes say at any time.
use Rattle.std.specs.Prelude.{◌≡◌, ℕ, ◌+◌, ◌/◌, ◌<◌, ◌≤◌, ◌⊎◌, cond, nat_eq, nat_lt, List, [], ◌++◌, map, length, slice_index, slice_index_or, All, Contains}
use Rattle.std.specs.List.{concat, filter}
use Rattle.std.specs.List.Sorted.{IsStrictlyIncreasing}
use mathlib.Core.Option.{some}
use lib.ListN.{get_elem?}
use Rattle.pq_limits.specs.declared.TheConstants.{MAX_JOBS}
use Rattle.pq_limits.specs.Limits.{AreWorkers}
use Rattle.pq_array.specs.Counts.{Counts}
use Rattle.pq_board.specs.Sums.{weigh, below, one_if_same}
use Rattle.pq_board.specs.Ways.{way, live_leaves}
use Rattle.pq_board.specs.declared.plan.Plan.{Plan}
use Rattle.pq_board.specs.declared.plan.Lowering.{Lowering}
use Rattle.pq_board.specs.declared.plan.View.{View}

-- What a board may be opened with: the words count the live leaves of their tree, and the places of the jobs, read in order, rise
-- and are live. (That there are few jobs whose places rise is what the type of the jobs says.)
pub record IsPlan (plan : Plan) : Type 0 where
  pub few : length plan.jobs ≤ MAX_JOBS
  pub passes : AreWorkers plan.passes
  pub tree : Counts plan.words.items (live_leaves plan.words.items)
  pub rising : IsStrictlyIncreasing (concat plan.jobs)
  pub live : All (Contains (live_leaves plan.words.items)) (concat plan.jobs)

-- how many leaves the tree has
abbrev pub leaves : Plan → ℕ
leaves plan = length plan.words.items / 2

-- the places of the job of this ticket: none where there is no such job
abbrev pub job : Plan → ℕ → List ℕ
job plan ticket = slice_index_or plan.jobs ticket []

-- 1 where the ticket is late, that is, there is no job for it, and else 0
abbrev pub one_if_late : Plan → ℕ → ℕ
one_if_late plan ticket = cond (nat_lt ticket (length plan.jobs)) 0 1

-- how many of the tickets are late
abbrev pub late : Plan → List ℕ → ℕ
late plan tickets = weigh (one_if_late plan) tickets

-- what a pass has of the passes that the board was opened for: its rights and its late tickets
abbrev pub stake : Plan → View → ℕ
stake plan view = view.rights + late plan view.tickets

-- the nodes whose words were lowered for this place, in order
abbrev pub nodes_at : ℕ → List Lowering → List ℕ
nodes_at place lowered = map (λ l. l.node) (filter (λ l. nat_eq l.place place) lowered)

-- how often the word of this node was lowered
abbrev pub lowerings_of : ℕ → List Lowering → ℕ
lowerings_of node lowered = weigh (λ l. one_if_same l.node node) lowered

-- the list begins with these
abbrev pub BeginsWith : List ℕ → List ℕ → Type 0
BeginsWith xs front = (rest : List ℕ) × (front ++ rest ≡ xs)

-- a lowering is for a ticket of the same pass, which has a job, for a place of that job, and of a node on the way from the
-- place's leaf to the root
pub record IsLowering (plan : Plan) (tickets : List ℕ) (l : Lowering) : Type 0 where
  pub held : Contains tickets l.ticket
  pub early : l.ticket < length plan.jobs
  pub place : Contains (job plan l.ticket) l.place
  pub node : Contains (way (leaves plan) l.place) l.node

-- A pass that isn't spent: it was opened with the board, has a stake of at least 1, and its lowerings are of its own tickets; for
-- each place the lowered nodes are the first ones of the way from its leaf to the root, in order, so each is lowered once.
pub record Stands (plan : Plan) (view : View) : Type 0 where
  pub plan_is : view.plan ≡ plan
  pub staked : 1 ≤ stake plan view
  pub lowerings : All (IsLowering plan view.tickets) view.lowered
  pub in_order : (place : ℕ) → BeginsWith (way (leaves plan) place) (nodes_at place view.lowered)

-- the view that a spent pass leaves behind
abbrev pub spent : View
spent = record { plan = record { jobs = []; words = record { items = []; room = 0 }; passes = 0 }; rights = 0; tickets = []; lowered = [] }

-- The law, for a board that was opened with the plan, with these words and the views of all passes that there have been.
pub record Lawful (plan : Plan) (words : List ℕ) (views : List View) : Type 0 where
  pub opened : IsPlan plan
  pub size : length words ≡ length plan.words.items
  -- the tickets of all passes, taken together, are the numbers below word 0, each once
  pub tickets : (h : ℕ → ℕ) → weigh (λ view. weigh h view.tickets) views ≡ below h (slice_index words 0)
  -- the stakes of all passes are, added up, the number of passes that the board was opened for
  pub stakes : weigh (stake plan) views ≡ plan.passes
  -- each pass is spent, or its stake and its lowerings are in order
  pub each : (seat : ℕ) (view : View) → get_elem? views seat ≡ some view → (view ≡ spent) ⊎ Stands plan view
  -- the word of a node of the tree, and the lowerings of it by all passes, are what the word was at the opening
  pub counts : (node : ℕ) → 1 ≤ node → slice_index words node + weigh (λ view. lowerings_of node view.lowered) views ≡ slice_index plan.words.items node
