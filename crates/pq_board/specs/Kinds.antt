-- The kinds of step on a board, as what each does to the words and to the views of all passes.
use Rattle.std.specs.Prelude.{◌≡◌, ◌≢◌, ℕ, ◌+◌, ◌-◌, ◌<◌, ◌≤◌, List, [], ◌∷◌, ◌++◌, length, slice_index, slice_set, Contains}
use mathlib.Core.Option.{some}
use lib.ListN.{get_elem?}
use Rattle.pq_board.specs.Ways.{way}
use Rattle.pq_board.specs.Law.{leaves, job, nodes_at, spent}
use Rattle.pq_board.specs.Steps.{unused, without_rights, with_ticket, with_lowered, with_both, at_nodes}
use Rattle.pq_board.specs.declared.plan.Plan.{Plan}
use Rattle.pq_board.specs.declared.plan.View.{View}

-- the pass at this seat belongs to the board, and has this view
pub record Seated (plan : Plan) (views : List View) (seat : ℕ) (view : View) : Type 0 where
  pub here : get_elem? views seat ≡ some view
  pub plan_is : view.plan ≡ plan

-- One step of one pass, or of two that join. No other pass's view changes.
pub data Step (plan : Plan) (words : List ℕ) (views : List View) : List ℕ → List View → Type 0 where
  -- a pass gives rights to a new one
  split : (seat : ℕ) (view : View) (rights : ℕ) → Seated plan views seat view → 1 ≤ rights → rights < view.rights →
      Step plan words views words (slice_set views seat (without_rights rights view) ++ unused plan rights ∷ [])
  -- a pass draws the number in word 0, which becomes one more
  claim : (seat : ℕ) (view : View) → Seated plan views seat view → 1 ≤ view.rights →
      Step plan words views (slice_set words 0 (slice_index words 0 + 1)) (slice_set views seat (with_ticket (slice_index words 0) view))
  -- a pass lowers the next node on the way of a place of one of its jobs
  lower : (seat : ℕ) (view : View) (ticket place node : ℕ) (rest : List ℕ) → Seated plan views seat view → 1 ≤ node →
      Contains view.tickets ticket → ticket < length plan.jobs → Contains (job plan ticket) place →
      nodes_at place view.lowered ++ node ∷ rest ≡ way (leaves plan) place →
      Step plan words views (slice_set words node (slice_index words node - 1)) (slice_set views seat (with_lowered (at_nodes ticket place (node ∷ [])) view))
  -- a pass takes over all of another, which is spent
  join : (seat other : ℕ) (view from : View) → Seated plan views seat view → Seated plan views other from → seat ≢ other →
      Step plan words views words (slice_set (slice_set views seat (with_both view from)) other spent)
  -- a pass looks at word 0
  survey : Step plan words views words views
