use Rattle.std.proofs.Common.{ℕ, List, ◌≤◌, length, ap, ◌∙◌, arith}
use Rattle.pq_limits.specs.declared.TheConstants.{MAX_JOBS}
use Rattle.pq_board.specs.Law.{IsPlan}
use Rattle.pq_board.specs.Ways.{live_leaves}
use Rattle.pq_board.proofs.Opening.{plan_of, opened_law, long_enough}
use Rattle.pq_board.proofs.board.Board.open.Goals as goal
use Rattle.pq_board.proofs.board.Board.open.Goals.{After-as_slice-2}

-- it is a plan
is_plan : (c : After-as_slice-2) → IsPlan record { jobs = c.args.jobs; words = c.put.new.self; passes = c.args.passes }
is_plan c =
    let few : length c.args.jobs ≤ MAX_JOBS = omega (arith, c.count-rising.ensures.count, c.count-rising.ensures.few) in
    plan_of (record { jobs = c.args.jobs; words = c.put.new.self; passes = c.args.passes }) c.args.words.items c.put.ensures.items few c.requires.passes c.requires.tree c.count-rising.ensures.rising c.requires.live

pub of_words-requires : goal.of_words-requires
of_words-requires c =
    rw c.as_slice-2.ensures
    (opened_law (record { jobs = c.args.jobs; words = c.put.new.self; passes = c.args.passes }) c.args.words.items c.put.ensures.items (long_enough c.args.words.items (live_leaves c.args.words.items) c.requires.tree)
    (is_plan (goal.at.of_words-requires c).After-as_slice-2))

pub invariant_of-result : goal.invariant_of-result
invariant_of-result c = (
  c.in-Ok.ensures.5,
  c.in-Ok.ensures.0 ∙ ap (λ (w : List ℕ). length w) c.as_slice-2.ensures,
  c.in-Ok.ensures.1,
  is_plan (goal.at.invariant_of-result c).After-as_slice-2,
)
