use Rattle.std.proofs.Common.{arith, length}
use Rattle.pq_array.specs.Cells.{live}
use Rattle.pq_loop.proofs.Compacting.{cells_left_le}
use Rattle.pq_loop.proofs.Kept.{kept_of_view, after_of_view}
use Rattle.pq_loop.proofs.looping.Loop.round.Goals as goal

pub overflow_add-after-2 : goal.overflow_add-after-2
overflow_add-after-2 g c =
    omega (
      arith,
      (kept_of_view c.self.invariant c.self.view_is c.requires.going c.in_ok-array.ensures.round c.in_ok-array.ensures.stand (omega (arith, c.in_ok-array.ensures.cells, cells_left_le (length c.self.inside.array) (length (live c.in_ok-array.array))))).bound,
    )

pub invariant_of-after : goal.invariant_of-after
invariant_of-after g c =
    kept_of_view c.self.invariant c.self.view_is c.requires.going c.in_ok-array.ensures.round c.in_ok-array.ensures.stand
    (omega (arith, c.in_ok-array.ensures.cells, cells_left_le (length c.self.inside.array) (length (live c.in_ok-array.array))))

pub returns-clause-same : goal.returns-clause-same
returns-clause-same g c = (after_of_view c.self.invariant c.self.view_is c.requires.going c.in_ok-array.ensures.round).same

pub returns-clause-covered : goal.returns-clause-covered
returns-clause-covered g c = (after_of_view c.self.invariant c.self.view_is c.requires.going c.in_ok-array.ensures.round).covered

pub returns-clause-bound : goal.returns-clause-bound
returns-clause-bound g c = (after_of_view c.self.invariant c.self.view_is c.requires.going c.in_ok-array.ensures.round).bound

pub returns-clause-some : goal.returns-clause-some
returns-clause-some g c = (after_of_view c.self.invariant c.self.view_is c.requires.going c.in_ok-array.ensures.round).some
