use Rattle.std.proofs.Common.{refl, rules}
use Rattle.pq_read.proofs.Marks.{none_marked}
use Rattle.pq_read.proofs.barrier_wires.BarrierWires.new.Goals as goal

pub invariant_of-result : goal.invariant_of-result
invariant_of-result c = none_marked c.new.result.items c.in_ok-vec.field-0.items 4096 c.new.ensures.items refl (c.in_ok-vec.ensures.items_if_clones_equal (search rules))
