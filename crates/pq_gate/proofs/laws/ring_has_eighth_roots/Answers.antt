use Rattle.pq_gate.proofs.RingLaws.{plus-turned_4, root-turned, root-root, rooted_cancel}
use Rattle.pq_gate.proofs.laws.ring_has_eighth_roots.Goals as goal

pub returns-clause-opposite : goal.returns-clause-opposite
returns-clause-opposite c = plus-turned_4

pub returns-clause-root_two : goal.returns-clause-root_two
returns-clause-root_two c = root-turned

pub returns-clause-square : goal.returns-clause-square
returns-clause-square c = root-root

pub returns-clause-cancel : goal.returns-clause-cancel
returns-clause-cancel c = rooted_cancel
