use Rattle.pq_array.proofs.TreeLaws.{Counts-one, Counts-live_leaf, Counts-other_leaf, Counts-sum}
use Rattle.pq_array.proofs.laws.tree_laws.Goals as goal

pub returns-clause-only : goal.returns-clause-only
returns-clause-only c = Counts-one

pub returns-clause-live_leaf : goal.returns-clause-live_leaf
returns-clause-live_leaf c = Counts-live_leaf

pub returns-clause-other_leaf : goal.returns-clause-other_leaf
returns-clause-other_leaf c = Counts-other_leaf

pub returns-clause-sum : goal.returns-clause-sum
returns-clause-sum c = Counts-sum
