use Rattle.pq_gaps.proofs.Selections.{selection_some, selection_only}
use Rattle.pq_gaps.proofs.laws.selected_is_one_list.Goals as goal

pub returns-clause-some : goal.returns-clause-some
returns-clause-some c = selection_some

pub returns-clause-only : goal.returns-clause-only
returns-clause-only c = selection_only
