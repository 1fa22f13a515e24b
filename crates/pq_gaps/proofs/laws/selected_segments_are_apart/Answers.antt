use Rattle.pq_gaps.proofs.Selections.{selected_contained, selected_far, segments_apart}
use Rattle.pq_gaps.proofs.laws.selected_segments_are_apart.Goals as goal

pub returns-clause-fingers : goal.returns-clause-fingers
returns-clause-fingers c = selected_contained

pub returns-clause-far : goal.returns-clause-far
returns-clause-far c = selected_far

pub returns-clause-segments : goal.returns-clause-segments
returns-clause-segments c = segments_apart
