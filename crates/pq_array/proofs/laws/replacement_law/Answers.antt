use Rattle.pq_array.proofs.Replacing.{Replaces-one}
use Rattle.pq_array.proofs.laws.replacement_law.Goals as goal

pub returns : goal.returns
returns c = Replaces-one
