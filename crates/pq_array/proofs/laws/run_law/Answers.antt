use Rattle.pq_array.proofs.Replacing.{run_from_ranks}
use Rattle.pq_array.proofs.laws.run_law.Goals as goal

pub returns : goal.returns
returns c = λ cells first places lives ranks. run_from_ranks cells first places (λ i lt. (lives i lt, ranks i lt))
