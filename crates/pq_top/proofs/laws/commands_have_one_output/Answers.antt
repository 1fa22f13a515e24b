use Rattle.pq_top.proofs.OneOutput.{one_output}
use Rattle.pq_top.proofs.laws.commands_have_one_output.Goals as goal

pub returns : goal.returns
returns c = one_output
