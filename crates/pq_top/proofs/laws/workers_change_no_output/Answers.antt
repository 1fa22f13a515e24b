use Rattle.pq_top.proofs.OneOutput.{made_by_others, one_output_of_others}
use Rattle.pq_top.proofs.laws.workers_change_no_output.Goals as goal

pub returns : goal.returns
returns c = record { one = one_output_of_others; made = made_by_others }
