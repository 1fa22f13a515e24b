use Rattle.pq_command.proofs.Numbers.{value_parsed}
use Rattle.pq_command.proofs.options.value_of.Goals as goal

pub returns : goal.returns
returns c = rw c.ok.ensures.value (value_parsed c.args.text.now c.parse.result c.parse.ensures.value.0 c.requires)
