use Rattle.pq_rules.proofs.LiftLaws.{same_renamed}
use Rattle.pq_rules.proofs.laws.same_on_every_register.Goals as goal

pub returns-clause-circuits : goal.returns-clause-circuits
returns-clause-circuits c = same_renamed

pub returns-clause-rows : goal.returns-clause-rows
returns-clause-rows c = λ n e row sound is. same_renamed row.wires n row.phase e row.pattern row.replacement is sound.same
