use Rattle.std.proofs.Common.{refl, codes, []}
use Rattle.pq_command.specs.CommandLine.{name_of as switch_name}
use Rattle.pq_top.proofs.Noting.{usage_noted}
use Rattle.pq_top.proofs.notes.note_usage.Goals as goal
use Rattle.pq_command.specs.declared.fault.UsageFault.TheVariants.{Words, Command, Missing}

pub returns-in-Words : goal.returns-in-Words
returns-in-Words g c = rw c.in-Words.is (usage_noted _ (codes "words") [] Words refl c.put.ensures)

pub returns-in-Command : goal.returns-in-Command
returns-in-Command g c = rw c.in-Command.is (usage_noted _ (codes "command") [] Command refl c.put-in-Command.ensures)

pub returns-in-Missing : goal.returns-in-Missing
returns-in-Missing g c =
    rw c.in-Missing.is (usage_noted _ (codes "missing ") (switch_name c.in-Missing.switch) (Missing c.in-Missing.switch) refl c.note_switch-in-Missing.ensures)
