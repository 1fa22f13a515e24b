use Rattle.std.proofs.Common.{◌∙◌}
use Rattle.pq_top.proofs.Noting.{switch_noted}
use Rattle.pq_top.proofs.notes.note_switch.Goals as goal

pub returns : goal.returns
returns g c = switch_noted _ c.args.fault.now _ c.args.switch (c.as_bytes.ensures.value ∙ c.name.ensures) c.put.ensures
