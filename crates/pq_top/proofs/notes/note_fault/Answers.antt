use Rattle.std.proofs.Common.{◌∙◌}
use Rattle.pq_top.proofs.Noting.{fault_noted}
use Rattle.pq_top.proofs.notes.note_fault.Goals as goal

pub returns : goal.returns
returns g c = fault_noted _ c.args.fault _ _ c.number.ensures (c.as_bytes.ensures.value ∙ c.name.ensures) c.put.ensures
