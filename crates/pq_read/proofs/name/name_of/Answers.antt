use Rattle.pq_read.proofs.Names.{name_is_ascii}
use Rattle.pq_read.proofs.name.name_of.Goals as goal

pub unreachable-requires : goal.unreachable-requires
unreachable-requires c = c.in-Err.ensures.cases.0 (name_is_ascii c.args.bytes.now c.requires)
