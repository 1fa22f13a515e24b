use Rattle.std.proofs.Common.{arith}
use Rattle.pq_rules.proofs.BoundLaws.{IsWithin-more}
use Rattle.pq_rules.proofs.column.turned_where.Goals as goal

pub turned_by-requires : goal.turned_by-requires
turned_by-requires c = IsWithin-more 32768 c.requires (omega arith)
