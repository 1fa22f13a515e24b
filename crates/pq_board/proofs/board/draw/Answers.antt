use Rattle.pq_board.proofs.Allowed.{claim_allowed}
use Rattle.pq_board.proofs.board.draw.Goals as goal

pub fetch_add-requires : goal.fetch_add-requires
fetch_add-requires c = (
  c.requires.here,
  c.requires.words,
  claim_allowed c.args.table.now.shared.key c.args.table.now.shared.table_id.slots c.args.seat.now.id c.args.seat.now.me c.requires.plan c.requires.right,
)
