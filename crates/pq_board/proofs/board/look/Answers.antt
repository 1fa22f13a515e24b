use Rattle.pq_board.proofs.Allowed.{look_allowed}
use Rattle.pq_board.proofs.Whole.{are_first}
use Rattle.pq_board.proofs.board.look.Goals as goal

pub load-requires : goal.load-requires
load-requires c = (
  c.requires.here,
  c.requires.words,
  look_allowed c.args.table.now.shared.key c.args.table.now.shared.table_id.slots c.args.seat.now.id c.args.seat.now.me c.requires.plan,
)

pub returns-clause-first : goal.returns-clause-first
returns-clause-first c = λ whole. are_first c.args.seat.now.me.0.tickets c.load.result (c.load.ensures.2.2.whole whole)
