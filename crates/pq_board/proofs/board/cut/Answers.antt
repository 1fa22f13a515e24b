use Rattle.pq_board.proofs.Allowed.{split_allowed}
use Rattle.pq_board.proofs.board.cut.Goals as goal

pub split_seat-requires : goal.split_seat-requires
split_seat-requires g c =
    let r = c.requires.picked in (
      c.requires.here,
      c.requires.words,
      rw (← r) (split_allowed c.args.table.now.shared.key c.args.seat.now.id c.args.seat.now.me.0 c.args.rights c.requires.plan c.requires.one c.requires.fewer),
    )
