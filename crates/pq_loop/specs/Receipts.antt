-- What the receipt of a round says.
use Rattle.pq_board.specs.Steps.{Numbers}
use Rattle.pq_method.specs.Opt.{RoundNumbers}

-- the selected fingers of a round as jobs and as claimed, and the gates before and after it as opened and closed
abbrev pub receipt_of : RoundNumbers → Numbers
receipt_of round = record { jobs = round.step.selected; claimed = round.step.selected; opened = round.before; closed = round.after }
