use Rattle.std.proofs.Common.{arith}
use Rattle.pq_board.proofs.Keeping.{few_drawn, opens}
use Rattle.pq_board.proofs.StepLaws.{step_keeps, next_room, word_least}
use Rattle.pq_board.proofs.laws.board_law.Goals as goal

pub returns-clause-opened : goal.returns-clause-opened
returns-clause-opened c = opens

pub returns-clause-kept : goal.returns-clause-kept
returns-clause-kept c = step_keeps

pub returns-clause-least : goal.returns-clause-least
returns-clause-least c = word_least

pub returns-clause-few : goal.returns-clause-few
returns-clause-few c = λ plan words views law. omega (arith, few_drawn plan words views law, law.opened.passes.most)

pub returns-clause-room : goal.returns-clause-room
returns-clause-room c = next_room
