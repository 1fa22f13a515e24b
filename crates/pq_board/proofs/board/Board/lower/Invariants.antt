use Rattle.pq_board.proofs.board.Board.lower.Given as goal

-- the place and the ticket are those that are asked for
abbrev pub ghosts-climb : goal.ghosts-climb
ghosts-climb a = record { ticket = a.ticket; place = a.place }
