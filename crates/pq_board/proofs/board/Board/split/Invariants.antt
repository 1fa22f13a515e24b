use Rattle.pq_board.proofs.board.Board.split.Given as goal

-- the new pass gets the rights that are asked for
abbrev pub ghosts-cut : goal.ghosts-cut
ghosts-cut a = record { rights = a.rights }
