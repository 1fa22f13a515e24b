use Rattle.std.proofs.Common.{All, take}
use Rattle.pq_rules.specs.Row.{IsSound}
use Rattle.pq_rules.proofs.rules.rows_are_sound.Given as goal

abbrev pub invariant-loop-row : goal.invariant-loop-row
invariant-loop-row l = All IsSound (take l.row-index l.rows)
