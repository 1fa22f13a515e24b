use Rattle.pq_rules.proofs.BuiltinRows.{builtin_rows_sound}
use Rattle.pq_rules.proofs.laws.builtin_rows_are_sound.Goals as goal

pub returns : goal.returns
returns c = builtin_rows_sound
