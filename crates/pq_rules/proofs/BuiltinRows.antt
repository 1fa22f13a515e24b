-- The built-in rows are sound.
use Rattle.std.specs.Prelude.{All}
use Rattle.pq_rules.specs.Row.{IsSound}
use Rattle.pq_rules.specs.Table.{builtin_rows}
use Rattle.pq_rules.proofs.TableLaws

pub builtin_rows_sound : All IsSound builtin_rows
builtin_rows_sound = TableLaws.builtin_rows_sound
