use Rattle.std.proofs.Common.{◌∙◌, ap, Ok, codes, subst, sym}
use Rattle.clap.specs.Words.{found_of, rows_of}
use Rattle.pq_command.proofs.Faultless.{no_command, no_fault, no_word, one_fault}
use Rattle.pq_command.proofs.InRange.{settings_in_range}
use Rattle.pq_command.specs.Ranges.{IsInRange}
use Rattle.pq_command.proofs.Rows.{first_is}
use Rattle.pq_command.proofs.reading.asked_of.Goals as goal

pub returns-in_default-clause-asked : goal.returns-in_default-clause-asked
returns-in_default-clause-asked c =
    let found = found_of c.args.matches.now in
    no_word (rows_of found) (first_is found (codes "command") _ c.in_default.ensures)

pub returns-in_default-command_named-clause-asked : goal.returns-in_default-command_named-clause-asked
returns-in_default-command_named-clause-asked c =
    let found = found_of c.args.matches.now in
    no_command (rows_of found) c.in-Some.word.now (first_is found (codes "command") _ c.in-Some.ensures) c.in_default-command_named.ensures

pub returns-in-Some-first_fault-clause-asked : goal.returns-in-Some-first_fault-clause-asked
returns-in-Some-first_fault-clause-asked c =
    let found = found_of c.args.matches.now in
    one_fault (rows_of found) c.in-Some.word.now _ _ (first_is found (codes "command") _ c.in-Some.ensures) c.in-Some-command_named.ensures c.in-Some-first_fault.ensures

pub returns-in-None-clause-asked : goal.returns-in-None-clause-asked
returns-in-None-clause-asked c =
    let found = found_of c.args.matches.now in
    ap Ok c.with_numbers.ensures ∙ no_fault (rows_of found) c.in-Some.word.now _ (first_is found (codes "command") _ c.in-Some.ensures) c.in-Some-command_named.ensures c.in-None.ensures

pub returns-in-None-clause-in_range : goal.returns-in-None-clause-in_range
returns-in-None-clause-in_range c = subst IsInRange (sym c.with_numbers.ensures) (settings_in_range c.in-Some-command_named.command (rows_of (found_of c.args.matches.now)) (sym c.in-None.ensures))
