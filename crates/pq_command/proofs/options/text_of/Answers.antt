use Rattle.std.proofs.Common.{true, false}
use Rattle.clap.specs.Words.{found_of, rows_of}
use Rattle.pq_command.proofs.Rows.{first_at, none_given, flag_given, text_given}
use Rattle.pq_command.proofs.options.text_of.Goals as goal

pub returns-in_default : goal.returns-in_default
returns-in_default c =
    let found = found_of c.args.matches.now in
    none_given (rows_of found) c.args.switch (first_at found c.args.switch _ _ c.name.ensures c.in_default.ensures)

pub returns-in-DropBarriers : goal.returns-in-DropBarriers
returns-in-DropBarriers c =
    let found = found_of c.args.matches.now in
    flag_given (rows_of found) c.args.switch c.in-Some.text.now true c.in-DropBarriers.is (first_at found c.args.switch _ _ c.name.ensures c.in-Some.ensures) c.if-eq.ensures

pub returns-in-DropBarriers-2 : goal.returns-in-DropBarriers-2
returns-in-DropBarriers-2 c =
    let found = found_of c.args.matches.now in
    flag_given (rows_of found) c.args.switch c.in-Some.text.now false c.in-DropBarriers-2.is (first_at found c.args.switch _ _ c.name.ensures c.in-Some.ensures) c.if-eq.ensures

pub returns-in_default-switch : goal.returns-in_default-switch
returns-in_default-switch c =
    let found = found_of c.args.matches.now in
    text_given (rows_of found) c.args.switch c.in-Some.text.now c.in_default-switch.not-DropBarriers (first_at found c.args.switch _ _ c.name.ensures c.in-Some.ensures)
