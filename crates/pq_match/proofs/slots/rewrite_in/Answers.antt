use Rattle.std.proofs.Common.{◌<◌, length, sym, ap, ◌∙◌, arith}
use Rattle.std.specs.Option.{option_copied}
use Rattle.pq_links.specs.Slots.{gates_in}
use Rattle.pq_match.specs.Found.{seen}
use Rattle.pq_match.proofs.Working.{exchanged_first, exchanged_fewer, exchanged_settled, placed_own}
use Rattle.pq_match.proofs.slots.rewrite_in.Goals as goal

pub returns-clause-some : goal.returns-clause-some
returns-clause-some c =
    let numbered = sym c.row.ensures.row ∙ ap option_copied c.unwrap-row.ensures in
    let in_run = rw c.replacement-count.ensures.replacement at c.in-Some.ensures in
    exchanged_first c.args.rules.now c.count-sound.ensures.sound c.args.slots.now c.requires.whole.taken (seen c.args.redex.now c.requires.first.wires) c.requires.first.first
    c.unwrap-row.result.now numbered c.exchange.new.slots c.in-Some.run' in_run c.exchange.ensures.exchanged c.phase.result c.phase.ensures.phase

pub returns-clause-fewer : goal.returns-clause-fewer
returns-clause-fewer c =
    let numbered = sym c.row.ensures.row ∙ ap option_copied c.unwrap-row.ensures in
    let in_run = rw c.replacement-count.ensures.replacement at c.in-Some.ensures in
    let less : length (gates_in c.exchange.new.slots) < length (gates_in c.args.slots.now) =
    exchanged_fewer c.args.rules.now c.count-sound.ensures.sound c.args.slots.now c.requires.whole.taken (seen c.args.redex.now c.requires.first.wires) c.requires.first.first
    c.unwrap-row.result.now numbered c.exchange.new.slots c.in-Some.run' in_run c.exchange.ensures.exchanged in
    omega arith

pub await_rewriting-requires-clause-taken : goal.await_rewriting-requires-clause-taken
await_rewriting-requires-clause-taken c =
    placed_own c.args.rules.now c.count-sound.ensures.sound c.args.slots.now c.requires.whole.taken (seen c.args.redex.now c.requires.first.wires) c.requires.first.first.is

pub returns-clause-settled : goal.returns-clause-settled
returns-clause-settled c =
    let numbered = sym c.row.ensures.row ∙ ap option_copied c.unwrap-row.ensures in
    let in_run = rw c.replacement-count.ensures.replacement at c.in-Some.ensures in
    let awaits = rw c.replacement-count.ensures.replacement at c.await_rewriting.ensures.waits in
    exchanged_settled c.args.rules.now c.count-sound.ensures.sound c.args.slots.now c.requires.whole.taken (seen c.args.redex.now c.requires.first.wires) c.requires.first.first
    c.unwrap-row.result.now numbered c.exchange.new.slots c.in-Some.run' in_run c.exchange.ensures.exchanged c.wires_at-mask.result c.args.starts.now c.await_rewriting.new.self
    c.wires_at-mask.ensures awaits
