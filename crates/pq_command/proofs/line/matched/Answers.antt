use Rattle.std.proofs.Common.{◌∙◌, ap, map, sym}
use Rattle.std.specs.String.{string_bytes}
use Rattle.clap.specs.Words.{fault_of, is_simple, is_simple_and_free, matches_of}
use Rattle.pq_command.proofs.Taken.{words_taken, words_untaken}
use Rattle.pq_command.proofs.line.matched.Goals as goal

pub returns-in-Ok-clause-takes : goal.returns-in-Ok-clause-takes
returns-in-Ok-clause-takes c =
    let words = map string_bytes c.args.words.now in
    words_taken words (ap (λ a. fault_of a words) (sym c.in_ok-command.ensures) ∙ c.in-Ok.ensures.kinds (ap is_simple_and_free c.in_ok-command.ensures))

pub returns-in-Ok-clause-rows : goal.returns-in-Ok-clause-rows
returns-in-Ok-clause-rows c =
    let words = map string_bytes c.args.words.now in
    (c.in-Ok.ensures.matches (ap is_simple c.in_ok-command.ensures)).0 ∙ ap (λ a. matches_of a words) c.in_ok-command.ensures

pub returns : goal.returns
returns c = record {
  takes = tt;
  rows = tt;
  fault = words_untaken _ (map string_bytes c.args.words.now) c.kind.result c.in_ok-command.ensures (λ e. c.kind.ensures ∙ c.in-Err.ensures.passes e) c.in_default.not-OutOfMemory;
}
