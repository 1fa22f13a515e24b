use Rattle.std.proofs.Common.{ℕ, Option, List, sym, ◌∙◌, ap, subst}
use Rattle.std.specs.Prelude.{All, Contains}
use Rattle.std.specs.List.{concat}
use Rattle.pq_gate.specs.declared.gate.Gate.{Gate}
use Rattle.pq_array.specs.Cells.{IsLive, live_places}
use Rattle.pq_array.specs.Counts.{Counts}
use Rattle.pq_board.proofs.StepLaws.{leaves_counted}
use Rattle.pq_round.proofs.Trials.{jobs_are_live, jobs_are_listed}
use Rattle.pq_round.proofs.tests.opened.Goals as goal

pub open-requires-2-clause-tree : goal.open-requires-2-clause-tree
open-requires-2-clause-tree c =
    subst (Counts c.split_words-cells.result.1.items) (sym (leaves_counted c.split_words-cells.result.1.items (live_places c.in_ok-open.field-0) c.split_words-cells.ensures.words.counts))
    c.split_words-cells.ensures.words.counts

pub open-requires-2-clause-live : goal.open-requires-2-clause-live
open-requires-2-clause-live c =
    subst (λ (l : List ℕ). All (Contains l) (concat c.args.jobs))
    (sym (leaves_counted c.split_words-cells.result.1.items (live_places c.in_ok-open.field-0) c.split_words-cells.ensures.words.counts
    ∙ ap (λ (cells : List (Option Gate)). live_places cells) c.in_ok-open.ensures.cells))
    (jobs_are_listed c.args.gates.now c.args.jobs c.requires.inside)

pub returns-in-Ok-clause-live : goal.returns-in-Ok-clause-live
returns-in-Ok-clause-live c =
    subst (λ (cells : List (Option Gate)). All (λ places. All (IsLive cells) places) c.args.jobs) (sym (c.split_words-cells.ensures.cells ∙ c.in_ok-open.ensures.cells))
    (jobs_are_live c.args.gates.now c.args.jobs c.requires.inside)
