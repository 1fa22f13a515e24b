use Rattle.std.proofs.Common.{◌≡◌, ◌≤◌, ◌∙◌, ℕ, List, length, get_or, sym, ap, subst}
use Rattle.std.specs.Prelude.{All, Contains}
use Rattle.std.specs.List.{concat}
use Rattle.pq_array.specs.Cells.{live_places}
use Rattle.pq_array.specs.Counts.{Counts}
use Rattle.pq_board.specs.Ways.{live_leaves}
use Rattle.pq_board.specs.Law.{late}
use Rattle.pq_board.specs.Steps.{Opened, early, lowered_places, without}
use Rattle.pq_board.proofs.StepLaws.{leaves_counted}
use Rattle.pq_round.specs.Results.{AreSameNumbers, all_given_up}
use Rattle.pq_loop.proofs.Rejoining.{jobs_live_from, without_same, early_all}
use Rattle.pq_loop.proofs.over_board.work_over_board.Goals as goal

pub opened-requires-clause-tree : goal.opened-requires-clause-tree
opened-requires-clause-tree g c =
    subst (Counts c.args.words.items) (sym (leaves_counted c.args.words.items (live_places c.args.cells.now) c.requires.tree.counts)) c.requires.tree.counts

pub opened-requires-clause-live : goal.opened-requires-clause-live
opened-requires-clause-live g c =
    subst (λ (l : List ℕ). All (Contains l) (concat c.args.jobs)) (sym (leaves_counted c.args.words.items (live_places c.args.cells.now) c.requires.tree.counts))
    (jobs_live_from c.args.cells.now c.args.jobs c.requires.live)

pub returns-clause-counts : goal.returns-clause-counts
returns-clause-counts g c =
    let given = all_given_up c.args.jobs c.in_ok-results.field-0.results.items in
    let lowered = lowered_places c.in_ok-results.field-0.pass.view.lowered in
    let words : c.in_ok-results.field-0.board.plan.words.items ≡ c.args.words.items =
    ap (λ (b : Opened). b.plan.words.items) c.in_ok-results.ensures.board ∙ c.in_ok-board.ensures.words in
    let leaves : live_leaves c.in_ok-results.field-0.board.plan.words.items ≡ live_places c.args.cells.now =
    ap (λ (w : List ℕ). live_leaves w) words ∙ leaves_counted c.args.words.items (live_places c.args.cells.now) c.requires.tree.counts in
    let same : AreSameNumbers lowered given =
    subst (λ (j : List (List ℕ)). AreSameNumbers lowered (all_given_up j c.in_ok-results.field-0.results.items)) c.in_ok-board.ensures.jobs c.in_ok-results.ensures.lowered in
    subst (Counts c.close.result.words.items) (ap (λ (l : List ℕ). without lowered l) leaves ∙ without_same lowered given (live_places c.args.cells.now) same) c.close.ensures.tree

pub returns-clause-receipt : goal.returns-clause-receipt
returns-clause-receipt g c =
    let words : c.in_ok-results.field-0.board.plan.words.items ≡ c.args.words.items =
    ap (λ (b : Opened). b.plan.words.items) c.in_ok-results.ensures.board ∙ c.in_ok-board.ensures.words in
    let jobs : c.in_ok-results.field-0.board.plan.jobs ≡ c.args.jobs =
    ap (λ (b : Opened). b.plan.jobs) c.in_ok-results.ensures.board ∙ c.in_ok-board.ensures.jobs in
    let some : 1 ≤ late c.in_ok-results.field-0.board.plan c.in_ok-results.field-0.pass.view.tickets =
    subst (λ (b : Opened). 1 ≤ late b.plan c.in_ok-results.field-0.pass.view.tickets) (sym c.in_ok-results.ensures.board) c.in_ok-results.ensures.late in
    let claimed : early c.in_ok-results.field-0.board.plan c.in_ok-results.field-0.pass.view.tickets ≡ length c.args.jobs =
    early_all c.in_ok-results.field-0.board.plan c.in_ok-results.field-0.pass.view.tickets c.close.ensures.first some ∙ ap (λ (j : List (List ℕ)). length j) jobs in
    c.close.ensures.receipt
    ∙ (λ i. record { jobs = length (jobs i); claimed = claimed i; opened = get_or (words i) 1 0; closed = get_or c.close.result.words.items 1 0 })
