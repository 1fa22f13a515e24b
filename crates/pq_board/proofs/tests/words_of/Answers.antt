use Rattle.std.proofs.Common.{◌≡◌, ◌+◌, Some, List, map, length, ap, subst, arith}
use Rattle.std.specs.Prelude.{Contains}
use Rattle.pq_gate.specs.declared.gate.Gate.{Gate}
use Rattle.pq_array.specs.Cells.{live_places}
use Rattle.pq_board.proofs.StepLaws.{leaves_counted}
use Rattle.pq_board.proofs.Trials.{all_live}
use Rattle.pq_board.proofs.tests.words_of.Goals as goal

pub returns-clause-tree : goal.returns-clause-tree
returns-clause-tree c =
    let counts = c.split_words-cells.ensures.words.counts in
    rw (leaves_counted c.split_words-cells.result.1.items (live_places c.in_ok-open.field-0) counts) counts

pub returns-clause-live : goal.returns-clause-live
returns-clause-live c = λ place lt.
    let counts = c.split_words-cells.ensures.words.counts in
    let is = leaves_counted c.split_words-cells.result.1.items (live_places c.in_ok-open.field-0) counts in
    let e : 0 + place ≡ place = omega arith in
    rw (is, c.in_ok-open.ensures.cells)
    (subst (Contains (live_places (map Some c.deref.result.now))) e (all_live c.deref.result.now 0 place (omega (arith, c.in_ok-gates.ensures, c.deref.ensures.len, ap (λ (l : List Gate). length l) c.deref.ensures.value))))
