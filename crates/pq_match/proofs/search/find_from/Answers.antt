use Rattle.std.proofs.Common.{arith, rules}
use Rattle.pq_match.proofs.SearchAdmits.{seen_tried}
use Rattle.pq_match.proofs.SearchFrom.{tried_all}
use Rattle.pq_match.proofs.search.find_from.Goals as goal

pub returns-then-is_empty : goal.returns-then-is_empty
returns-then-is_empty c =
    tried_all (seen_tried _ _ c.rows_admitting-numbers.ensures.sound c.rows_admitting-numbers.ensures.numbers c.last_wire-wire.ensures
    c.see_within-near.ensures c.see_within-far.ensures c.requires.start c.next_behind-next.ensures.next c.next_behind-later.ensures.next) (search (rules, arith))

pub loop-number-init : goal.loop-number-init
loop-number-init c =
    seen_tried _ _ c.rows_admitting-numbers.ensures.sound c.rows_admitting-numbers.ensures.numbers c.last_wire-wire.ensures
    c.see_within-near.ensures c.see_within-far.ensures c.requires.start c.next_behind-next.ensures.next c.next_behind-later.ensures.next
