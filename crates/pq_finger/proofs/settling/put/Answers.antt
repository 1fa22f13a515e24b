use Rattle.std.proofs.Common.{◌∙◌, arith}
use Rattle.std.proofs.lemmas.List.{get_or_default}
use Rattle.pq_gaps.proofs.Rising.{put_again, put_behind}
use Rattle.pq_finger.proofs.settling.put.Goals as goal
use Rattle.pq_finger.proofs.settling.put.Goals.{in_default-via-in-Some+else-last-place, in_default-via-in_default}

pub returns-in-Some-clause-put : goal.returns-in-Some-clause-put
returns-in-Some-clause-put c =
    let item = c.in-Some.ensures.item in
    let up = rw (← c.deref.ensures.value) at c.requires.rising in
    rw (← c.deref.ensures.value)
    (put_again c.args.place c.in-Some.last.now c.deref.result.now up item.3.0 item.1 c.if-last-place.true)

pub returns-in_default-clause-put : goal.returns-in_default-clause-put
returns-in_default-clause-put c =
    let up = rw (← c.deref.ensures.value) at c.requires.rising in
    let most = rw (← c.deref.ensures.value) at c.requires.up_to in
    rw (c.push_reserved.ensures.items, ← c.deref.ensures.value)
    (put_behind c.args.place c.deref.result.now up most
    (elim c.in_default.branch [
      | in_default-via-in-Some+else-last-place w ↦
          (λ some ends. w.if-last-place.false (w.in-Some.ensures.item.1 ∙ (get_or_default c.deref.result.now _ _ 0 (omega (arith, some)) ∙ ends)))
      | in_default-via-in_default w ↦ (λ some ends. omega (arith, w.in_default.ensures.item.3))
    ]))
