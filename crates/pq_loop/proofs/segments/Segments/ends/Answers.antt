use Rattle.std.proofs.Common.{arith, ◌≡◌, ◌<◌, Bool, List, ℕ, length, get_or, sym, ap, ◌∙◌}
use Rattle.std.proofs.lemmas.List.{get_or_read}
use Rattle.pq_loop.specs.Segments.{flagged}
use Rattle.pq_loop.proofs.Cutting.{IsCutOf, ends_more, ends_all}
use Rattle.pq_loop.proofs.segments.Segments.ends.Goals as goal
use Rattle.pq_loop.proofs.segments.Segments.ends.Goals.{After-cut_at}

-- the cut is that of the finger and the gap of this number
here : (c : After-cut_at) (b : Bool) →
    IsCutOf c.args.array.now c.args.self.now.omega (get_or c.args.self.now.fingers.items c.loop-number.number 0) (get_or c.args.self.now.gaps.items c.loop-number.number 0) b
    (flagged b c.cut_at.result)
here c b =
    let number = c.loop-number.number in
    let finger : get_or c.as_slice.result.now number 0 ≡ get_or c.args.self.now.fingers.items number 0 = ap (λ (l : List ℕ). get_or l number 0) c.as_slice.ensures in
    let inside : number < length c.args.self.now.gaps.items = omega (arith, c.loop-number-test.true, c.len-number-end.ensures) in
    let gap : c.index.result.now ≡ get_or c.args.self.now.gaps.items number 0 = get_or_read c.args.self.now.gaps.items number c.index.result.now inside c.index.ensures 0 in
    rw (sym finger, sym gap) (c.cut_at.ensures b)

pub loop-number-preserved : goal.loop-number-preserved
loop-number-preserved c = record {
  ends = rw c.push_reserved.ensures.items
      (ends_more c.args.array.now c.args.self.now.omega c.args.self.now.fingers.items c.args.self.now.gaps.items c.loop-number.number c.loop-number.ends.items c.cut_at.result
      c.loop-number.invariant.ends (here (goal.at.loop-number-preserved c).After-cut_at));
  capacity = c.push_reserved.ensures.capacity ∙ c.loop-number.invariant.capacity;
}

pub returns-clause-at_places : goal.returns-clause-at_places
returns-clause-at_places c = λ places results are long.
    ends_all c.args.array.now c.args.self.now.omega c.args.self.now.fingers.items c.args.self.now.gaps.items c.loop-number.number c.loop-number.ends.items places results
    c.requires.fingers (omega (arith, c.loop-number-test.false, c.loop-number.auto.number-end, c.len-number-end.ensures)) c.loop-number.invariant.ends long are.in_range are.fingers
