use Rattle.std.proofs.Common.{arith, ◌≡◌, ◌++◌, take, drop, set, get_or, ap, ◌∙◌, List}
use Rattle.pq_finger.specs.declared.cut.Cut.{Cut}
use Rattle.pq_oracle.specs.Outcomes.{WorkedView}
use Rattle.pq_loop.specs.Segments.{flagged, told}
use Rattle.pq_loop.proofs.Cutting.{told_next, told_all}
use Rattle.pq_loop.proofs.segments.cuts_of.Goals as goal

pub loop-number-preserved : goal.loop-number-preserved
loop-number-preserved c =
    let number = c.loop-number.number in
    let ends = c.args.ends.items in
    let results = c.args.results.now in
    let w = c.index-results-number.result in
    let y = c.index_mut.result.now in
    let worked : c.improved.result ≡ (get_or results number w).answer.improved =
    c.improved.ensures.improved ∙ ap (λ (x : WorkedView). x.answer.improved) c.index-results-number.is in
    let cut : y ≡ get_or (told (take number ends) (take number results) ++ drop number ends) number y =
    c.index_mut.ensures.value ∙ ap (λ (l : List Cut). get_or l number y) c.loop-number.invariant in
    (λ i. set (c.loop-number.invariant i) number (flagged (worked i) (cut i))) ∙ told_next ends results number y w c.requires (omega (arith, c.loop-number-test.true, c.requires))

pub returns : goal.returns
returns c = c.loop-number.invariant ∙ told_all c.args.ends.items c.args.results.now c.loop-number.number c.requires (omega (arith, c.loop-number-test.false, c.requires))
