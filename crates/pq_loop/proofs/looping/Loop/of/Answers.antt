use Rattle.std.proofs.Common.{List, length, ap, ◌∙◌, arith}
use Rattle.pq_gate.specs.declared.gate.Gate.{Gate}
use Rattle.pq_gaps.specs.Gaps.{first_fingers}
use Rattle.pq_loop.proofs.Kept.{kept_first, opened_state}
use Rattle.pq_loop.proofs.looping.Loop.of.Goals as goal

pub invariant_of-result : goal.invariant_of-result
invariant_of-result c =
    kept_first c.args.gates.items c.in_ok-array.ensures.cells
    (c.in_ok-fingers.ensures ∙ ap (λ (gates : List Gate). first_fingers (length gates) c.args.omega) c.as_slice.ensures)
    c.count-rows.ensures.sound c.requires.few c.requires.omega

pub returns-clause-state : goal.returns-clause-state
returns-clause-state c =
    opened_state c.args.gates.items c.args.omega (omega (arith, c.requires.omega.least)) c.in_ok-array.ensures.cells
    (c.in_ok-fingers.ensures ∙ ap (λ (gates : List Gate). first_fingers (length gates) c.args.omega) c.as_slice.ensures)

pub returns-clause-covered : goal.returns-clause-covered
returns-clause-covered c =
    (kept_first c.args.gates.items c.in_ok-array.ensures.cells
    (c.in_ok-fingers.ensures ∙ ap (λ (gates : List Gate). first_fingers (length gates) c.args.omega) c.as_slice.ensures)
    c.count-rows.ensures.sound c.requires.few c.requires.omega).cover
