use Rattle.std.proofs.Common.{◌++◌, codes, decimal, ap, ◌∙◌}
use Rattle.pq_top.proofs.Lines.{redex_said}
use Rattle.pq_top.proofs.check.redex_text.Goals as goal

pub returns : goal.returns
returns c = λ wires. redex_said c.args.redex.now wires _ _ _ _ _ c.in_ok-line.ensures.items
    (c.in_ok-push_number.ensures.items ∙ ap (λ n. c.in_ok-line.line.items ++ (codes "redex " ++ decimal n)) c.from.ensures)
    c.in_ok-extend_from_slice.ensures.items c.in_ok-push_places.ensures (c.of.ensures.items ∙ c.in_ok-push.ensures.items)
