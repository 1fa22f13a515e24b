use Rattle.std.proofs.Common.{◌≡◌, ◌++◌, sym, ap, ◌∙◌, arith}
use Rattle.std.proofs.lemmas.List.{append-nil}
use Rattle.pq_read.specs.Lists.{each_below}
use Rattle.pq_read.specs.Expansion.{instance, instances, gates_of}
use Rattle.pq_read.specs.Listed.{listed}
use Rattle.pq_read.proofs.Counts.{no_gates}
use Rattle.pq_read.proofs.gate.push_gates.Goals as goal

pub returns-then-gates_each-eq0 : goal.returns-then-gates_each-eq0
returns-then-gates_each-eq0 c =
    sym (ap (λ gs. c.args.gates.now.items ++ gs) (no_gates c.args.word (listed c.args.arguments.now) c.gates_each.result c.gates_each.ensures.each c.if-gates_each-eq0.true)
    ∙ append-nil c.args.gates.now.items)

pub returns : goal.returns
unfolding gates_of
returns c =
    let end : c.loop-k.k ≡ instances (listed c.args.arguments.now) = omega (arith, c.instances-k-end.ensures.count) in
    c.loop-k.invariant ∙ ap (λ n. c.args.gates.now.items ++ each_below n (instance c.args.word (listed c.args.arguments.now))) end
