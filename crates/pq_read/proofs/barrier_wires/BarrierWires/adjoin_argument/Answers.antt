use Rattle.std.proofs.Common.{◌≡◌, ◌+◌, sym, ◌∙◌, subst, true, arith}
use Rattle.pq_read.specs.Marks.{has}
use Rattle.pq_read.proofs.Marks.{known_first, all_listed, marked_whole}
use Rattle.pq_read.proofs.barrier_wires.BarrierWires.adjoin_argument.Goals as goal

pub returns-then-a-known : goal.returns-then-a-known
returns-then-a-known c =
    sym (known_first c.self.inside.wires.items c.self.inside.known.items c.args.self.now c.args.a.now.first c.args.a.now.count c.index.result.now c.self.invariant c.self.view_is
    (omega (arith, c.requires.some, c.requires.within)) c.index.ensures (omega (arith, c.from-known.ensures)))

pub loop-k-init : goal.loop-k-init
loop-k-init c =
    sym (known_first c.self.inside.wires.items c.self.inside.known.items c.args.self.now c.args.a.now.first c.from-known.result c.index.result.now c.self.invariant c.self.view_is
    (omega (arith, c.requires.some, c.requires.within)) c.index.ensures (omega (arith, c.from-known.ensures)))

pub invariant_of-self : goal.invariant_of-self
invariant_of-self c =
    let end : c.loop-k.k ≡ c.args.a.now.count = omega arith in
    let same = c.self-2.view_is ∙ c.loop-k.invariant in
    marked_whole c.self-2.inside.wires.items c.self-2.inside.known.items c.args.a.now.first c.args.a.now.count c.self-2.invariant (omega (arith, c.requires.some, c.requires.within)) c.requires.some
    (λ k h. subst (λ ws. has ws (c.args.a.now.first + k) ≡ true) (sym same) (all_listed c.args.self.now c.args.a.now.first c.loop-k.k k (omega arith)))
