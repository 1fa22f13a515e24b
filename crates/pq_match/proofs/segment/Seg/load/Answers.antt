use Rattle.std.proofs.Common.{List, not, refl, subst}
use Rattle.pq_gate.specs.declared.gate.Gate.{Gate}
use Rattle.pq_match.specs.Redex.{HasNoRedex}
use Rattle.pq_match.proofs.Working.{known_loaded}
use Rattle.pq_match.proofs.segment.Seg.load.Goals as goal

pub returns-then-self-clause-known : goal.returns-then-self-clause-known
returns-then-self-clause-known c =
    known_loaded c.args.rules.now
    (record { items = c.self.inside.gates.items; room = c.self.inside.asked; work = c.load-self-inside.new.self; loaded = c.load-self-inside.result; still = not c.load-self-inside.result })
    refl c.load-self-inside.ensures.settled
    (λ closed. subst (λ (gates : List Gate). HasNoRedex c.args.rules.now gates) c.as_slice.ensures.value (c.load-self-inside.ensures.none closed))
