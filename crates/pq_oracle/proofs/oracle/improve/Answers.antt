use Rattle.std.proofs.Common.{List, sym, subst}
use Rattle.pq_gate.specs.declared.gate.Gate.{Gate}
use Rattle.pq_oracle.specs.Ora.{Ora}
use Rattle.pq_oracle.specs.Outcomes.{answer_of}
use Rattle.pq_oracle.proofs.Answering.{clean, improved}
use Rattle.pq_oracle.proofs.oracle.improve.Goals as goal

pub returns-clause-clean : goal.returns-clause-clean
returns-clause-clean c =
    clean c.args.rules.now c.args.seg.now.items (answer_of c.gather.new.self.items c.rewrite_all-outcome.result)
    (subst (λ (xs : List Gate). Ora c.args.rules.now c.args.seg.now.items (answer_of xs c.rewrite_all-outcome.result)) (sym c.gather.ensures.items) c.rewrite_all-outcome.ensures.oracle)

pub returns-clause-improved : goal.returns-clause-improved
returns-clause-improved c = improved c.args.rules.now c.args.seg.now.items _ c.rewrite_all-outcome.ensures.oracle
