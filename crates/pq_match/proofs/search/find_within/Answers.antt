use Rattle.std.proofs.Common.{sym, subst, ℕ}
use Rattle.pq_match.specs.First.{HasNoneWithin}
use Rattle.pq_match.proofs.SearchWithin.{none_in_no_span}
use Rattle.pq_match.proofs.search.find_within.Goals as goal

pub returns-then-span-eq0 : goal.returns-then-span-eq0
returns-then-span-eq0 c = subst (λ (s : ℕ). HasNoneWithin c.args.rules.now c.args.gates.now s) (sym c.if-span-eq0.true) (none_in_no_span c.args.rules.now c.args.gates.now)
