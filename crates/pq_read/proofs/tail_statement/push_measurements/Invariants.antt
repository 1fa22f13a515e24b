use Rattle.std.proofs.Common.{◌≡◌, ◌+◌, ◌++◌, ◌∷◌, []}
use Rattle.pq_text.specs.Program.{entries_of, Measure}
use Rattle.pq_read.specs.Lists.{each_below}
use Rattle.pq_read.proofs.tail_statement.push_measurements.Given as goal

abbrev pub invariant-loop-k : goal.invariant-loop-k
invariant-loop-k l =
    (l.tail ≡ l.initial.tail ++ each_below l.k (λ k. Measure (l.a.first + k) (l.b.first + k) ∷ [])) × (entries_of l.tail ≡ entries_of l.initial.tail + l.k)
