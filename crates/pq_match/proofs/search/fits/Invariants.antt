use Rattle.std.proofs.Common.{ℕ, ◌<◌, slice_index}
use Rattle.pq_match.specs.Redex.{gate_at}
use Rattle.pq_match.specs.Search.{AreAlike}
use Rattle.pq_match.proofs.search.fits.Given as goal

-- the gates before this one are as they are to be
abbrev pub invariant-loop-s : goal.invariant-loop-s
invariant-loop-s l = (s : ℕ) → s < l.s →
    AreAlike (gate_at l.pattern s) (gate_at l.pattern l.last) (gate_at l.gates (slice_index l.places s)) (gate_at l.gates (slice_index l.places l.last))
