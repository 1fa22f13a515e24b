use Rattle.std.proofs.Common.{ℕ, ◌≤◌, ◌-◌}
use Rattle.pq_links.specs.Slots.{IsGap}
use Rattle.pq_links.proofs.chains.Chains.gap_at.Given as goal

abbrev pub invariant-on : goal.invariant-on
invariant-on l = record { at : ℕ; upto : at ≤ l.to; gap : IsGap l.slots l.wire at l.before l.after }

abbrev pub decreases-on : goal.decreases-on
decreases-on l = l.to - l.after
