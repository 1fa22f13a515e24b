-- What was taken so far stands in the text.
use Rattle.std.proofs.Common.{◌-◌, ◌≤◌, length}
use Rattle.std.specs.Io.KnownBytes.{Consumes}
use Rattle.pq_io.proofs.whole.read_whole.Given as goal

abbrev pub invariant-taking : goal.invariant-taking
invariant-taking g l = record {
  within : length l.text ≤ l.most;
  taken : Consumes (g.S.Source.left l.initial.source) (g.S.Source.left l.source) l.text;
  never_falls : g.S.Source.faults l.initial.source ≤ g.S.Source.faults l.source;
}

abbrev pub decreases-taking : goal.decreases-taking
decreases-taking g l = l.most - length l.text
