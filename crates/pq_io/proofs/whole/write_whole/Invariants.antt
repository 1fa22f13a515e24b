-- What was sent so far is a prefix of the text, and the sink holds it more.
use Rattle.std.proofs.Common.{◌-◌, ◌≤◌, length, take}
use Rattle.std.specs.Io.KnownBytes.{Appends}
use Rattle.pq_io.proofs.whole.write_whole.Given as goal

abbrev pub invariant-putting : goal.invariant-putting
invariant-putting g l = record {
  within : l.sent ≤ length l.text;
  put : Appends (g.K.Sink.held l.initial.sink) (g.K.Sink.held l.sink) (take l.sent l.text);
  never_falls : g.K.Sink.faults l.initial.sink ≤ g.K.Sink.faults l.sink;
}

abbrev pub decreases-putting : goal.decreases-putting
decreases-putting g l = length l.text - l.sent
