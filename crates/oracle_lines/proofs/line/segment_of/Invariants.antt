use Rattle.std.proofs.Common.{◌≡◌, length, take}
use Rattle.oracle_lines.proofs.line.segment_of.Given as goal

-- the gates so far are in the segment, which has room for all
abbrev pub invariant-loop-gate : goal.invariant-loop-gate
invariant-loop-gate l = record {
  pushed : l.seg.items ≡ take l.gate-index l.gates;
  room : l.seg.room ≡ length l.gates;
}
