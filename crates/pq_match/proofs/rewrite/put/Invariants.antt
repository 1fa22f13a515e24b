use Rattle.std.proofs.Common.{◌≡◌, ◌+◌, ◌++◌, map, take, drop}
use Rattle.pq_rules.specs.Renaming.{renamed}
use Rattle.pq_match.proofs.rewrite.put.Given as goal

abbrev pub invariant-loop-index : goal.invariant-loop-index
invariant-loop-index l = record {
  front : take (l.start + l.index) l.gates ≡ take l.start l.initial.gates ++ map (renamed l.wires) (take l.index l.replacement);
  rest : drop (l.start + l.index) l.gates ≡ drop (l.start + l.index) l.initial.gates;
}
