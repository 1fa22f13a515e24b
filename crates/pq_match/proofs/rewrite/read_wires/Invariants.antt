use Rattle.std.proofs.Common.{◌≡◌, ℕ, List, length, map}
use Rattle.pq_rules.specs.Renaming.{renamed}
use Rattle.pq_match.specs.Redex.{gate_at}
use Rattle.pq_match.proofs.RewritingWires.{AreRead}
use Rattle.pq_match.proofs.rewrite.read_wires.Given as goal

abbrev pub invariant-loop-index : goal.invariant-loop-index
invariant-loop-index l = record {
  len : length l.wires ≡ 3;
  read : (wires : List ℕ) → map (gate_at l.gates) l.places ≡ map (renamed wires) l.pattern → AreRead l.pattern l.index l.wires wires;
}
