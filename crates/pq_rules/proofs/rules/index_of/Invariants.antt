use Rattle.std.proofs.Common.{◌≡◌, ℕ, ◌<◌, get_or, vec_len, vec_capacity}
use Rattle.pq_gate.specs.declared.kind.TheConstants.{KINDS}
use Rattle.pq_rules.specs.Kinds.{numbers_starting}
use Rattle.pq_rules.proofs.rules.index_of.Given as goal

abbrev pub invariant-loop-of_kind : goal.invariant-loop-of_kind
invariant-loop-of_kind l = record {
  len : vec_len l.index ≡ l.of_kind;
  capacity : vec_capacity l.index ≡ KINDS;
  numbers : (k : ℕ) (d : _) → k < l.of_kind → (get_or l.index.items k d).items ≡ numbers_starting k 1 l.rows;
}
