use Rattle.std.proofs.Common.{◌≡◌, ℕ, ◌<◌, get_or, vec_len, vec_capacity}
use Rattle.pq_gate.specs.declared.kind.TheConstants.{KINDS}
use Rattle.pq_rules.specs.declared.seen.Seen.{Seen}
use Rattle.pq_rules.specs.declared.rules.TheConstants.{ENTRIES}
use Rattle.pq_rules.specs.Kinds.{numbers_where}
use Rattle.pq_rules.specs.Seen.{is_admitting, entry_of}
use Rattle.pq_rules.proofs.rules.table_of.Given as goal

abbrev pub invariant-loop-entry : goal.invariant-loop-entry
invariant-loop-entry l = record {
  len : vec_len l.table ≡ l.entry;
  capacity : vec_capacity l.table ≡ ENTRIES;
  numbers : (k : ℕ) (near far : Seen) (d : _) → k < KINDS → entry_of k near far < l.entry →
      (get_or l.table.items (entry_of k near far) d).items ≡ numbers_where (is_admitting k near far) 1 l.rows;
}
