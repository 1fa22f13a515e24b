use Rattle.std.proofs.Common.{◌≡◌, ◌≢◌, ℕ, ◌<◌, Bool, false, true, [], get_or, vec_len, vec_capacity}
use Rattle.pq_rules.specs.declared.rules.TheConstants.{ENTRIES}
use Rattle.pq_rules.proofs.rules.noted.Given as goal

abbrev pub invariant-loop-entry : goal.invariant-loop-entry
invariant-loop-entry l = record {
  len : vec_len l.noted ≡ l.entry;
  capacity : vec_capacity l.noted ≡ ENTRIES;
  none : (entry : ℕ) (d : _) (e : Bool) → entry < l.entry → get_or l.noted.items entry e ≡ false → (get_or l.table entry d).items ≡ [];
  some : (entry : ℕ) (d : _) (e : Bool) → entry < l.entry → get_or l.noted.items entry e ≡ true → (get_or l.table entry d).items ≢ [];
}
