-- What is seen next on a wire, by the first two roles of a pattern there.
use Rattle.std.proofs.Common.{◌≡◌, ℕ, ◌+◌, ◌*◌, ◌/◌, ◌%◌, ◌<◌, ◌⊎◌, inl, inr, List, [], ◌∷◌, ◌++◌, drop, length, get_or, arith, sym, ap, ◌∙◌, refl}
use Rattle.std.proofs.lemmas.Bool.{cases_order}
use Rattle.std.proofs.Math.ListN.{get_or-append}
use Rattle.std.proofs.Math.Seq.{get_or-append_seam}
use Rattle.pq_gate.proofs.KindLaws.{same_role, role_below}
use Rattle.pq_rules.specs.declared.seen.Seen.TheVariants as seen
use Rattle.pq_rules.specs.Kinds.{numbers_where}
use Rattle.pq_rules.specs.Row.{RowView}
use Rattle.std.specs.Prelude.{Option, Some, None, slice_get}
use Rattle.pq_gate.specs.declared.gate.Gate.{Gate}
use Rattle.pq_gate.specs.declared.kind.TheConstants.{KINDS}
use Rattle.pq_gate.specs.declared.role.Role.{Role}
use Rattle.pq_gate.specs.Ports.{last_wire}
use Rattle.pq_rules.specs.declared.seen.Seen.{Seen}
use Rattle.pq_rules.specs.declared.seen.TheConstants.{SEEN}
use Rattle.pq_rules.specs.Seen.{last_role, roles_on, admits_roles, admits, admits_two, LeadsRoles, AreFirstTwo, seen_number, entry_of, is_admitting}

two_first : (first : Role) (roles : List Role) (near far : Seen) → admits_two first (slice_get roles 0) (slice_get roles 1) near far ≡ admits_roles first roles near far
two_first first [] near far = refl
two_first first (next ∷ []) near far = refl
two_first first (next ∷ later ∷ rest) near far = refl

-- a pattern is admitted by the first two roles
pub admitted_by_two : (gate : Gate) (rest : List Gate) (first : Role) (next later : Option Role) (near far : Seen) → first ≡ last_role gate →
    AreFirstTwo (last_wire gate) rest next later → admits_two first next later near far ≡ admits (gate ∷ rest) near far
admitted_by_two gate rest first next later near far is two =
    ap (λ (r : Role). admits_two r next later near far) is
    ∙ (ap (λ (o : Option Role). admits_two (last_role gate) o later near far) two.first
    ∙ (ap (λ (o : Option Role). admits_two (last_role gate) (slice_get (roles_on (last_wire gate) rest) 0) o near far) two.second
    ∙ two_first (last_role gate) (roles_on (last_wire gate) rest) near far))

-- no role, one, or two
pub no_role : {wire : ℕ} {gates : List Gate} → LeadsRoles wire gates None → AreFirstTwo wire gates None None
no_role none = record { first = sym (ap (λ (roles : List Role). slice_get roles 0) none); second = sym (ap (λ (roles : List Role). slice_get roles 1) none) }

pub one_role_alone : {wire number : ℕ} {next : Role} {gates : List Gate} → LeadsRoles wire gates (Some (number, next)) → LeadsRoles wire (drop (number + 1) gates) None →
    AreFirstTwo wire gates (Some next) None
one_role_alone {wire} {number} {next} {gates} leads none =
    let roles : roles_on wire gates ≡ next ∷ [] = leads.1 ∙ ap (λ (rest : List Role). next ∷ rest) none in
    record { first = sym (ap (λ (roles : List Role). slice_get roles 0) roles); second = sym (ap (λ (roles : List Role). slice_get roles 1) roles) }

pub two_roles : {wire number more : ℕ} {next later : Role} {gates : List Gate} → LeadsRoles wire gates (Some (number, next)) → LeadsRoles wire (drop (number + 1) gates) (Some (more, later)) →
    AreFirstTwo wire gates (Some next) (Some later)
two_roles {wire} {number} {more} {next} {later} {gates} leads behind =
    let roles : roles_on wire gates ≡ next ∷ later ∷ roles_on wire (drop (more + 1) (drop (number + 1) gates)) = leads.1 ∙ ap (λ (rest : List Role). next ∷ rest) behind.1 in
    record { first = sym (ap (λ (roles : List Role). slice_get roles 0) roles); second = sym (ap (λ (roles : List Role). slice_get roles 1) roles) }

pub pattern_by_two : (pattern : List Gate) (d : Gate) (first : Role) (next later : Option Role) (near far : Seen) → 0 < length pattern → first ≡ last_role (get_or pattern 0 d) →
    AreFirstTwo (last_wire (get_or pattern 0 d)) (drop 1 pattern) next later → admits_two first next later near far ≡ admits pattern near far
pattern_by_two [] d first next later near far some is two = absurd (omega arith)
pattern_by_two (gate ∷ rest) d first next later near far some is two = admitted_by_two gate rest first next later near far is two

seen_below : (s : Seen) → seen_number s < SEEN
seen_below seen.Nothing = omega arith
seen_below seen.Unclear = omega arith
seen_below (seen.Plays own) = omega (arith, role_below own)

-- what has the same number is the same
same_seen : (s t : Seen) → seen_number s ≡ seen_number t → s ≡ t
same_seen seen.Nothing seen.Nothing same = refl
same_seen seen.Unclear seen.Unclear same = refl
same_seen (seen.Plays own) (seen.Plays other) same = ap seen.Plays (same_role own other same)
same_seen seen.Nothing seen.Unclear same = absurd (omega arith)
same_seen seen.Unclear seen.Nothing same = absurd (omega arith)
same_seen seen.Nothing (seen.Plays other) same = absurd (omega (arith, role_below other))
same_seen seen.Unclear (seen.Plays other) same = absurd (omega (arith, role_below other))
same_seen (seen.Plays own) seen.Nothing same = absurd (omega (arith, role_below own))
same_seen (seen.Plays own) seen.Unclear same = absurd (omega (arith, role_below own))

-- the entry of a kind and of what is seen, read back
pub entry_read : (k : ℕ) (near far one other : Seen) (entry : ℕ) → entry_of k near far ≡ entry → seen_number one ≡ entry / SEEN % SEEN → seen_number other ≡ entry % SEEN →
    (k ≡ entry / (SEEN * SEEN)) × (near ≡ one) × (far ≡ other)
entry_read k near far one other entry is one_is other_is =
    let a : seen_number near < SEEN = seen_below near in
    let b : seen_number far < SEEN = seen_below far in (
      omega (arith, is, a, b),
      same_seen near one (omega (arith, is, a, b, one_is)),
      same_seen far other (omega (arith, is, a, b, other_is)),
    )

-- one entry more
pub table_more : {X : Type 0} (value : X → List ℕ) (rows : List RowView) (table : List X) (entry : ℕ) (x d : X) (near far : Seen) → length table ≡ entry →
    seen_number near ≡ entry / SEEN % SEEN → seen_number far ≡ entry % SEEN → value x ≡ numbers_where (is_admitting (entry / (SEEN * SEEN)) near far) 1 rows →
    ((k : ℕ) (one other : Seen) → k < KINDS → entry_of k one other < entry → value (get_or table (entry_of k one other) d) ≡ numbers_where (is_admitting k one other) 1 rows) →
    (k : ℕ) (one other : Seen) → k < KINDS → entry_of k one other < entry + 1 → value (get_or (table ++ x ∷ []) (entry_of k one other) d) ≡ numbers_where (is_admitting k one other) 1 rows
table_more value rows table entry x d near far long near_is far_is is before k one other below inside = by (cases_order (entry_of k one other) entry)
  where
    by : (entry_of k one other ≡ entry) ⊎ ((entry_of k one other < entry) ⊎ (entry < entry_of k one other)) →
        value (get_or (table ++ x ∷ []) (entry_of k one other) d) ≡ numbers_where (is_admitting k one other) 1 rows
    by (inl same) =
        let read = entry_read k one other near far entry same near_is far_is in
        ap value (ap (λ (i : ℕ). get_or (table ++ x ∷ []) i d) (same ∙ sym long) ∙ get_or-append_seam table x [] d)
        ∙ (is ∙ sym (ap (λ (m : ℕ). numbers_where (is_admitting m one other) 1 rows) read.0
        ∙ (ap (λ (s : Seen). numbers_where (is_admitting (entry / (SEEN * SEEN)) s other) 1 rows) read.1
        ∙ ap (λ (s : Seen). numbers_where (is_admitting (entry / (SEEN * SEEN)) near s) 1 rows) read.2)))
    by (inr (inl less)) =
        ap value (get_or-append table (x ∷ []) d (entry_of k one other) (omega arith)) ∙ before k one other below less
    by (inr (inr more)) = absurd (omega arith)
