-- A quiet start stays quiet where the next two gates on its last wire stay.
use Rattle.std.proofs.Common.{◌≡◌, ℕ, ◌+◌, ◌<◌, ◌≤◌, ◌⊎◌, inl, inr, List, length, sym, ap, subst, ◌∙◌, arith}
use Rattle.std.proofs.lemmas.Bool.{cases_lt}
use Rattle.std.proofs.lemmas.List.{get_or_past}
use Rattle.pq_gate.specs.declared.gate.Gate.{Gate}
use Rattle.pq_gate.specs.declared.gate.Gate.TheVariants.{H}
use Rattle.pq_gate.specs.Commuting.{Touches}
use Rattle.pq_gate.specs.Kind.{kind_of, number_of}
use Rattle.pq_gate.specs.Ports.{last_wire}
use Rattle.pq_rules.specs.Row.{RowView}
use Rattle.pq_rules.specs.Kinds.{numbers_where}
use Rattle.pq_rules.specs.Seen.{role_on, is_admitting}
use Rattle.pq_rules.specs.declared.seen.Seen.{Seen}
use Rattle.pq_rules.specs.declared.seen.Seen.TheVariants as seen
use Rattle.pq_links.specs.Links.{IsNextOn}
use Rattle.pq_match.specs.Redex.{gate_at}
use Rattle.pq_match.specs.Seek.{IsClear, IsSeenAt}
use Rattle.pq_match.specs.Settled.{SeesAhead, IsQuiet}

-- wherever one of the lists has a gate on the wire, both have the same gate, from a place on up to another
pub record SameOn (wire from upto : ℕ) (old new : List Gate) : Type 0 where
  pub same : (p : ℕ) → from ≤ p → p ≤ upto → p < length old → Touches (gate_at old p) wire ⊎ Touches (gate_at new p) wire → gate_at old p ≡ gate_at new p

module _ (old new : List Gate) (whole : length new ≡ length old) (wire : ℕ) where
  next_kept : (from place : ℕ) → SameOn wire from place old new → IsNextOn old wire from place → IsNextOn new wire from place
  next_kept from place are next = record {
    ahead = next.ahead;
    uses = λ inside. (let in_old : place < length old = omega arith in
        subst (λ (g : Gate). Touches g wire) (are.same place next.ahead (omega arith) in_old (inl (next.uses in_old))) (next.uses in_old));
    none = λ p above less inside uses.
        (let in_old : p < length old = omega arith in
        next.none p above less in_old (subst (λ (g : Gate). Touches g wire) (sym (are.same p above (omega arith) in_old (inr uses))) uses));
    past = λ past. next.past (omega arith);
  }

  seen_same : (place : ℕ) (what : Seen) → gate_at old place ≡ gate_at new place → IsSeenAt old wire place what → IsSeenAt new wire place what
  seen_same place seen.Nothing same is = omega arith
  seen_same place seen.Unclear same is = is
  seen_same place (seen.Plays own) same is = subst (λ (g : Gate). (own ≡ role_on wire g) × IsClear g) same is

  past_same : (place : ℕ) → length old ≤ place → gate_at old place ≡ gate_at new place
  past_same place past = get_or_past old place (H 0) past ∙ sym (get_or_past new place (H 0) (omega arith))

  module _ (start one other : ℕ) (near far : Seen) (ahead : SeesAhead old wire start one other near far) (first : SameOn wire (start + 1) one old new)
      (second : one < length old → SameOn wire (one + 1) other old new) where
    one_same : (one < length old) ⊎ (length old ≤ one) → gate_at old one ≡ gate_at new one
    one_same (inl inside) = first.same one ahead.next.ahead (omega arith) inside (inl (ahead.next.uses inside))
    one_same (inr past) = past_same one past

    other_same : (one < length old) ⊎ (length old ≤ one) → (other < length old) ⊎ (length old ≤ other) → gate_at old other ≡ gate_at new other
    other_same (inl inside) (inl in_too) = (second inside).same other (ahead.behind inside).ahead (omega arith) in_too (inl ((ahead.behind inside).uses in_too))
    other_same (inr past) (inl in_too) = absurd (let too : length old ≤ other = ahead.past past in omega arith)
    other_same _ (inr past) = past_same other past

    pub sees_kept : SeesAhead new wire start one other near far
    sees_kept = record {
      next = next_kept (start + 1) one first ahead.next;
      behind = λ inside. (let in_old : one < length old = omega arith in next_kept (one + 1) other (second in_old) (ahead.behind in_old));
      past = λ past. (let too : length old ≤ other = ahead.past (omega arith) in omega arith);
      near_is = seen_same one near (one_same (cases_lt one (length old))) ahead.near_is;
      far_is = seen_same other far (other_same (cases_lt one (length old)) (cases_lt other (length old))) ahead.far_is;
    }

pub quiet_kept : (rules : List RowView) (old new : List Gate) (start : ℕ) → length new ≡ length old → gate_at old start ≡ gate_at new start → (quiet : IsQuiet rules old start) →
    SameOn (last_wire (gate_at old start)) (start + 1) quiet.one old new →
    (quiet.one < length old → SameOn (last_wire (gate_at old start)) (quiet.one + 1) quiet.other old new) → IsQuiet rules new start
quiet_kept rules old new start whole same quiet first second = record {
  one = quiet.one;
  other = quiet.other;
  near = quiet.near;
  far = quiet.far;
  ahead =
      subst (λ (g : Gate). SeesAhead new (last_wire g) start quiet.one quiet.other quiet.near quiet.far) same
      (sees_kept old new whole (last_wire (gate_at old start)) start quiet.one quiet.other quiet.near quiet.far quiet.ahead first second);
  none = ap (λ (g : Gate). numbers_where (is_admitting (number_of (kind_of g)) quiet.near quiet.far) 1 rules) (sym same) ∙ quiet.none;
}
