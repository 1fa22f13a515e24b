use Rattle.std.proofs.Common.{◌≡◌, ◌≢◌, ℕ, ◌+◌, ◌*◌, ◌<◌, List, [], ◌∷◌, length, get_or, sym, ap, ◌∙◌, arith}
use Rattle.pq_gate.specs.Kind.{kind_of, number_of}
use Rattle.pq_rules.specs.declared.rules.TheConstants.{ENTRIES}
use Rattle.pq_rules.specs.declared.seen.TheConstants.{SEEN}
use Rattle.pq_rules.specs.Kinds.{numbers_where}
use Rattle.pq_rules.specs.Row.{RowView}
use Rattle.pq_rules.specs.Seen.{is_admitting, seen_number, entry_of}
use Rattle.pq_rules.proofs.rules.Rules.has_admitting.Goals as goal

-- there is none where the entry has none, which is noted there
none_noted : {X : Type 0} (items : X → List ℕ) (table : List X) (entry : ℕ) (numbers : List ℕ) → entry < length table → ((d : X) → items (get_or table entry d) ≡ numbers) →
    ((d : X) → items (get_or table entry d) ≡ []) → numbers ≡ []
none_noted items [] entry numbers below are none = absurd (omega arith)
none_noted items (one ∷ rest) entry numbers below are none = sym (are one) ∙ none one

-- there is one where the entry has one, which is noted there
some_noted : {X : Type 0} (items : X → List ℕ) (table : List X) (entry : ℕ) (numbers : List ℕ) → entry < length table → ((d : X) → items (get_or table entry d) ≡ numbers) →
    ((d : X) → items (get_or table entry d) ≢ []) → numbers ≢ []
some_noted items [] entry numbers below are some = absurd (omega arith)
some_noted items (one ∷ rest) entry numbers below are some = λ none. some one (are one ∙ none)

pub returns : goal.returns
returns c = record {
  none = λ is.
      none_noted (λ v. v.items) c.self.inside.admitting.items place numbers long are
      (λ d. c.self.invariant.7 place d c.index.result.now below (sym c.index.ensures ∙ is));
  some = λ is.
      some_noted (λ v. v.items) c.self.inside.admitting.items place numbers long are
      (λ d. c.self.invariant.9 place d c.index.result.now below (sym c.index.ensures ∙ is));
}
  where
    place : ℕ
    place = (c.kind_number-kind.result * SEEN + c.number.result) * SEEN + c.number-2.result

    numbers : List ℕ
    numbers = numbers_where (is_admitting (number_of (kind_of c.args.gate)) c.args.near c.args.far) 1 c.args.self.now

    entry : entry_of (number_of (kind_of c.args.gate)) c.args.near c.args.far ≡ place
    entry =
        ap (λ (k : ℕ). (k * SEEN + seen_number c.args.near) * SEEN + seen_number c.args.far) (sym c.kind_number-kind.ensures.is)
        ∙ (ap (λ (n : ℕ). (c.kind_number-kind.result * SEEN + n) * SEEN + seen_number c.args.far) (sym c.number.ensures.is)
        ∙ ap (λ (n : ℕ). (c.kind_number-kind.result * SEEN + c.number.result) * SEEN + n) (sym c.number-2.ensures.is))

    below : place < ENTRIES
    below = omega (arith, c.kind_number-kind.ensures.below, c.number.ensures.below, c.number-2.ensures.below)

    long : place < length c.self.inside.admitting.items
    long = omega (arith, below, c.self.invariant.4)

    are : (d : _) → (get_or c.self.inside.admitting.items place d).items ≡ numbers
    are d =
        ap (λ (k : ℕ). (get_or c.self.inside.admitting.items k d).items) (sym entry)
        ∙ (c.self.invariant.5 (number_of (kind_of c.args.gate)) c.args.near c.args.far d (omega (arith, c.kind_number-kind.ensures.below))
        ∙ ap (λ (rows : List RowView). numbers_where (is_admitting (number_of (kind_of c.args.gate)) c.args.near c.args.far) 1 rows) c.self.view_is)
