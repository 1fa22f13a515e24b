-- The next and the last place on a wire, also where the gate at one place changes.
use Rattle.std.proofs.Common.{◌≡◌, ℕ, ◌+◌, ◌<◌, ◌≤◌, List, length, sym, subst, arith, inl, inr, ◌⊎◌}
use Rattle.std.proofs.lemmas.Bool.{cases_order, cases_lt}
use Rattle.pq_gate.specs.declared.gate.Gate.{Gate}
use Rattle.pq_gate.specs.Commuting.{Touches}
use Rattle.pq_links.specs.Places.{gate_at}
use Rattle.pq_links.specs.Links.{far, IsNextOn, IsLastOn}
use Rattle.pq_links.specs.Slots.{IsGap}

-- there is one next place
pub same_next : {slots : List Gate} {wire from a b : ℕ} → IsNextOn slots wire from a → IsNextOn slots wire from b → a ≡ b
same_next {slots} {wire} {from} {a} {b} is too = by (cases_order a b) (cases_lt a (length slots)) (cases_lt b (length slots))
  where
    by : (a ≡ b) ⊎ ((a < b) ⊎ (b < a)) → (a < length slots) ⊎ (length slots ≤ a) → (b < length slots) ⊎ (length slots ≤ b) → a ≡ b
    by (inl same) _ _ = same
    by (inr (inl less)) (inl inside) _ = absurd (too.none a is.ahead less inside (is.uses inside))
    by (inr (inr more)) _ (inl inside) = absurd (is.none b too.ahead more inside (too.uses inside))
    by (inr (inl less)) (inr past) _ = (let x : a ≡ far = is.past past in let y : b ≡ far = too.past (omega arith) in omega arith)
    by (inr (inr more)) _ (inr past) = (let y : b ≡ far = too.past past in let x : a ≡ far = is.past (omega arith) in omega arith)

-- there is one last place
pub same_last : {slots : List Gate} {wire bound a b : ℕ} → IsLastOn slots wire bound a → IsLastOn slots wire bound b → a ≡ b
same_last {slots} {wire} {bound} {a} {b} is too = by (cases_order a b) (cases_lt a bound) (cases_lt b bound)
  where
    by : (a ≡ b) ⊎ ((a < b) ⊎ (b < a)) → (a < bound) ⊎ (bound ≤ a) → (b < bound) ⊎ (bound ≤ b) → a ≡ b
    by (inl same) _ _ = same
    by (inr (inl less)) _ (inl inside) = absurd (is.none b inside (λ _. less) (too.uses inside))
    by (inr (inr more)) (inl inside) _ = absurd (too.none a inside (λ _. more) (is.uses inside))
    by (inr (inl less)) (inl inside) (inr past) = absurd (too.none a inside (λ below. absurd (omega arith)) (is.uses inside))
    by (inr (inl less)) (inr out) (inr past) = (let x : a ≡ far = is.past out in let y : b ≡ far = too.past past in omega arith)
    by (inr (inr more)) (inr out) (inl inside) = absurd (is.none b inside (λ below. absurd (omega arith)) (too.uses inside))
    by (inr (inr more)) (inr out) (inr past) = (let x : a ≡ far = is.past out in let y : b ≡ far = too.past past in omega arith)

-- a place is the last one on the wire before each place up to its next one
pub last_behind : {slots : List Gate} {wire : ℕ} (place next bound : ℕ) → IsNextOn slots wire (place + 1) next → place < bound → bound ≤ next → bound ≤ length slots →
    Touches (gate_at slots place) wire → IsLastOn slots wire bound place
last_behind place next bound is less upto inside uses = record {
  uses = λ _. uses;
  none = λ p below behind. is.none p (let b : place < p = behind less in omega arith) (omega arith) (omega arith);
  past = λ above. absurd (omega arith);
}

-- a place is the next one on the wire from each place behind the last one before it
pub next_ahead : {slots : List Gate} {wire : ℕ} (place last from : ℕ) → IsLastOn slots wire place last → (last < place → last < from) → from ≤ place → place < length slots →
    Touches (gate_at slots place) wire → IsNextOn slots wire from place
next_ahead place last from is behind upto inside uses = record {
  ahead = upto;
  uses = λ _. uses;
  none = λ p above below _. is.none p below (λ less. let b : last < from = behind less in omega arith);
  past = λ above. absurd (omega arith);
}

-- the next one is that from each later place up to it
pub next_later : {slots : List Gate} {wire from next : ℕ} (later : ℕ) → IsNextOn slots wire from next → from ≤ later → later ≤ next → IsNextOn slots wire later next
next_later later is less upto = record {
  ahead = upto;
  uses = is.uses;
  none = λ p above below inside. is.none p (omega arith) below inside;
  past = is.past;
}

-- a gap is one at each later place up to the one behind it
pub gap_ahead : {slots : List Gate} {wire place before after : ℕ} (later : ℕ) → length slots < far → IsGap slots wire place before after → place ≤ later → later ≤ after →
    later ≤ length slots → IsGap slots wire later before after
gap_ahead {slots} {wire} {place} {before} {after} later few gap less upto inside = record {
  before = record {
    uses = λ below. uses below (cases_lt before place);
    none = λ p below behind. none p below behind (cases_lt p place);
    past = λ above. gap.before.past (omega arith);
  };
  after = next_later later gap.after less upto;
}
  where
    uses : before < later → (before < place) ⊎ (place ≤ before) → Touches (gate_at slots before) wire
    uses below (inl is) = gap.before.uses is
    uses below (inr past) = absurd (let e : before ≡ far = gap.before.past past in omega arith)

    none : (p : ℕ) → p < later → (before < later → before < p) → (p < place) ⊎ (place ≤ p) → ¬ Touches (gate_at slots p) wire
    none p below behind (inl is) = gap.before.none p is (λ low. behind (omega arith))
    none p below behind (inr past) = gap.after.none p past (omega arith) (omega arith)

-- the gap behind the gate that stands behind a gap
pub gap_further : {slots : List Gate} {wire place before after : ℕ} (next : ℕ) → IsGap slots wire place before after → after < length slots → IsNextOn slots wire (after + 1) next →
    IsGap slots wire (after + 1) after next
gap_further {slots} {wire} {place} {before} {after} next gap inside is = record {
  before = record {
    uses = λ _. gap.after.uses inside;
    none = λ p below behind. absurd (let b : after < p = behind (omega arith) in omega arith);
    past = λ above. absurd (omega arith);
  };
  after = is;
}

-- a gap is one at each earlier place from which on no gate uses the wire
pub gap_back : {slots : List Gate} {wire place before after : ℕ} (earlier : ℕ) → IsGap slots wire place before after → earlier ≤ place → place ≤ length slots →
    ((p : ℕ) → earlier ≤ p → p < place → ¬ Touches (gate_at slots p) wire) → IsGap slots wire earlier before after
gap_back {slots} {wire} {place} {before} {after} earlier gap less inside unused = record {
  before = record {
    uses = λ below. gap.before.uses (omega arith);
    none = λ p below behind. gap.before.none p (omega arith) (λ low. low_behind p below behind low (cases_lt before earlier));
    past = λ above. past above (cases_lt before place);
  };
  after = record {
    ahead = (let a : place ≤ after = gap.after.ahead in omega arith);
    uses = gap.after.uses;
    none = λ p above below in_list. none p above below in_list (cases_lt p place);
    past = gap.after.past;
  };
}
  where
    low_behind : (p : ℕ) → p < earlier → (before < earlier → before < p) → before < place → (before < earlier) ⊎ (earlier ≤ before) → before < p
    low_behind p below behind low (inl is) = behind is
    low_behind p below behind low (inr above) = absurd (unused before above low (gap.before.uses low))

    past : earlier ≤ before → (before < place) ⊎ (place ≤ before) → before ≡ far
    past above (inl is) = absurd (unused before above is (gap.before.uses is))
    past above (inr out) = gap.before.past out

    none : (p : ℕ) → earlier ≤ p → p < after → p < length slots → (p < place) ⊎ (place ≤ p) → ¬ Touches (gate_at slots p) wire
    none p above below in_list (inl is) = unused p above is
    none p above below in_list (inr from) = gap.after.none p from below in_list

-- Two lists that agree but at one place.
pub record AgreeBut (place : ℕ) (old new : List Gate) : Type 0 where
  pub long : length new ≡ length old
  pub same : (p : ℕ) → (p ≡ place → ⊥) → gate_at new p ≡ gate_at old p

module _ {old new : List Gate} {place : ℕ} (agree : AgreeBut place old new) where
  unused_new : (wire p : ℕ) → (p ≡ place → ⊥) → ¬ Touches (gate_at old p) wire → ¬ Touches (gate_at new p) wire
  unused_new wire p other is = subst (λ (g : Gate). ¬ Touches g wire) (sym (agree.same p other)) is

  used_new : (wire p : ℕ) → (p ≡ place → ⊥) → Touches (gate_at old p) wire → Touches (gate_at new p) wire
  used_new wire p other is = subst (λ (g : Gate). Touches g wire) (sym (agree.same p other)) is

  apart_less : {p q : ℕ} → p < q → p ≡ q → ⊥
  apart_less less same = omega arith

  apart_more : {p q : ℕ} → q < p → p ≡ q → ⊥
  apart_more less same = omega arith

  unused_at : (wire p : ℕ) → p ≡ place → ¬ Touches (gate_at new place) wire → ¬ Touches (gate_at new p) wire
  unused_at wire p here is = subst (λ (q : ℕ). ¬ Touches (gate_at new q) wire) (sym here) is

  -- the next place stays, unless the gate that changed stands there, or comes before it
  pub next_kept : {wire from next : ℕ} → IsNextOn old wire from next → (next ≡ place → ⊥) → (from ≤ place → place < next → ¬ Touches (gate_at new place) wire) →
      IsNextOn new wire from next
  next_kept {wire} {from} {next} is other unused = (let l : length new ≡ length old = agree.long in record {
    ahead = is.ahead;
    uses = λ inside. used_new wire next other (is.uses (omega arith));
    none = λ p above below inside. none p above below (omega arith) (cases_order p place);
    past = λ above. is.past (omega arith);
  })
    where
      none : (p : ℕ) → from ≤ p → p < next → p < length old → (p ≡ place) ⊎ ((p < place) ⊎ (place < p)) → ¬ Touches (gate_at new p) wire
      none p above below inside (inl here) = unused_at wire p here (unused (omega arith) (omega arith))
      none p above below inside (inr (inl less)) = unused_new wire p (apart_less less) (is.none p above below inside)
      none p above below inside (inr (inr more)) = unused_new wire p (apart_more more) (is.none p above below inside)

  -- the last place stays likewise
  pub last_kept : {wire bound last : ℕ} → IsLastOn old wire bound last → (last ≡ place → ⊥) →
      (place < bound → (last < bound → last < place) → ¬ Touches (gate_at new place) wire) → IsLastOn new wire bound last
  last_kept {wire} {bound} {last} is other unused = record {
    uses = λ below. used_new wire last other (is.uses below);
    none = λ p below behind. none p below behind (cases_order p place);
    past = is.past;
  }
    where
      none : (p : ℕ) → p < bound → (last < bound → last < p) → (p ≡ place) ⊎ ((p < place) ⊎ (place < p)) → ¬ Touches (gate_at new p) wire
      none p below behind (inl here) = unused_at wire p here (unused (omega arith) (λ low. let b : last < p = behind low in omega arith))
      none p below behind (inr (inl less)) = unused_new wire p (apart_less less) (is.none p below behind)
      none p below behind (inr (inr more)) = unused_new wire p (apart_more more) (is.none p below behind)

  -- a gap stays where neither the old nor the new gate uses the wire
  pub gap_kept : {wire at before after : ℕ} → at ≤ length old → length old < far → IsGap old wire at before after → place < length old →
      ¬ Touches (gate_at old place) wire → ¬ Touches (gate_at new place) wire → IsGap new wire at before after
  gap_kept {wire} {at} {before} {after} inside few gap below unused_old unused = record {
    before = last_kept gap.before (λ here. last_not here (cases_lt before at)) (λ _ _. unused);
    after = next_kept gap.after (λ here. unused_old (subst (λ (q : ℕ). Touches (gate_at old q) wire) here (gap.after.uses (omega arith)))) (λ _ _. unused);
  }
    where
      last_not : before ≡ place → (before < at) ⊎ (at ≤ before) → ⊥
      last_not here (inl is) = unused_old (subst (λ (q : ℕ). Touches (gate_at old q) wire) here (gap.before.uses is))
      last_not here (inr past) = (let e : before ≡ far = gap.before.past past in omega arith)

  -- A gate goes: what stood before and behind it on the wire become neighbours.
  module _ {wire before after : ℕ} (few : length old < far) (inside : place < length old) (last : IsLastOn old wire place before) (next : IsNextOn old wire (place + 1) after)
      (unused : ¬ Touches (gate_at new place) wire) where
    none_before : (p : ℕ) → p < place → (before < place → before < p) → ¬ Touches (gate_at new p) wire
    none_before p less behind = unused_new wire p (apart_less less) (last.none p less behind)

    none_from : (p : ℕ) → place ≤ p → p < after → p < length old → (p ≡ place) ⊎ ((p < place) ⊎ (place < p)) → ¬ Touches (gate_at new p) wire
    none_from p from below in_list (inl here) = unused_at wire p here unused
    none_from p from below in_list (inr (inl less)) = absurd (omega arith)
    none_from p from below in_list (inr (inr more)) = unused_new wire p (apart_more more) (next.none p (omega arith) below in_list)

    pub gap_left : IsGap new wire place before after
    gap_left = (let l : length new ≡ length old = agree.long in record {
      before = last_kept last (λ here. (let e : before ≡ far = last.past (omega arith) in omega arith)) (λ _ _. unused);
      after = record {
        ahead = (let a : place + 1 ≤ after = next.ahead in omega arith);
        uses = λ below. used_new wire after (λ here. (let a : place + 1 ≤ after = next.ahead in omega arith)) (next.uses (omega arith));
        none = λ p from below in_list. none_from p from below (omega arith) (cases_order p place);
        past = λ above. next.past (omega arith);
      };
    })

    pub next_over : before < place → IsNextOn new wire (before + 1) after
    next_over is = (let l : length new ≡ length old = agree.long in record {
      ahead = (let a : place + 1 ≤ after = next.ahead in omega arith);
      uses = gap_left.after.uses;
      none = λ p above below in_list. none p above below (omega arith) (cases_lt p place);
      past = gap_left.after.past;
    })
      where
        none : (p : ℕ) → before + 1 ≤ p → p < after → p < length old → (p < place) ⊎ (place ≤ p) → ¬ Touches (gate_at new p) wire
        none p above below in_list (inl less) = none_before p less (λ _. omega arith)
        none p above below in_list (inr from) = none_from p from below in_list (cases_order p place)

    pub last_over : after < length old → IsLastOn new wire after before
    last_over is = (let a : place + 1 ≤ after = next.ahead in record {
      uses = λ below. uses below (cases_lt before place);
      none = λ p below behind. none p below behind (cases_lt p place);
      past = λ above. last.past (omega arith);
    })
      where
        uses : before < after → (before < place) ⊎ (place ≤ before) → Touches (gate_at new before) wire
        uses below (inl less) = used_new wire before (apart_less less) (last.uses less)
        uses below (inr past) = absurd (let e : before ≡ far = last.past past in omega arith)

        none : (p : ℕ) → p < after → (before < after → before < p) → (p < place) ⊎ (place ≤ p) → ¬ Touches (gate_at new p) wire
        none p below behind (inl less) = none_before p less (λ low. behind (let a : place + 1 ≤ after = next.ahead in omega arith))
        none p below behind (inr from) = none_from p from below (omega arith) (cases_order p place)

  -- A gate comes: it stands between the places of the gap.
  module _ {wire before after : ℕ} (few : length old < far) (inside : place < length old) (gap : IsGap old wire place before after)
      (free : ¬ Touches (gate_at old place) wire) (uses_new : Touches (gate_at new place) wire) where
    behind_new : place + 1 ≤ after
    behind_new = by (cases_order after place)
      where
        by : (after ≡ place) ⊎ ((after < place) ⊎ (place < after)) → place + 1 ≤ after
        by (inl here) = absurd (free (subst (λ (q : ℕ). Touches (gate_at old q) wire) here (gap.after.uses (omega arith))))
        by (inr (inl less)) = absurd (let a : place ≤ after = gap.after.ahead in omega arith)
        by (inr (inr more)) = omega arith

    pub next_of_new : IsNextOn new wire (place + 1) after
    next_of_new = next_kept (next_later (place + 1) gap.after (omega arith) behind_new) (λ here. (let b : place + 1 ≤ after = behind_new in omega arith)) (λ above below. absurd (omega arith))

    pub last_of_new : IsLastOn new wire place before
    last_of_new = last_kept gap.before (λ here. (let e : before ≡ far = gap.before.past (omega arith) in omega arith)) (λ below _. absurd (omega arith))

    pub next_to_new : before < place → IsNextOn new wire (before + 1) place
    next_to_new less = next_ahead place before (before + 1) last_of_new (λ _. omega arith) (omega arith) (let l : length new ≡ length old = agree.long in omega arith) uses_new

    pub last_to_new : after < length old → IsLastOn new wire after place
    last_to_new is = last_behind place after after next_of_new (let b : place + 1 ≤ after = behind_new in omega arith) (omega arith) (let l : length new ≡ length old = agree.long in omega arith) uses_new

    -- the gap behind the new gate
    pub gap_behind : IsGap new wire (place + 1) place after
    gap_behind = (let l : length new ≡ length old = agree.long in record {
      before = last_behind place after (place + 1) next_of_new (omega arith) behind_new (omega arith) uses_new;
      after = next_of_new;
    })
