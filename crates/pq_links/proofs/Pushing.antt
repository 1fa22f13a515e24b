-- The links of a list with a gate more.
use Rattle.std.proofs.Common.{◌≡◌, ◌≢◌, ℕ, ◌+◌, ◌<◌, ◌≤◌, ◌==◌, Bool, true, false, List, [], ◌∷◌, ◌++◌, length, get_or, set, take, drop, refl, sym, ap, subst, ◌∙◌, arith, inl, inr, ◌⊎◌}
use Rattle.std.proofs.lemmas.Bool.{cases_order, cases_lt}
use Rattle.std.proofs.Math.ListN.{get_or-append}
use Rattle.std.proofs.lemmas.Grind.{get_or-set_at}
use Rattle.std.proofs.lemmas.List.{length-append, length-set, get_or-set_other, take-append-le}
use Rattle.std.proofs.Math.Seq.{get_or-append_seam, take-length}
use Rattle.pq_gate.specs.declared.gate.Gate.{Gate}
use Rattle.pq_gate.specs.declared.gate.Gate.TheVariants.{H}
use Rattle.pq_gate.specs.Commuting.{Touches}
use Rattle.pq_links.specs.declared.links.Sides.{Sides}
use Rattle.pq_links.specs.Wires.{wire_of}
use Rattle.pq_links.specs.Places.{gate_at}
use Rattle.pq_links.specs.declared.links.Head.{Head}
use Rattle.pq_links.specs.declared.links.Spot.{Spot}
use Rattle.pq_links.specs.Links.{bucket_of, side, side_at, head_at, far, IsHead, IsNextOn, IsLastIn, IsLastOn, LinksView, AreLinked}
use Rattle.pq_links.proofs.Buckets.{bucket_below}
use Rattle.pq_links.specs.Leading.{IsHeadOf, IsLedAt, AreLed, IsSpot}
use Rattle.pq_links.proofs.Touching.{touching, on_which}

module _ (gates : List Gate) (gate : Gate) where
  long : length (gates ++ gate ∷ []) ≡ length gates + 1
  long = length-append gates (gate ∷ [])

  old_at : (p : ℕ) → p < length gates → gate_at (gates ++ gate ∷ []) p ≡ gate_at gates p
  old_at p below = get_or-append gates (gate ∷ []) (H 0) p below

  new_at : gate_at (gates ++ gate ∷ []) (length gates) ≡ gate
  new_at = get_or-append_seam gates gate [] (H 0)

  pub next_new : (wire p : ℕ) → p < length gates → length gates < far → IsLastOn gates wire (length gates) p → Touches gate wire →
      IsNextOn (gates ++ gate ∷ []) wire (p + 1) (length gates)
  next_new wire p below few last uses = record {
    ahead = omega arith;
    uses = λ less. subst (λ (g : Gate). Touches g wire) (sym new_at) uses;
    none = λ q from upto inside.
        subst (λ (g : Gate). ¬ Touches g wire) (sym (old_at q upto)) (last.none q upto (λ less. omega arith));
    past = λ above. absurd (let l : length (gates ++ gate ∷ []) ≡ length gates + 1 = long in omega arith);
  }

  pub next_old : (wire p c : ℕ) → length gates < far → IsNextOn gates wire (p + 1) c → (length gates ≤ c → ¬ Touches gate wire) →
      IsNextOn (gates ++ gate ∷ []) wire (p + 1) c
  next_old wire p c few next other = record {
    ahead = next.ahead;
    uses = λ less. uses less (cases_order c (length gates));
    none = λ q from upto inside. none q from upto (cases_order q (length gates)) inside;
    past = λ above. (let l : length (gates ++ gate ∷ []) ≡ length gates + 1 = long in next.past (omega arith));
  }
    where
      uses : c < length (gates ++ gate ∷ []) → (c ≡ length gates) ⊎ ((c < length gates) ⊎ (length gates < c)) → Touches (gate_at (gates ++ gate ∷ []) c) wire
      uses less (inl same) = (let e : c ≡ far = next.past (omega arith) in absurd (omega arith))
      uses less (inr (inl below)) = subst (λ (g : Gate). Touches g wire) (sym (old_at c below)) (next.uses below)
      uses less (inr (inr above)) = (let l : length (gates ++ gate ∷ []) ≡ length gates + 1 = long in absurd (omega arith))

      none : (q : ℕ) → p + 1 ≤ q → q < c → (q ≡ length gates) ⊎ ((q < length gates) ⊎ (length gates < q)) → q < length (gates ++ gate ∷ []) → ¬ Touches (gate_at (gates ++ gate ∷ []) q) wire
      none q from upto (inl same) inside =
          subst (λ (g : Gate). ¬ Touches g wire) (sym (ap (λ (k : ℕ). gate_at (gates ++ gate ∷ []) k) same ∙ new_at)) (other (omega arith))
      none q from upto (inr (inl below)) inside = subst (λ (g : Gate). ¬ Touches g wire) (sym (old_at q below)) (next.none q from upto below)
      none q from upto (inr (inr above)) inside = (let l : length (gates ++ gate ∷ []) ≡ length gates + 1 = long in absurd (omega arith))

  -- a gate that isn't the last one on its wire has a next one
  pub has_next : (wire last p c : ℕ) → length gates < far → IsLastOn gates wire (length gates) last → p < length gates → Touches (gate_at gates p) wire →
      IsNextOn gates wire (p + 1) c → p ≢ last → c < length gates
  has_next wire last p c few is below uses next other = by (cases_order c (length gates)) (cases_order last (length gates)) (cases_order p last)
    where
      by : (c ≡ length gates) ⊎ ((c < length gates) ⊎ (length gates < c)) → (last ≡ length gates) ⊎ ((last < length gates) ⊎ (length gates < last)) →
          (p ≡ last) ⊎ ((p < last) ⊎ (last < p)) → c < length gates
      by (inr (inl less)) _ _ = less
      by _ _ (inl same) = absurd (other same)
      by _ _ (inr (inr behind)) = absurd (is.none p below (λ _. behind) uses)
      by _ (inl end) (inr (inl before)) = absurd (is.none p below (λ less. absurd (omega arith)) uses)
      by _ (inr (inr past)) (inr (inl before)) = absurd (is.none p below (λ less. absurd (omega arith)) uses)
      by (inl end) (inr (inl inside)) (inr (inl before)) = absurd (next.none last (omega arith) (omega arith) inside (is.uses inside))
      by (inr (inr past)) (inr (inl inside)) (inr (inl before)) = absurd (next.none last (omega arith) (omega arith) inside (is.uses inside))

  pub last_in_more : (buckets bucket bound c : ℕ) → bound ≤ length gates → IsLastIn buckets bucket gates bound c → IsLastIn buckets bucket (gates ++ gate ∷ []) bound c
  last_in_more buckets bucket bound c upto last = record {
    «in» = λ less. subst (λ (g : Gate). (one : Bool) × (bucket_of buckets (wire_of one g) ≡ bucket)) (sym (old_at c (omega arith))) (last.«in» less);
    none = λ p below behind. subst (λ (g : Gate). (one : Bool) → bucket_of buckets (wire_of one g) ≢ bucket) (sym (old_at p (omega arith))) (last.none p below behind);
    past = last.past;
  }

  -- the gate is the last in its buckets,
  head_new : (buckets bucket : ℕ) (one : Bool) → bucket_of buckets (wire_of one gate) ≡ bucket → IsLastIn buckets bucket (gates ++ gate ∷ []) (length (gates ++ gate ∷ [])) (length gates)
  head_new buckets bucket one is = record {
    «in» = λ less. subst (λ (g : Gate). (one : Bool) × (bucket_of buckets (wire_of one g) ≡ bucket)) (sym new_at) (one, is);
    none = λ p below behind. absurd (let l : length (gates ++ gate ∷ []) ≡ length gates + 1 = long in let b : length gates < p = behind (omega arith) in omega arith);
    past = λ above. absurd (let l : length (gates ++ gate ∷ []) ≡ length gates + 1 = long in omega arith);
  }

  -- and the others stay as they were
  head_old : (buckets bucket c : ℕ) → length gates < far → IsLastIn buckets bucket gates (length gates) c → ((one : Bool) → bucket_of buckets (wire_of one gate) ≢ bucket) →
      IsLastIn buckets bucket (gates ++ gate ∷ []) (length (gates ++ gate ∷ [])) c
  head_old buckets bucket c few last other = record {
    «in» = λ less. among less (cases_order c (length gates));
    none = λ p below behind. none p below behind (cases_order p (length gates));
    past = λ above. (let l : length (gates ++ gate ∷ []) ≡ length gates + 1 = long in last.past (omega arith));
  }
    where
      among : c < length (gates ++ gate ∷ []) → (c ≡ length gates) ⊎ ((c < length gates) ⊎ (length gates < c)) →
          (one : Bool) × (bucket_of buckets (wire_of one (gate_at (gates ++ gate ∷ []) c)) ≡ bucket)
      among less (inl same) = (let e : c ≡ far = last.past (omega arith) in absurd (omega arith))
      among less (inr (inl below)) = subst (λ (g : Gate). (one : Bool) × (bucket_of buckets (wire_of one g) ≡ bucket)) (sym (old_at c below)) (last.«in» below)
      among less (inr (inr above)) = (let l : length (gates ++ gate ∷ []) ≡ length gates + 1 = long in absurd (omega arith))

      none : (p : ℕ) → p < length (gates ++ gate ∷ []) → (c < length (gates ++ gate ∷ []) → c < p) → (p ≡ length gates) ⊎ ((p < length gates) ⊎ (length gates < p)) →
          (one : Bool) → bucket_of buckets (wire_of one (gate_at (gates ++ gate ∷ []) p)) ≢ bucket
      none p below behind (inl same) =
          subst (λ (g : Gate). (one : Bool) → bucket_of buckets (wire_of one g) ≢ bucket) (sym (ap (λ (k : ℕ). gate_at (gates ++ gate ∷ []) k) same ∙ new_at)) other
      none p below behind (inr (inl less)) =
          subst (λ (g : Gate). (one : Bool) → bucket_of buckets (wire_of one g) ≢ bucket) (sym (old_at p less))
          (last.none p less (λ low. behind (let l : length (gates ++ gate ∷ []) ≡ length gates + 1 = long in omega arith)))
      none p below behind (inr (inr above)) = (let l : length (gates ++ gate ∷ []) ≡ length gates + 1 = long in absurd (omega arith))

  -- the head of a bucket of the gate,
  own_head : (buckets bucket : ℕ) (one : Bool) (head : Head) → bucket_of buckets (wire_of one gate) ≡ bucket → IsHeadOf gate (length gates) (wire_of one gate) head →
      IsHead buckets bucket (gates ++ gate ∷ []) head
  own_head buckets bucket one head is of_gate = record {
    last = subst (λ (p : ℕ). IsLastIn buckets bucket (gates ++ gate ∷ []) (length (gates ++ gate ∷ [])) p) (sym of_gate.at) (head_new buckets bucket one is);
    uses = λ _. subst (λ (g : Gate). Touches g head.wire) (sym there) (subst (Touches gate) (sym of_gate.on) (touching gate one));
    sides = λ side _. of_gate.sides side
        ∙ (ap (λ (w : ℕ). wire_of side gate == w) (sym of_gate.on) ∙ ap (λ (g : Gate). wire_of side g == head.wire) (sym there));
    none = λ past side. absurd (let l : length (gates ++ gate ∷ []) ≡ length gates + 1 = long in let e : head.place ≡ length gates = of_gate.at in omega arith);
  }
    where
      there : gate_at (gates ++ gate ∷ []) head.place ≡ gate
      there = ap (λ (p : ℕ). gate_at (gates ++ gate ∷ []) p) of_gate.at ∙ new_at

  -- and that of another one
  other_bucket : (buckets bucket : ℕ) (head : Head) → length gates < far → IsHead buckets bucket gates head → ((one : Bool) → bucket_of buckets (wire_of one gate) ≢ bucket) →
      IsHead buckets bucket (gates ++ gate ∷ []) head
  other_bucket buckets bucket head few is other = record {
    last = head_old buckets bucket head.place few is.last other;
    uses = λ below. subst (λ (g : Gate). Touches g head.wire) (sym (old_at head.place (inside below))) (is.uses (inside below));
    sides = λ side below. is.sides side (inside below) ∙ ap (λ (g : Gate). wire_of side g == head.wire) (sym (old_at head.place (inside below)));
    none = λ past. is.none (let l : length (gates ++ gate ∷ []) ≡ length gates + 1 = long in omega arith);
  }
    where
      inside : head.place < length (gates ++ gate ∷ []) → head.place < length gates
      inside below = by (cases_lt head.place (length gates))
        where
          by : (head.place < length gates) ⊎ (length gates ≤ head.place) → head.place < length gates
          by (inl less) = less
          by (inr past) = absurd (let e : head.place ≡ far = is.last.past past in let l : length (gates ++ gate ∷ []) ≡ length gates + 1 = long in omega arith)

  -- the last place on a wire before a bound
  last_more : (wire bound c : ℕ) → bound ≤ length gates → IsLastOn gates wire bound c → IsLastOn (gates ++ gate ∷ []) wire bound c
  last_more wire bound c upto last = record {
    uses = λ less. subst (λ (g : Gate). Touches g wire) (sym (old_at c (omega arith))) (last.uses less);
    none = λ p below behind. subst (λ (g : Gate). ¬ Touches g wire) (sym (old_at p (omega arith))) (last.none p below behind);
    past = last.past;
  }

  module _ (links : LinksView) (linked : AreLinked gates links) (few : length gates < far) (last : Sides) (led : List Sides)
      (is_last : (b : Bool) → IsLastOn gates (wire_of b gate) (length gates) (side b last))
      (are_led : AreLed gates gate last (record { first = length gates; second = length gates }) (links.next ++ (record { first = far; second = far }) ∷ []) led)
      (is_far : (one : Bool) → side_at one led (length gates) ≡ far) where
    nexts : length led ≡ length gates + 1
    nexts = are_led.long ∙ (length-append links.next ((record { first = far; second = far }) ∷ []) ∙ ap (λ (n : ℕ). n + 1) linked.nexts)

    -- an old gate's sides stand where they stood
    kept_at : (p : ℕ) (one : Bool) → p < length gates → side_at one (links.next ++ (record { first = far; second = far }) ∷ []) p ≡ side_at one links.next p
    kept_at p one below = ap (side one) (get_or-append links.next ((record { first = far; second = far }) ∷ []) (record { first = 0; second = 0 }) p (let l : length links.next ≡ length gates = linked.nexts in omega arith))

    -- the next place on a wire of an old gate
    next_of : (p : ℕ) (one : Bool) → p < length gates → IsNextOn (gates ++ gate ∷ []) (wire_of one (gate_at gates p)) (p + 1) (side_at one led p)
    next_of p one below = by (are_led.each p one below)
      where
        old : IsNextOn gates (wire_of one (gate_at gates p)) (p + 1) (side_at one links.next p)
        old = linked.next p one below

        at : {c d : ℕ} → c ≡ d → IsNextOn (gates ++ gate ∷ []) (wire_of one (gate_at gates p)) (p + 1) d → IsNextOn (gates ++ gate ∷ []) (wire_of one (gate_at gates p)) (p + 1) c
        at same is = subst (λ (c : ℕ). IsNextOn (gates ++ gate ∷ []) (wire_of one (gate_at gates p)) (p + 1) c) (sym same) is

        to_new : (last : ℕ) (b : Bool) → wire_of one (gate_at gates p) ≡ wire_of b gate → p ≡ last → IsLastOn gates (wire_of b gate) (length gates) last →
            IsNextOn (gates ++ gate ∷ []) (wire_of one (gate_at gates p)) (p + 1) (length gates)
        to_new last b same here is =
            next_new (wire_of one (gate_at gates p)) p below few
            (subst (λ (q : ℕ). IsLastOn gates (wire_of one (gate_at gates p)) (length gates) q) (sym here) (subst (λ (w : ℕ). IsLastOn gates w (length gates) last) (sym same) is))
            (subst (Touches gate) (sym same) (touching gate b))

        to_old : (last : ℕ) (b : Bool) → wire_of one (gate_at gates p) ≡ wire_of b gate → p ≢ last → IsLastOn gates (wire_of b gate) (length gates) last →
            IsNextOn (gates ++ gate ∷ []) (wire_of one (gate_at gates p)) (p + 1) (side_at one links.next p)
        to_old last b same other is =
            let less : side_at one links.next p < length gates =
            has_next (wire_of one (gate_at gates p)) last p (side_at one links.next p) few (subst (λ (w : ℕ). IsLastOn gates w (length gates) last) (sym same) is) below
            (touching (gate_at gates p) one) old other in
            next_old (wire_of one (gate_at gates p)) p (side_at one links.next p) few old (λ above. absurd (omega arith))

        here : (b : Bool) → side b (record { first = length gates; second = length gates }) ≡ length gates
        here true = refl
        here false = refl

        by : ((b : Bool) × IsLedAt gates gate last one p b × (side_at one led p ≡ side b (record { first = length gates; second = length gates })))
            ⊎ (((b : Bool) → ¬ IsLedAt gates gate last one p b) × (side_at one led p ≡ side_at one (links.next ++ (record { first = far; second = far }) ∷ []) p)) →
            IsNextOn (gates ++ gate ∷ []) (wire_of one (gate_at gates p)) (p + 1) (side_at one led p)
        by (inl (b, is_led, noted)) = at (noted ∙ here b) (to_new (side b last) b is_led.on is_led.here (is_last b))
        by (inr (none, kept)) = at (kept ∙ kept_at p one below) (still (on_which gate (wire_of one (gate_at gates p))))
          where
            still : ((b : Bool) × (wire_of one (gate_at gates p) ≡ wire_of b gate)) ⊎ (¬ Touches gate (wire_of one (gate_at gates p))) →
                IsNextOn (gates ++ gate ∷ []) (wire_of one (gate_at gates p)) (p + 1) (side_at one links.next p)
            still (inl (b, on)) = to_old (side b last) b on (λ same. none b (record { here = same; on = on })) (is_last b)
            still (inr unused) = next_old (wire_of one (gate_at gates p)) p (side_at one links.next p) few old (λ above. unused)

    previouses_more : (p : ℕ) (one : Bool) → p < length (gates ++ gate ∷ []) → (p ≡ length gates) ⊎ ((p < length gates) ⊎ (length gates < p)) →
        IsLastOn (gates ++ gate ∷ []) (wire_of one (gate_at (gates ++ gate ∷ []) p)) p (side_at one (links.previous ++ last ∷ []) p)
    previouses_more p one below (inl same) =
        subst (λ (g : Gate). IsLastOn (gates ++ gate ∷ []) (wire_of one g) p (side_at one (links.previous ++ last ∷ []) p)) (sym gate_is)
        (subst (λ (s : Sides). IsLastOn (gates ++ gate ∷ []) (wire_of one gate) p (side one s)) (sym there)
        (subst (λ (q : ℕ). IsLastOn (gates ++ gate ∷ []) (wire_of one gate) q (side one last)) (sym same)
        (last_more (wire_of one gate) (length gates) (side one last) (omega arith) (is_last one))))
      where
        there : get_or (links.previous ++ last ∷ []) p (record { first = 0; second = 0 }) ≡ last
        there = ap (λ (k : ℕ). get_or (links.previous ++ last ∷ []) k (record { first = 0; second = 0 })) (same ∙ sym linked.previouses) ∙ get_or-append_seam links.previous last [] (record { first = 0; second = 0 })

        gate_is : gate_at (gates ++ gate ∷ []) p ≡ gate
        gate_is = ap (λ (k : ℕ). gate_at (gates ++ gate ∷ []) k) same ∙ new_at
    previouses_more p one below (inr (inl less)) =
        subst (λ (g : Gate). IsLastOn (gates ++ gate ∷ []) (wire_of one g) p (side_at one (links.previous ++ last ∷ []) p)) (sym (old_at p less))
        (subst (λ (s : Sides). IsLastOn (gates ++ gate ∷ []) (wire_of one (gate_at gates p)) p (side one s))
        (sym (get_or-append links.previous (last ∷ []) (record { first = 0; second = 0 }) p (let l : length links.previous ≡ length gates = linked.previouses in omega arith)))
        (last_more (wire_of one (gate_at gates p)) p _ (omega arith) (linked.previous p one less)))
    previouses_more p one below (inr (inr above)) = absurd (let l : length (gates ++ gate ∷ []) ≡ length gates + 1 = long in omega arith)

    module _ (before : Sides) (buckets : ℕ) (are : buckets ≡ length links.heads)
        (one_before : before.first ≡ (head_at links.heads (bucket_of buckets (wire_of false gate))).place)
        (other_before : before.second ≡ (head_at links.heads (bucket_of buckets (wire_of true gate))).place)
        (one_head other_head : Head) (is_one : IsHeadOf gate (length gates) (wire_of false gate) one_head) (is_other : IsHeadOf gate (length gates) (wire_of true gate) other_head) where
      nexts_more : (p : ℕ) (one : Bool) → p < length (gates ++ gate ∷ []) → (p ≡ length gates) ⊎ ((p < length gates) ⊎ (length gates < p)) →
          IsNextOn (gates ++ gate ∷ []) (wire_of one (gate_at (gates ++ gate ∷ []) p)) (p + 1) (side_at one led p)
      nexts_more p one below (inl same) =
          subst (λ (c : ℕ). IsNextOn (gates ++ gate ∷ []) (wire_of one (gate_at (gates ++ gate ∷ []) p)) (p + 1) c) (sym (ap (λ (q : ℕ). side_at one led q) same ∙ is_far one)) (record {
            ahead = omega arith;
            uses = λ less. absurd (let l : length (gates ++ gate ∷ []) ≡ length gates + 1 = long in omega arith);
            none = λ q from upto inside. absurd (let l : length (gates ++ gate ∷ []) ≡ length gates + 1 = long in omega arith);
            past = λ above. refl;
          })
      nexts_more p one below (inr (inl less)) =
          subst (λ (g : Gate). IsNextOn (gates ++ gate ∷ []) (wire_of one g) (p + 1) (side_at one led p)) (sym (old_at p less)) (next_of p one less)
      nexts_more p one below (inr (inr above)) = absurd (let l : length (gates ++ gate ∷ []) ≡ length gates + 1 = long in omega arith)

      befores_more : (p : ℕ) (one : Bool) → p < length (gates ++ gate ∷ []) → (p ≡ length gates) ⊎ ((p < length gates) ⊎ (length gates < p)) →
          IsLastIn (length links.heads) (bucket_of (length links.heads) (wire_of one (gate_at (gates ++ gate ∷ []) p))) (gates ++ gate ∷ []) p (side_at one (links.before ++ before ∷ []) p)
      befores_more p one below (inl same) = rest one
        where
          there : get_or (links.before ++ before ∷ []) p (record { first = 0; second = 0 }) ≡ before
          there = ap (λ (k : ℕ). get_or (links.before ++ before ∷ []) k (record { first = 0; second = 0 })) (same ∙ sym linked.befores) ∙ get_or-append_seam links.before before [] (record { first = 0; second = 0 })

          gate_is : gate_at (gates ++ gate ∷ []) p ≡ gate
          gate_is = ap (λ (k : ℕ). gate_at (gates ++ gate ∷ []) k) same ∙ new_at

          side_is : (one : Bool) → side one before ≡ (head_at links.heads (bucket_of (length links.heads) (wire_of one gate))).place
          side_is true = other_before ∙ ap (λ (b : ℕ). (head_at links.heads (bucket_of b (wire_of true gate))).place) are
          side_is false = one_before ∙ ap (λ (b : ℕ). (head_at links.heads (bucket_of b (wire_of false gate))).place) are

          rest : (one : Bool) → IsLastIn (length links.heads) (bucket_of (length links.heads) (wire_of one (gate_at (gates ++ gate ∷ []) p))) (gates ++ gate ∷ []) p (side_at one (links.before ++ before ∷ []) p)
          rest one =
              subst (λ (g : Gate). IsLastIn (length links.heads) (bucket_of (length links.heads) (wire_of one g)) (gates ++ gate ∷ []) p (side_at one (links.before ++ before ∷ []) p)) (sym gate_is)
              (subst (λ (s : Sides). IsLastIn (length links.heads) (bucket_of (length links.heads) (wire_of one gate)) (gates ++ gate ∷ []) p (side one s)) (sym there)
              (subst (λ (c : ℕ). IsLastIn (length links.heads) (bucket_of (length links.heads) (wire_of one gate)) (gates ++ gate ∷ []) p c) (sym (side_is one))
              (subst (λ (q : ℕ). IsLastIn (length links.heads) (bucket_of (length links.heads) (wire_of one gate)) (gates ++ gate ∷ []) q (head_at links.heads (bucket_of (length links.heads) (wire_of one gate))).place) (sym same)
              (last_in_more (length links.heads) (bucket_of (length links.heads) (wire_of one gate)) (length gates) _ (omega arith)
              (linked.heads (bucket_of (length links.heads) (wire_of one gate)) (bucket_below (length links.heads) (wire_of one gate) linked.some)).last))))
      befores_more p one below (inr (inl less)) =
          subst (λ (g : Gate). IsLastIn (length links.heads) (bucket_of (length links.heads) (wire_of one g)) (gates ++ gate ∷ []) p (side_at one (links.before ++ before ∷ []) p)) (sym (old_at p less))
          (subst (λ (s : Sides). IsLastIn (length links.heads) (bucket_of (length links.heads) (wire_of one (gate_at gates p))) (gates ++ gate ∷ []) p (side one s))
          (sym (get_or-append links.before (before ∷ []) (record { first = 0; second = 0 }) p (let l : length links.before ≡ length gates = linked.befores in omega arith)))
          (last_in_more (length links.heads) (bucket_of (length links.heads) (wire_of one (gate_at gates p))) p _ (omega arith) (linked.before p one less)))
      befores_more p one below (inr (inr above)) = absurd (let l : length (gates ++ gate ∷ []) ≡ length gates + 1 = long in omega arith)

      abbrev first_set : List Head
      first_set = set links.heads (bucket_of buckets (wire_of false gate)) one_head

      abbrev both_set : List Head
      both_set = set first_set (bucket_of buckets (wire_of true gate)) other_head

      heads_long : length both_set ≡ length links.heads
      heads_long = length-set first_set (bucket_of buckets (wire_of true gate)) other_head ∙ length-set links.heads (bucket_of buckets (wire_of false gate)) one_head

      heads_more : (k : ℕ) → k < length links.heads →
          (k ≡ bucket_of buckets (wire_of false gate)) ⊎ ((k < bucket_of buckets (wire_of false gate)) ⊎ (bucket_of buckets (wire_of false gate) < k)) →
          (k ≡ bucket_of buckets (wire_of true gate)) ⊎ ((k < bucket_of buckets (wire_of true gate)) ⊎ (bucket_of buckets (wire_of true gate) < k)) →
          IsHead (length links.heads) k (gates ++ gate ∷ []) (head_at both_set k)
      heads_more k below _ (inl second) =
          subst (λ (h : Head). IsHead (length links.heads) k (gates ++ gate ∷ []) h)
          (sym (get_or-set_at first_set (bucket_of buckets (wire_of true gate)) k other_head (record { wire = 0; place = 0; first = false; last = false }) second
          (let l : length first_set ≡ length links.heads = length-set links.heads (bucket_of buckets (wire_of false gate)) one_head in omega arith)))
          (own_head (length links.heads) k true other_head (ap (λ (b : ℕ). bucket_of b (wire_of true gate)) (sym are) ∙ sym second) is_other)
      heads_more k below (inl first) (inr not_second) =
          subst (λ (h : Head). IsHead (length links.heads) k (gates ++ gate ∷ []) h)
          (sym (get_or-set_other first_set (bucket_of buckets (wire_of true gate)) k other_head (record { wire = 0; place = 0; first = false; last = false }) (apart not_second)
          ∙ get_or-set_at links.heads (bucket_of buckets (wire_of false gate)) k one_head (record { wire = 0; place = 0; first = false; last = false }) first (omega arith)))
          (own_head (length links.heads) k false one_head (ap (λ (b : ℕ). bucket_of b (wire_of false gate)) (sym are) ∙ sym first) is_one)
        where
          apart : {a b : ℕ} → (a < b) ⊎ (b < a) → a ≢ b
          apart (inl less) same = omega arith
          apart (inr more) same = omega arith
      heads_more k below (inr not_first) (inr not_second) =
          subst (λ (h : Head). IsHead (length links.heads) k (gates ++ gate ∷ []) h)
          (sym (get_or-set_other first_set (bucket_of buckets (wire_of true gate)) k other_head (record { wire = 0; place = 0; first = false; last = false }) (apart not_second)
          ∙ get_or-set_other links.heads (bucket_of buckets (wire_of false gate)) k one_head (record { wire = 0; place = 0; first = false; last = false }) (apart not_first)))
          (other_bucket (length links.heads) k (head_at links.heads k) few (linked.heads k below) neither)
        where
          apart : {a b : ℕ} → (a < b) ⊎ (b < a) → a ≢ b
          apart (inl less) same = omega arith
          apart (inr more) same = omega arith

          neither : (one : Bool) → bucket_of (length links.heads) (wire_of one gate) ≢ k
          neither true same = apart not_second (sym same ∙ ap (λ (b : ℕ). bucket_of b (wire_of true gate)) (sym are))
          neither false same = apart not_first (sym same ∙ ap (λ (b : ℕ). bucket_of b (wire_of false gate)) (sym are))

      pub linked_more : (room : ℕ) → AreLinked (gates ++ gate ∷ []) (record {
        next = led;
        previous = links.previous ++ last ∷ [];
        before = links.before ++ before ∷ [];
        heads = both_set;
        room = room;
      })
      linked_more room = record {
        nexts = nexts ∙ sym long;
        previouses = length-append links.previous (last ∷ []) ∙ (let l : length links.previous ≡ length gates = linked.previouses in let m : length (gates ++ gate ∷ []) ≡ length gates + 1 = long in let e : length links.previous + 1 ≡ length (gates ++ gate ∷ []) = omega arith in e);
        befores = length-append links.before (before ∷ []) ∙ (let l : length links.before ≡ length gates = linked.befores in let m : length (gates ++ gate ∷ []) ≡ length gates + 1 = long in let e : length links.before + 1 ≡ length (gates ++ gate ∷ []) = omega arith in e);
        some = (let s : 0 < length links.heads = linked.some in let l = heads_long in omega (arith, heads_long));
        next = λ p one below. nexts_more p one below (cases_order p (length gates));
        previous = λ p one below. previouses_more p one below (cases_order p (length gates));
        before = λ p one below.
            subst (λ (b : ℕ). IsLastIn b (bucket_of b (wire_of one (gate_at (gates ++ gate ∷ []) p))) (gates ++ gate ∷ []) p (side_at one (links.before ++ before ∷ []) p)) (sym heads_long)
            (befores_more p one below (cases_order p (length gates)));
        heads = λ k below.
            subst (λ (b : ℕ). IsHead b k (gates ++ gate ∷ []) (head_at both_set k)) (sym heads_long)
            (heads_more k (subst (λ (b : ℕ). k < b) heads_long below) (cases_order k (bucket_of buckets (wire_of false gate))) (cases_order k (bucket_of buckets (wire_of true gate))));
      }

-- The same, where the new links are equal to these.
pub pushed : (gates : List Gate) (gate : Gate) (old new : LinksView) (first last : Spot) (ends : Sides) (led : List Sides) (one other : Head) →
    AreLinked gates old → length gates < far → first.wire ≡ wire_of false gate → last.wire ≡ wire_of true gate →
    IsSpot old.heads first → IsSpot old.heads last →
    IsLastOn gates first.wire (length gates) ends.first → IsLastOn gates last.wire (length gates) ends.second →
    AreLed gates gate ends (record { first = length gates; second = length gates }) (old.next ++ (record { first = far; second = far }) ∷ []) led →
    ((side : Bool) → side_at side led (length gates) ≡ far) →
    IsHeadOf gate (length gates) first.wire one → IsHeadOf gate (length gates) last.wire other →
    new.next ≡ led → new.previous ≡ old.previous ++ ends ∷ [] → new.before ≡ old.before ++ (record { first = first.head.place; second = last.head.place }) ∷ [] →
    new.heads ≡ set (set old.heads first.bucket one) last.bucket other →
    AreLinked (gates ++ gate ∷ []) new
pushed gates gate old new first last ends led one other linked few first_is last_is first_spot last_spot is_first is_last are_led is_far is_one is_other nexts previouses befores heads =
    subst (λ (n : List Sides). AreLinked (gates ++ gate ∷ []) (record { next = n; previous = new.previous; before = new.before; heads = new.heads; room = new.room })) (sym nexts)
    (subst (λ (l : List Sides). AreLinked (gates ++ gate ∷ []) (record { next = led; previous = l; before = new.before; heads = new.heads; room = new.room })) (sym previouses)
    (subst (λ (b : List Sides). AreLinked (gates ++ gate ∷ []) (record { next = led; previous = old.previous ++ ends ∷ []; before = b; heads = new.heads; room = new.room })) (sym befores)
    (subst (λ (h : List Head). AreLinked (gates ++ gate ∷ []) (record { next = led; previous = old.previous ++ ends ∷ []; before = old.before ++ before ∷ []; heads = h; room = new.room }))
    (sym (heads ∙ (ap (λ (k : ℕ). set (set old.heads k one) last.bucket other) first_in ∙ ap (λ (k : ℕ). set (set old.heads (bucket_of buckets (wire_of false gate)) one) k other) last_in)))
    (linked_more gates gate old linked few ends led both are_led is_far before buckets refl
    (ap (λ (h : Head). h.place) (first_spot.head ∙ ap (λ (k : ℕ). head_at old.heads k) first_in)) (ap (λ (h : Head). h.place) (last_spot.head ∙ ap (λ (k : ℕ). head_at old.heads k) last_in))
    one other (subst (λ (w : ℕ). IsHeadOf gate (length gates) w one) first_is is_one) (subst (λ (w : ℕ). IsHeadOf gate (length gates) w other) last_is is_other) new.room))))
  where
    buckets : ℕ
    buckets = length old.heads

    before : Sides
    before = record { first = first.head.place; second = last.head.place }

    first_in : first.bucket ≡ bucket_of buckets (wire_of false gate)
    first_in = first_spot.bucket ∙ ap (λ (w : ℕ). bucket_of buckets w) first_is

    last_in : last.bucket ≡ bucket_of buckets (wire_of true gate)
    last_in = last_spot.bucket ∙ ap (λ (w : ℕ). bucket_of buckets w) last_is

    both : (b : Bool) → IsLastOn gates (wire_of b gate) (length gates) (side b ends)
    both true = subst (λ (w : ℕ). IsLastOn gates w (length gates) ends.second) last_is is_last
    both false = subst (λ (w : ℕ). IsLastOn gates w (length gates) ends.first) first_is is_first

-- the sides of a new gate, behind those of the others
pub new_side : (gates : List Gate) (sides : List Sides) (one : Bool) → length sides ≡ length gates → side_at one (sides ++ (record { first = far; second = far }) ∷ []) (length gates) ≡ far
new_side gates sides one long =
    ap (λ (p : ℕ). side_at one (sides ++ (record { first = far; second = far }) ∷ []) p) (sym long)
    ∙ (ap (side one) (get_or-append_seam sides (record { first = far; second = far }) [] (record { first = 0; second = 0 })) ∙ both one)
  where
    both : (one : Bool) → side one (record { first = far; second = far }) ≡ far
    both true = refl
    both false = refl

-- what is left of a list whose whole prefix was written
pub all_written : {X : Type 0} (n : ℕ) (xs ys : List X) → n ≡ length xs → take n (xs ++ drop (length xs) ys) ≡ xs
all_written n xs ys same = take-append-le n xs (drop (length xs) ys) (omega arith) ∙ (ap (λ (k : ℕ). take k xs) same ∙ take-length xs)
