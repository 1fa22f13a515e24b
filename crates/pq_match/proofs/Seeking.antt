-- What a search found out holds in all slots that look alike where it looked.
use Rattle.std.proofs.Common.{◌≡◌, ℕ, ◌+◌, ◌-◌, ◌<◌, ◌≤◌, Bool, true, false, List, length, get_or, set, refl, sym, ap, subst, ◌∙◌, arith, inl, inr, ◌⊎◌}
use Rattle.std.proofs.lemmas.Bool.{cases_order}
use Rattle.pq_gate.specs.declared.gate.Gate.{Gate}
use Rattle.pq_gate.specs.Circuit.{IsCircuit}
use Rattle.pq_gate.specs.Commuting.{Touches}
use Rattle.pq_gate.specs.Kind.{kind_of}
use Rattle.pq_links.specs.Slots.{AreSlots}
use Rattle.pq_match.specs.declared.looked.Looked.{Looked}
use Rattle.pq_match.specs.declared.cursors.Cursors.{Cursors}
use Rattle.pq_match.specs.Redex.{gate_at}
use Rattle.pq_match.specs.Search.{AreApart, AreAlike, IsFitting, IsPassable, IsGrown, IsFull, Begins, AreEight}
use Rattle.pq_match.specs.Seek.{MarksAll, LooksAtMore, LookAlike, HasNoFullAlike, IsKnownAt, AreLookedAt, IsAtCursor, AreCursors, AreMarked, AreAhead}
use Rattle.pq_match.specs.Ties.{IsTiedBy}
use Rattle.pq_match.proofs.CursorLaws.{cursor_known}
use Rattle.pq_match.proofs.Growing.{put_before, put_at, nothing_fits, nothing_of_kind}
use Rattle.pq_match.proofs.GrowingWalk.{IsWalked, walk_starts, walk_goes_on, walk_is_stuck, walk_ends}
use Rattle.pq_match.proofs.GrowingSkips.{walk_leaves}
use Rattle.pq_match.proofs.LookingAlike.{looks_alike, alike_less, as_long, same_anywhere, not_before, chosen_same, apart_on, commutes_on, commutes_back}

-- a gate fits as well where the chosen gates are the same
pub fitting_on : {gates other pattern : List Gate} {places : List ℕ} (last : ℕ) → ((s : ℕ) → s ≤ last → gate_at gates (get_or places s 0) ≡ gate_at other (get_or places s 0)) →
    IsFitting gates pattern places last → IsFitting other pattern places last
fitting_on {gates} {other} {pattern} {places} last same fits = record {
  kind = ap kind_of (sym (same last (omega arith))) ∙ fits.kind;
  wires = λ s upto.
      subst (λ (g : Gate). AreAlike (gate_at pattern s) (gate_at pattern last) g (gate_at other (get_or places last 0))) (same s upto)
      (subst (λ (g : Gate). AreAlike (gate_at pattern s) (gate_at pattern last) (gate_at gates (get_or places s 0)) g) (same last (omega arith)) (fits.wires s upto));
}

module _ {gates other pattern : List Gate} {start : ℕ} {looked : Looked} {places : List ℕ} {count : ℕ} (alike : LookAlike start looked gates other) (at : get_or places 0 0 ≡ start)
    (grown : IsGrown gates pattern (length gates) places count) (are : AreLookedAt gates looked places count) where
  pub grown_on : IsGrown other pattern (length other) places count
  grown_on = record {
    rising = grown.rising;
    inside = λ s below. (alike.long (get_or places s 0) (are.near s below)).0 (grown.inside s below);
    fitting = λ s below. fitting_on s (λ t upto. chosen_same alike at grown are t (omega arith)) (grown.fitting s below);
    clear = λ t t_below s p s_below passed more less.
        (let near : get_or places t 0 < looked.reach = are.near t t_below in
        let behind : start ≤ get_or places s 0 = not_before alike at grown are s s_below in
        commutes_on alike at grown are s p s_below (omega arith) (omega arith) (grown.clear t t_below s p s_below passed more less));
  }

  pub passable_on : (place : ℕ) → start < place → place < looked.reach → IsPassable gates places count place → IsPassable other places count place
  passable_on place behind near passes = record { commute = λ s below. commutes_on alike at grown are s place below behind near (passes.commute s below) }

  pub passable_back : (place : ℕ) → start < place → place < looked.reach → IsPassable other places count place → IsPassable gates places count place
  passable_back place behind near passes = record { commute = λ s below. commutes_back alike at grown are s place below behind near (passes.commute s below) }

-- the walk over the places for the next gate, in all slots that look alike
pub record IsWalkedAlike (gates pattern : List Gate) (looked : Looked) (places : List ℕ) (count place : ℕ) : Type 0 where
  pub walked : (other : List Gate) → AreSlots other → LookAlike (get_or places 0 0) looked gates other → IsWalked other pattern (length other) places count place

-- in the slots themselves
pub walked_here : {gates pattern : List Gate} {looked : Looked} {places : List ℕ} {count place : ℕ} → AreSlots gates → IsWalkedAlike gates pattern looked places count place →
    IsWalked gates pattern (length gates) places count place
walked_here {gates} slots walked = walked.walked gates slots looks_alike

-- the places of a walk lie behind the start
walked_behind : {gates pattern : List Gate} {end : ℕ} {places : List ℕ} {count place : ℕ} → 0 < count → IsWalked gates pattern end places count place → get_or places 0 0 < place
walked_behind some walked = walked.next.above 0 some

-- what begins with one place more begins at the same start
same_start : {places : List ℕ} {count : ℕ} (place : ℕ) → 0 < count → AreEight places count → count < 8 → get_or (set places count place) 0 0 ≡ get_or places 0 0
same_start {places} {count} place some are room = put_before places count place are.eight room 0 some

-- the walk: before it,
pub alike_starts : {gates pattern : List Gate} {looked : Looked} {places : List ℕ} {count : ℕ} → 0 < count → count < length pattern → IsGrown gates pattern (length gates) places count →
    AreLookedAt gates looked places count → IsWalkedAlike gates pattern looked places count (get_or places (count - 1) 0 + 1)
alike_starts some next grown are = record { walked = λ other slots alike. walk_starts some next (grown_on alike refl grown are) }

-- past places that share no wire with the chosen ones, and where the next gate can't stand,
pub alike_passes : (gates pattern : List Gate) (places : List ℕ) (count place next : ℕ) (less looked : Looked) (free : Bool) {cursors : Cursors} → AreSlots gates →
    IsWalkedAlike gates pattern less places count place → LooksAtMore less looked → 0 < count → count < length pattern → IsGrown gates pattern (length gates) places count →
    AreLookedAt gates looked places count → next < looked.reach → place ≤ next → next ≤ length gates → AreAhead next cursors → (free ≡ true → MarksAll looked.mask) →
    (free ≡ false → IsTiedBy gates pattern looked places count place cursors) →
    ((p : ℕ) → place ≤ p → p < next → (s : ℕ) → s < count → AreApart (gate_at gates (get_or places s 0)) (gate_at gates p)) →
    ((p : ℕ) → place ≤ p → p < next → free ≡ true → kind_of (gate_at gates p) ≡ kind_of (gate_at pattern count) → ⊥) →
    IsWalkedAlike gates pattern looked places count next
alike_passes gates pattern places count place next less looked free {cursors} slots_here walked looks some more grown are near from inside ahead marks tied apart other_kind = record {
  walked = λ other slots alike.
      (let before = walked.walked other slots (alike_less looks alike) in
      let behind : get_or places 0 0 < place = walked_behind some before in
      walk_leaves other pattern (length other) places count place next before from
      (λ p above below s s_below. apart_on alike refl grown are s p s_below (omega arith) (omega arith) (apart p above below s s_below))
      (λ full is begins above below. never other slots alike behind full is begins above below free refl));
}
  where
    never : (other : List Gate) → AreSlots other → LookAlike (get_or places 0 0) looked gates other → get_or places 0 0 < place → (full : List ℕ) → IsFull other pattern (length other) full →
        Begins places count full → place ≤ get_or full count 0 → get_or full count 0 < next → (b : Bool) → free ≡ b → ⊥
    never other slots alike behind full is begins above below true marked =
        other_kind (get_or full count 0) above below marked
        (ap kind_of (same_anywhere alike slots_here slots (marks marked) (get_or full count 0) (omega arith) (omega arith) (omega arith)) ∙ (is.fitting count more).kind)
    never other slots alike behind full is begins above below false bound =
        let tie = tied bound in
        let touches = tie.on other slots alike full is begins in
        let same = alike.same (get_or full count 0) _ (omega arith) (omega arith) tie.marked (inr touches) in
        let upto : next ≤ get_or cursors.next tie.cursor 0 = ahead tie.cursor tie.below in
        tie.next.none (get_or full count 0) above (omega arith) (omega arith) (subst (λ (g : Gate). Touches g (get_or cursors.wires tie.cursor 0)) (sym same) touches)

-- one place further,
pub alike_goes_on : {gates pattern : List Gate} {less looked : Looked} {places : List ℕ} {count place : ℕ} → IsWalkedAlike gates pattern less places count place → LooksAtMore less looked →
    0 < count → IsGrown gates pattern (length gates) places count → AreLookedAt gates looked places count → place < looked.reach → AreEight places count → count < 8 →
    HasNoFullAlike gates pattern looked (set places count place) (count + 1) → IsPassable gates places count place →
    IsWalkedAlike gates pattern looked places count (place + 1)
alike_goes_on {gates} {pattern} {less} {looked} {places} {count} {place} walked looks some grown are near eight room none passes = record {
  walked = λ other slots alike.
      (let before = walked.walked other slots (alike_less looks alike) in
      walk_goes_on eight room before
      (none.none other slots (subst (λ (p : ℕ). LookAlike p looked gates other) (sym (same_start place some eight room)) alike))
      (passable_on alike refl grown are place (walked_behind some before) near passes));
}

-- where a gate can't be passed,
pub alike_is_stuck : {gates pattern : List Gate} {looked : Looked} {places : List ℕ} {count : ℕ} (less : Looked) (place : ℕ) → IsWalkedAlike gates pattern less places count place →
    LooksAtMore less looked → 0 < count → IsGrown gates pattern (length gates) places count → AreLookedAt gates looked places count → place < looked.reach → AreEight places count → count < 8 →
    count < length pattern → HasNoFullAlike gates pattern looked (set places count place) (count + 1) → (IsPassable gates places count place → ⊥) →
    HasNoFullAlike gates pattern looked places count
alike_is_stuck {gates} {pattern} {looked} {places} {count} less place walked looks some grown are near eight room next none stuck = record {
  none = λ other slots alike.
      (let before = walked.walked other slots (alike_less looks alike) in
      walk_is_stuck place eight room next before
      (none.none other slots (subst (λ (p : ℕ). LookAlike p looked gates other) (sym (same_start place some eight room)) alike))
      (λ passes. stuck (passable_back alike refl grown are place (walked_behind some before) near passes)));
}

-- and at the end
pub alike_ends : {gates pattern : List Gate} {looked : Looked} {places : List ℕ} {count : ℕ} (place : ℕ) → IsWalkedAlike gates pattern looked places count place →
    length gates ≤ place → place < looked.reach → count < length pattern → HasNoFullAlike gates pattern looked places count
alike_ends {gates} {pattern} {looked} {places} {count} place walked ended near next = record {
  none = λ other slots alike.
      (let long = as_long alike (omega arith) in
      walk_ends place next (omega arith) (walked.walked other slots alike));
}

-- the gates at the chosen places, and at the one that is put in last, are the same in all slots that look alike
known_places : {gates other pattern : List Gate} {looked : Looked} {places : List ℕ} {count place : ℕ} → AreSlots other → LookAlike (get_or (set places count place) 0 0) looked gates other →
    IsGrown gates pattern (length gates) places count → AreLookedAt gates looked places count → AreEight places count → count < 8 →
    IsKnownAt gates (get_or (set places count place) 0 0) looked place → (s : ℕ) → s ≤ count →
    gate_at gates (get_or (set places count place) s 0) ≡ gate_at other (get_or (set places count place) s 0)
known_places {gates} {other} {pattern} {looked} {places} {count} {place} slots alike grown are eight room known s upto = by (cases_order s count)
  where
    by : (s ≡ count) ⊎ ((s < count) ⊎ (count < s)) → gate_at gates (get_or (set places count place) s 0) ≡ gate_at other (get_or (set places count place) s 0)
    by (inl same) =
        subst (λ (p : ℕ). gate_at gates p ≡ gate_at other p) (sym (ap (λ (k : ℕ). get_or (set places count place) k 0) same ∙ put_at places count place eight.eight room)) (known.same other slots alike)
    by (inr (inl less)) =
        subst (λ (p : ℕ). gate_at gates p ≡ gate_at other p) (sym (put_before places count place eight.eight room s less))
        (chosen_same alike (sym (same_start place (omega arith) eight room)) grown are s less)
    by (inr (inr more)) = absurd (omega arith)

-- where the gate doesn't fit, nothing begins with it
pub alike_misfits : {gates pattern : List Gate} {looked : Looked} {places : List ℕ} {count place : ℕ} → count < length pattern → IsGrown gates pattern (length gates) places count →
    AreLookedAt gates looked places count → AreEight places count → count < 8 → IsKnownAt gates (get_or (set places count place) 0 0) looked place →
    (IsFitting gates pattern (set places count place) count → ⊥) → HasNoFullAlike gates pattern looked (set places count place) (count + 1)
alike_misfits {gates} {pattern} {looked} {places} {count} {place} next grown are eight room known misfit = record {
  none = λ other slots alike.
      nothing_fits (length other) next (λ fits. misfit (fitting_on count (λ s upto. sym (known_places slots alike grown are eight room known s upto)) fits));
}

-- nor where it is of another kind
pub alike_of_kind : {gates pattern : List Gate} {looked : Looked} {places : List ℕ} {count place : ℕ} → count < length pattern → AreEight places count → count < 8 →
    IsKnownAt gates (get_or (set places count place) 0 0) looked place → (kind_of (gate_at gates place) ≡ kind_of (gate_at pattern count) → ⊥) →
    HasNoFullAlike gates pattern looked (set places count place) (count + 1)
alike_of_kind {gates} {pattern} {looked} {places} {count} {place} next eight room known other_kind = record {
  none = λ other slots alike.
      nothing_of_kind (length other) place next eight room (λ same. other_kind (ap kind_of (known.same other slots alike) ∙ same));
}

-- A place of the walk is known: a cursor stands there, or all wires are marked.
pub place_known : {gates pattern : List Gate} {looked : Looked} {places : List ℕ} {count place : ℕ} {cursors : Cursors} (free : Bool) → AreSlots gates → IsCircuit 3 pattern → count < length pattern →
    AreCursors gates pattern places count place cursors → AreMarked gates looked cursors → 0 < count → AreEight places count → count < 8 →
    IsWalkedAlike gates pattern looked places count place → place < length gates → place < looked.reach → (free ≡ true → MarksAll looked.mask) →
    (free ≡ false → place < length gates → IsAtCursor place cursors) → IsKnownAt gates (get_or (set places count place) 0 0) looked place
place_known {gates} {pattern} {looked} {places} {count} {place} {cursors} free slots on next are marked some eight room walked inside near wide stands =
    subst (λ (p : ℕ). IsKnownAt gates p looked place) (sym (same_start place some eight room)) (by free refl)
  where
    behind : get_or places 0 0 < place
    behind = walked_behind some (walked_here slots walked)

    by : (b : Bool) → free ≡ b → IsKnownAt gates (get_or places 0 0) looked place
    by true is = record { same = λ other slots_other alike. same_anywhere alike slots slots_other (wide is) place behind near inside }
    by false is = cursor_known on next are marked (stands is inside) behind inside near
