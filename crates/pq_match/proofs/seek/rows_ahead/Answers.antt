use Rattle.std.proofs.Common.{true, sym, ◌∙◌, ℕ, ◌+◌, ◌<◌, ◌≤◌, ◌⊎◌, inl, inr, length, subst, arith}
use Rattle.std.proofs.lemmas.Bool.{cases_lt}
use Rattle.pq_gate.specs.Commuting.{Touches}
use Rattle.pq_links.proofs.Touching.{touching}
use Rattle.pq_links.specs.Links.{IsNextOn}
use Rattle.pq_match.specs.Redex.{gate_at}
use Rattle.pq_match.specs.Seek.{IsMarked, IsSeenAt}
use Rattle.pq_match.proofs.Marking.{looks_on, near_more}
use Rattle.pq_match.proofs.SeekRow.{admitting_candidates}
use Rattle.pq_match.proofs.Settling.{no_candidates, no_numbers, still_ahead}
use Rattle.pq_match.proofs.seek.rows_ahead.Goals as goal

pub returns-then-wire-clause-candidates : goal.returns-then-wire-clause-candidates
returns-then-wire-clause-candidates c =
    no_candidates c.args.looked.now c.count-sound.ensures.sound
    (c.requires.linked.are c.args.start c.requires.start
    (subst (Touches (gate_at c.args.gates.now c.args.start)) (sym c.last_wire-wire.ensures ∙ c.if-wire.true) (touching (gate_at c.args.gates.now c.args.start) true)))

pub returns-clause-candidates : goal.returns-clause-candidates
returns-clause-candidates c =
    let gates = c.args.gates.now in
    let wire = c.last_wire-wire.ensures in
    let near : c.min.result < c.mark.new.self.reach = near_more (looks_on c.look_at-2.ensures.more c.mark.ensures.more) c.look_at.ensures.near in
    let far : c.min-2.result < c.mark.new.self.reach = near_more c.mark.ensures.more c.look_at-2.ensures.near in
    admitting_candidates c.args.rules.now gates c.args.start c.mark.new.self c.next_on-near.result c.place_behind-far.result c.see-one.result c.see-other.result
    c.rows_admitting.result.now c.rows_admitting.ensures.sound
    (subst (IsMarked c.mark.new.self.mask) wire (c.if-wire.false, c.mark.ensures.marked))
    (elim (cases_lt c.next_on-near.result (length gates)) [ inl inside ↦ inl (omega arith) | inr past ↦ inr (omega arith) ])
    (elim (cases_lt c.place_behind-far.result (length gates)) [ inl inside ↦ inl (omega arith) | inr past ↦ inr (omega arith) ])
    (subst (λ (w : ℕ). IsNextOn gates w (c.args.start + 1) c.next_on-near.result) wire
    (c.next_on-near.ensures.next c.if-wire.false (subst (Touches (gate_at gates c.args.start)) (sym wire) (touching (gate_at gates c.args.start) true))))
    (subst (λ (w : ℕ). IsNextOn gates w (c.next_on-near.result + 1) c.place_behind-far.result ⊎ (length gates ≤ c.next_on-near.result)) wire c.place_behind-far.ensures.next)
    (λ past. (let at = c.place_behind-far.ensures.past past in let few = c.requires.linked.few in omega arith))
    (subst (λ (w : ℕ). IsSeenAt gates w c.next_on-near.result c.see-one.result) wire c.see-one.ensures)
    (subst (λ (w : ℕ). IsSeenAt gates w c.place_behind-far.result c.see-other.result) wire c.see-other.ensures)
    c.rows_admitting.ensures.numbers

pub returns-clause-still : goal.returns-clause-still
returns-clause-still c none =
    let gates = c.args.gates.now in
    let wire = c.last_wire-wire.ensures in
    still_ahead c.args.rules.now gates c.args.start c.next_on-near.result c.place_behind-far.result c.see-one.result c.see-other.result
    (subst (λ (w : ℕ). IsNextOn gates w (c.args.start + 1) c.next_on-near.result) wire
    (c.next_on-near.ensures.next c.if-wire.false (subst (Touches (gate_at gates c.args.start)) (sym wire) (touching (gate_at gates c.args.start) true))))
    (subst (λ (w : ℕ). IsNextOn gates w (c.next_on-near.result + 1) c.place_behind-far.result ⊎ (length gates ≤ c.next_on-near.result)) wire c.place_behind-far.ensures.next)
    (λ past. (let at = c.place_behind-far.ensures.past past in let few = c.requires.linked.few in omega arith))
    (subst (λ (w : ℕ). IsSeenAt gates w c.next_on-near.result c.see-one.result) wire c.see-one.ensures)
    (subst (λ (w : ℕ). IsSeenAt gates w c.place_behind-far.result c.see-other.result) wire c.see-other.ensures)
    (sym c.rows_admitting.ensures.numbers ∙ no_numbers c.rows_admitting.result.now none)
