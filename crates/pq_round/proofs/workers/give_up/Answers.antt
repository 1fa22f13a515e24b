use Rattle.std.proofs.Common.{arith, ◌≡◌, ◌-◌, ℕ, List, length, drop, sym, ap, ◌∙◌, subst}
use Rattle.std.specs.Prelude.{All, Contains}
use Rattle.std.proofs.lemmas.List.Elements.{All-take, All-drop}
use Rattle.pq_gate.specs.declared.gate.Gate.{Gate}
use Rattle.pq_board.specs.Law.{job}
use Rattle.pq_board.specs.Steps.{lowered_places}
use Rattle.pq_board.proofs.Listing.{rising_part}
use Rattle.pq_round.proofs.Working.{part_in}
use Rattle.pq_round.proofs.workers.give_up.Goals as goal

pub lower_each-requires-clause-job : goal.lower_each-requires-clause-job
lower_each-requires-clause-job c =
    part_in c.places-places.result.now (job c.args.board.now.plan c.ticket-ticket.result) (length c.places-places.result.now - length c.output.result.now) (length c.output.result.now)
    c.places-places.ensures.places

pub lower_each-requires-clause-rising : goal.lower_each-requires-clause-rising
lower_each-requires-clause-rising c =
    rising_part (length c.places-places.result.now - length c.output.result.now) (length c.output.result.now) c.places-places.result.now
    (omega (
      arith,
      c.requires.shorter,
      ap (λ (l : List Gate). length l) c.output.ensures.output,
      ap (λ (l : List ℕ). length l) (c.places-places.ensures.places ∙ ap (λ (t : ℕ). job c.args.board.now.plan t) c.ticket-ticket.ensures),
    ))
    c.places-places.ensures.rising

pub lower_each-requires-clause-fresh : goal.lower_each-requires-clause-fresh
lower_each-requires-clause-fresh c =
    let is : c.places-places.result.now ≡ job c.args.board.now.plan c.args.worked.now.ticket =
    c.places-places.ensures.places ∙ ap (λ (t : ℕ). job c.args.board.now.plan t) c.ticket-ticket.ensures in
    All-take (λ place. Contains (lowered_places c.args.pass.now.view.lowered) place → ⊥) (length c.places-places.result.now - length c.output.result.now) (drop (length c.output.result.now) c.places-places.result.now)
    (All-drop (λ place. Contains (lowered_places c.args.pass.now.view.lowered) place → ⊥) (length c.output.result.now) c.places-places.result.now
    (subst (All (λ place. Contains (lowered_places c.args.pass.now.view.lowered) place → ⊥)) (sym is) c.requires.fresh))
