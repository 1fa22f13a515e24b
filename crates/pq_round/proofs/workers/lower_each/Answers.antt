use Rattle.std.proofs.Common.{rules, arith, ℕ, List, take, get_or, sym, ap, ◌∙◌, subst}
use Rattle.std.specs.Prelude.{Contains}
use Rattle.std.proofs.lemmas.List.{take_more}
use Rattle.pq_board.specs.declared.plan.View.{View}
use Rattle.pq_board.specs.Steps.{lowered_places}
use Rattle.pq_round.specs.Workers.{HasLowered}
use Rattle.pq_round.proofs.Working.{next_fresh, lowered_on, lowered_none}
use Rattle.pq_round.proofs.workers.lower_each.Goals as goal

pub loop-place-init : goal.loop-place-init
loop-place-init c = record { board = search rules; lowered = lowered_none c.args.pass.now.view }

pub lower-requires-clause-belongs : goal.lower-requires-clause-belongs
lower-requires-clause-belongs c = record {
  here = c.loop-place.invariant.board ∙ c.requires.belongs.here;
  plan = c.loop-place.invariant.lowered.plan ∙ c.requires.belongs.plan;
}

pub lower-requires-clause-held : goal.lower-requires-clause-held
lower-requires-clause-held c = subst (λ (ts : List ℕ). Contains ts c.args.ticket) (sym c.loop-place.invariant.lowered.tickets) c.requires.held

pub lower-requires-clause-fresh : goal.lower-requires-clause-fresh
lower-requires-clause-fresh c at =
    next_fresh (lowered_places c.args.pass.now.view.lowered) c.args.places.now c.loop-place.place-index (get_or c.args.places.now c.loop-place.place-index 0) c.requires.rising c.requires.fresh (omega arith) (search rules)
    (subst (λ (l : List ℕ). Contains l (get_or c.args.places.now c.loop-place.place-index 0)) c.loop-place.invariant.lowered.lowered at)

pub loop-place-preserved : goal.loop-place-preserved
loop-place-preserved c = record {
  board = c.lower.ensures.board ∙ c.loop-place.invariant.board;
  lowered = subst (HasLowered c.args.pass.now.view c.lower.new.pass.view) (sym (take_more c.args.places.now c.loop-place.place-index 0 (omega arith)))
      (lowered_on c.args.pass.now.view c.loop-place.pass.view c.lower.new.pass.view (take c.loop-place.place-index c.args.places.now) (get_or c.args.places.now c.loop-place.place-index 0) c.loop-place.invariant.lowered
      (ap (λ (v : View). v.plan) c.lower.ensures.lowered) (ap (λ (v : View). v.rights) c.lower.ensures.lowered) (ap (λ (v : View). v.tickets) c.lower.ensures.lowered)
      c.lower.ensures.places);
}
