use Rattle.std.proofs.Common.{eqb, ◌∙◌}
use Rattle.std.proofs.lemmas.List.Filters.{dedup_is}
use Rattle.pq_finger.proofs.Moving.{dedup_ascending}
use Rattle.pq_gaps.proofs.Putting.{increasing-ascending}
use Rattle.pq_finger.proofs.fingers.drop_repeats.Goals as goal

pub returns-clause-kept : goal.returns-clause-kept
returns-clause-kept c =
    dedup_is eqb c.args.places.now.items c.dedup.new.self.items c.dedup.ensures.filtered ∙ dedup_ascending c.args.places.now.items c.requires

pub returns-clause-rising : goal.returns-clause-rising
returns-clause-rising c =
    rw (dedup_is eqb c.args.places.now.items c.dedup.new.self.items c.dedup.ensures.filtered, dedup_ascending c.args.places.now.items c.requires)
    (increasing-ascending c.args.places.now.items)
