use Rattle.pq_match.proofs.NumberSets.{lowest_is, least_of}
use Rattle.pq_match.proofs.words.least_from.Goals as goal

pub returns-then-bits-ne0-clause-least : goal.returns-then-bits-ne0-clause-least
returns-then-bits-ne0-clause-least c =
    least_of c.loop-index.invariant (lowest_is c.lowest_bit.ensures.below c.lowest_bit.ensures.has c.lowest_bit.ensures.lowest)
