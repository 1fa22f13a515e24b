use Rattle.pq_match.proofs.Marking.{looks_more}
use Rattle.pq_match.proofs.looked.Looked.mark.Goals as goal

pub returns-clause-more : goal.returns-clause-more
returns-clause-more c = looks_more c.args.self.now c.args.wire
