use Rattle.pq_read.specs.Drafts.{env_of}
use Rattle.pq_read.specs.Begins.{position_of}
use Rattle.pq_read.proofs.Fed.{fed_nothing}
use Rattle.pq_read.proofs.reader.Reader.new.Goals as goal

pub returns-clause-text : goal.returns-clause-text
returns-clause-text c = fed_nothing c.args.options (env_of c.new.result) (position_of c.new-2.result) c.new.ensures.start c.new-2.ensures.place
