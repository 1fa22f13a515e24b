use Rattle.std.proofs.Common.{[], ◌∙◌}
use Rattle.pq_read.proofs.Fed.{of_ok, of_formed, of_fails}
use Rattle.pq_read.proofs.reader.read_text.Goals as goal

pub returns-clause-read : goal.returns-clause-read
returns-clause-read c =
    of_ok c.finish.result c.in_ok-reader.reader c.args.options c.args.text.now (c.in_ok-reader.ensures.options ∙ c.new.ensures.options) (c.in_ok-reader.ensures.text [] c.new.ensures.text) c.finish.ensures.read

pub returns-clause-well_formed : goal.returns-clause-well_formed
returns-clause-well_formed c =
    of_formed c.finish.result c.in_ok-reader.reader c.args.text.now (c.in_ok-reader.ensures.text [] c.new.ensures.text) c.finish.ensures.well_formed

pub returns-clause-refused : goal.returns-clause-refused
returns-clause-refused c =
    of_fails c.finish.result c.in_ok-reader.reader c.args.options c.args.text.now (c.in_ok-reader.ensures.options ∙ c.new.ensures.options) (c.in_ok-reader.ensures.text [] c.new.ensures.text) c.finish.ensures.refused
