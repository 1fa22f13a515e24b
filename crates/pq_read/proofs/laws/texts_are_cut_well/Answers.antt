use Rattle.pq_lex.specs.Lex.{tokens_of}
use Rattle.pq_read.proofs.CutWell.{are_cut_well}
use Rattle.pq_read.proofs.laws.texts_are_cut_well.Goals as goal

pub returns : goal.returns
returns c = λ text. are_cut_well (tokens_of text)
