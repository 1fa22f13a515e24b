use Rattle.std.proofs.Common.{[], length}
use Rattle.pq_lex.specs.Lex.{tokens}
use Rattle.pq_lex.specs.Added.{extended}
use Rattle.pq_read.specs.Begins.{position_of}
use Rattle.pq_read.specs.Drafts.{env_of}
use Rattle.pq_read.proofs.Walked.{Walked}
use Rattle.pq_read.proofs.known.has_known_fault.Given as goal

abbrev pub invariant-tokens : goal.invariant-tokens
invariant-tokens l = Walked (env_of l.draft) (position_of l.begun) l.lexer l.long l.count l.expected

abbrev pub decreases-tokens : goal.decreases-tokens
decreases-tokens l = length (tokens (extended l.lexer []))
