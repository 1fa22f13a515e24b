use Rattle.std.proofs.Common.{◌≡◌, ◌≤◌, length}
use Rattle.pq_lex.specs.Lex.{tokens}
use Rattle.pq_read.specs.Drafts.{env_of}
use Rattle.pq_read.specs.Reads.{read_tokens}
use Rattle.pq_read.proofs.statements.read_pieces.Given as goal

abbrev pub invariant-pieces : goal.invariant-pieces
invariant-pieces l =
    (read_tokens l.options (env_of l.draft) (tokens l.lexer) ≡ read_tokens l.options (env_of l.initial.draft) (tokens l.initial.lexer)) × (length l.draft.gates.items ≤ 1048576)

abbrev pub decreases-pieces : goal.decreases-pieces
decreases-pieces l = length (tokens l.lexer)
