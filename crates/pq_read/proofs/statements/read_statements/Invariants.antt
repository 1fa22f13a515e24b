use Rattle.std.proofs.Common.{◌≡◌, ◌≤◌, true, List, length}
use Rattle.pq_lex.specs.Token.{TokenView}
use Rattle.pq_lex.specs.Lex.{Place, tokens}
use Rattle.pq_lex.specs.Ends.{spliced, AreClosed}
use Rattle.pq_read.specs.Drafts.{env_of}
use Rattle.pq_read.specs.Reads.{read_tokens}
use Rattle.pq_read.proofs.statements.read_statements.Given as goal

abbrev pub invariant-statements : goal.invariant-statements
invariant-statements l = record {
  closed : (end : Place) → AreClosed end true (tokens l.initial.lexer) → AreClosed end true (tokens l.lexer);
  on : (end : Place) → AreClosed end true (tokens l.initial.lexer) → (more : List TokenView) → 1 ≤ length more
      → read_tokens l.options (env_of l.draft) (spliced (tokens l.lexer) more) ≡ read_tokens l.options (env_of l.initial.draft) (spliced (tokens l.initial.lexer) more);
  gates : length l.draft.gates.items ≤ 1048576;
}

abbrev pub decreases-statements : goal.decreases-statements
decreases-statements l = length (tokens l.lexer)
