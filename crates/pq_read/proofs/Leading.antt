-- What is read whatever follows the text.
use Rattle.std.proofs.Common.{◌≡◌, ◌+◌, ◌≤◌, true, List, [], length, sym, ap, ◌∙◌, subst, arith}
use Rattle.pq_lex.specs.declared.ends.Mode.TheVariants.{Code}
use Rattle.pq_lex.specs.Token.{TokenView}
use Rattle.pq_lex.specs.Lex.{Position, lex, tokens, from_token}
use Rattle.pq_lex.specs.Ends.{IsEnded, missing_at}
use Rattle.pq_lex.proofs.Ending.{ends_for_good}
use Rattle.pq_lex.proofs.Lexing.{tokens_some}
use Rattle.pq_read.specs.declared.refusal.ReadError.{ReadError}
use Rattle.pq_read.specs.declared.refusal.ReadError.TheVariants as errors
use Rattle.pq_read.specs.declared.program.Options.{Options}
use Rattle.pq_read.specs.Faults.{head}
use Rattle.pq_read.specs.Environment.{Env}
use Rattle.pq_read.specs.Reads.{read_tokens}
use Rattle.pq_read.specs.Leads.{AreRead, FailsAmong, Leads, FailsAt, IsWithin}

-- the statements of a text that ends with an end, from the tokens that are left
pub ended_read : (options : Options) (E F : Env) (p start : Position) (left later : List TokenView) (t : TokenView) → start ≡ p → 1 ≤ p.column → IsEnded Code p.rest
    → AreRead options E (tokens start) F left → left ≡ from_token t later
    → Leads options E p F (record { rest = []; line = t.line; column = t.column }) × IsWithin (t.line, t.column) (p.line + (p.column + length p.rest))
ended_read options E F p start left later t is some ended read last =
    let e = ends_for_good p some ended in
    let here : AreRead options E (tokens p) F left = subst (λ (q : Position). AreRead options E (tokens q) F left) is read in
    let all = here e.end (e.closed true) in
    let same : missing_at e.end ≡ t = ap head (sym all.0 ∙ last) in
    let line : e.end.line ≡ t.line = ap (λ (u : TokenView). u.line) same in
    let column : e.end.column ≡ t.column = ap (λ (u : TokenView). u.column) same in
    let at_least : 1 ≤ e.end.column = e.some in
    let within : e.end.line + e.end.column ≤ p.line + (p.column + length p.rest) = e.within in (
      λ more. ap (read_tokens options E) (e.joined more)
          ∙ (all.1 (lex 0 e.end more) (tokens_some (record { rest = more; line = e.end.line; column = e.end.column }))
          ∙ (λ i. read_tokens options F (lex 0 (record { line = line i; column = column i }) more))),
      (omega arith, omega arith),
    )

pub ended_fails : (error : ReadError) (options : Options) (E : Env) (p start : Position) → start ≡ p → 1 ≤ p.column → IsEnded Code p.rest
    → FailsAmong options E (tokens start) error → FailsAt options E p error
ended_fails errors.OutOfMemory options E p start is some ended h = tt
ended_fails (errors.Refused f) options E p start is some ended h =
    let e = ends_for_good p some ended in
    let here : FailsAmong options E (tokens p) (errors.Refused f) = subst (λ (q : Position). FailsAmong options E (tokens q) (errors.Refused f)) is h in
    λ more. ap (read_tokens options E) (e.joined more)
    ∙ here e.end (e.closed true) (lex 0 e.end more) (tokens_some (record { rest = more; line = e.end.line; column = e.end.column }))
