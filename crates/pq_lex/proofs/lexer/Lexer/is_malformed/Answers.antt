use Rattle.std.proofs.Common.{◌≡◌, ℕ, true, eqb, List, sym, ap, ◌∙◌, subst, arith}
use Rattle.pq_lex.specs.Token.{number_of}
use Rattle.pq_lex.specs.Front.{Front, blank_length, front}
use Rattle.pq_lex.specs.Added.{StaysMalformed}
use Rattle.pq_lex.proofs.Malformed.{stays_malformed}
use Rattle.pq_lex.proofs.lexer.Lexer.is_malformed.Goals as goal

pub returns-clause-stays : goal.returns-clause-stays
returns-clause-stays c = λ equal.
    let rest : List ℕ = c.self.inside.rest.now in
    let count : c.blank_front.result ≡ blank_length rest = c.blank_front.ensures.count in
    let yes : c.is_decided.result ≡ true = c.if-not-is_decided.false in
    let none : blank_length rest ≡ 0 = grind arith in
    let bad : eqb (number_of (front rest).form) 19 ≡ true =
    ap (λ (f : Front). eqb (number_of f.form) 19) (sym c.token_front-form.ensures.front) ∙ ((λ i. eqb (sym c.number.ensures i) (sym c.number-2.ensures i)) ∙ equal) in
    subst StaysMalformed c.self.view_is
    (stays_malformed (record { rest = rest; line = c.self.inside.line; column = c.self.inside.column }) none bad (c.is_decided.ensures.some yes) (c.is_decided.ensures.line yes))
