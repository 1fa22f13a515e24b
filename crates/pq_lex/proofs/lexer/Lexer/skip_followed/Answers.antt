use Rattle.std.proofs.Common.{◌≡◌, ◌<◌, ◌≤◌, length, subst, ◌∙◌, arith}
use Rattle.pq_lex.specs.Front.{blank_length}
use Rattle.pq_lex.specs.Lex.{Position}
use Rattle.pq_lex.proofs.Ending.{settles_blank}
use Rattle.pq_lex.proofs.lexer.Lexer.skip_followed.Goals as goal

pub blanks-preserved : goal.blanks-preserved
blanks-preserved c =
    let count : c.blank_front-count.result ≡ blank_length c.self.inside.rest.now = c.blank_front-count.ensures.count in
    let some : 1 ≤ blank_length c.self.inside.rest.now = grind arith in
    let lt : blank_length c.self.inside.rest.now < length c.self.inside.rest.now = grind arith in
    let s = settles_blank c.blanks.self c.skip_one.new.self
    (subst (λ (p : Position). 1 ≤ p.column) c.self.view_is c.self.invariant.0)
    (subst (λ (p : Position). 1 ≤ blank_length p.rest) c.self.view_is some)
    (subst (λ (p : Position). blank_length p.rest < length p.rest) c.self.view_is lt)
    c.skip_one.ensures.after in
    record {
      same = λ more. s.same more ∙ c.blanks.invariant.same more;
      mode = s.mode ∙ c.blanks.invariant.mode;
      place = let x = s.place in let y = c.blanks.invariant.place in omega arith;
    }
