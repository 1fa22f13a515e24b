use Rattle.std.proofs.Common.{◌≡◌, ◌+◌, ◌-◌, ◌≤◌, take, length, inl, inr, ◌∙◌, sym, arith}
use Rattle.std.proofs.lemmas.List.{length-take-le, get_or-take}
use Rattle.std.proofs.lemmas.Bool.{cases_lt}
use Rattle.pq_lex.specs.Ends.{IsEnded}
use Rattle.pq_lex.proofs.Lines.{mode_front, line_long, line_last, line_ended, lines_found}
use Rattle.pq_lex.proofs.ends.last_in_lines.Goals as goal

pub returns-then-line-gt0 : goal.returns-then-line-gt0
returns-then-line-gt0 c =
    let i = c.lines.invariant in
    let text = c.args.text.now in
    let start = c.before_line-start.result in
    let left = c.lines.left in
    let long : length (take (left - 1) text) ≡ left - 1 = length-take-le (left - 1) text (omega (arith, i.within)) in
    let up : start ≤ left - 1 = omega (arith, c.before_line-start.ensures.within, long) in
    let some : 1 ≤ left = omega (arith, c.lines-test.true) in
    let is = mode_front c.args.mode c.mode_at.result text start (omega (arith, up, i.within))
    (λ one. sym (get_or-take (left - 1) text (start - 1) 0 (omega arith)) ∙ c.before_line-start.ensures.newline one) c.mode_at.ensures.first c.mode_at.ensures.other in
    let count : 1 ≤ c.ended_in-line.result.count = omega (arith, c.if-line-gt0.true) in
    lines_found c.args.mode text (start + c.ended_in-line.result.count) left i.within (let w = c.ended_in-line.ensures.last.within in let l = line_long text start left (omega arith) i.within in omega (arith, w, l))
    (λ _. line_ended c.args.mode c.mode_at.result text start left c.ended_in-line.result.count (omega arith) i.within is c.ended_in-line.ensures.last count)
    (line_last c.args.mode c.mode_at.result text start left c.ended_in-line.result.count (omega arith) i.within is c.ended_in-line.ensures.last)
    i.none

pub lines-preserved : goal.lines-preserved
lines-preserved c =
    let i = c.lines.invariant in
    let text = c.args.text.now in
    let start = c.before_line-start.result in
    let left = c.lines.left in
    let long : length (take (left - 1) text) ≡ left - 1 = length-take-le (left - 1) text (omega (arith, i.within)) in
    let up : start ≤ left - 1 = omega (arith, c.before_line-start.ensures.within, long) in
    let some : 1 ≤ left = omega (arith, c.lines-test.true) in
    let is = mode_front c.args.mode c.mode_at.result text start (omega (arith, up, i.within))
    (λ one. sym (get_or-take (left - 1) text (start - 1) 0 (omega arith)) ∙ c.before_line-start.ensures.newline one) c.mode_at.ensures.first c.mode_at.ensures.other in
    let none : c.ended_in-line.result.count ≤ 0 = omega (arith, c.if-line-gt0.false) in
    record {
      within = omega (arith, up, i.within);
      none = λ k from upto. elim (cases_lt k left) as (λ _. IsEnded c.args.mode (take (k + 1) text) → ⊥) [
        | inl lt ↦ line_last c.args.mode c.mode_at.result text start left c.ended_in-line.result.count (omega arith) i.within is c.ended_in-line.ensures.last k (omega arith) lt
        | inr le ↦ i.none k le upto
      ];
    }
