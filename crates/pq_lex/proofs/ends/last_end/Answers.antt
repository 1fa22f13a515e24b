use Rattle.std.proofs.Common.{◌≤◌, length, arith}
use Rattle.pq_lex.proofs.Lines.{mode_front, line_last, line_ended, line_mode, front_last}
use Rattle.pq_lex.proofs.ends.last_end.Goals as goal

pub returns-then-line-gt0-clause-ended : goal.returns-then-line-gt0-clause-ended
returns-then-line-gt0-clause-ended c =
    let text = c.args.text.now in
    let start = c.before_line-start.result in
    let up : start ≤ length text = c.before_line-start.ensures.within in
    let is = mode_front c.args.mode c.mode_at.result text start up c.before_line-start.ensures.newline c.mode_at.ensures.first c.mode_at.ensures.other in
    let count : 1 ≤ c.ended_in-line.result.count = omega (arith, c.if-line-gt0.true) in
    λ _. line_ended c.args.mode c.mode_at.result text start (length text) c.ended_in-line.result.count up (omega arith) is c.ended_in-line.ensures.last count

pub returns-then-line-gt0-clause-last : goal.returns-then-line-gt0-clause-last
returns-then-line-gt0-clause-last c =
    let text = c.args.text.now in
    let start = c.before_line-start.result in
    let up : start ≤ length text = c.before_line-start.ensures.within in
    let is = mode_front c.args.mode c.mode_at.result text start up c.before_line-start.ensures.newline c.mode_at.ensures.first c.mode_at.ensures.other in
    line_last c.args.mode c.mode_at.result text start (length text) c.ended_in-line.result.count up (omega arith) is c.ended_in-line.ensures.last

pub returns-then-line-gt0-clause-mode : goal.returns-then-line-gt0-clause-mode
returns-then-line-gt0-clause-mode c =
    let text = c.args.text.now in
    let start = c.before_line-start.result in
    let up : start ≤ length text = c.before_line-start.ensures.within in
    let is = mode_front c.args.mode c.mode_at.result text start up c.before_line-start.ensures.newline c.mode_at.ensures.first c.mode_at.ensures.other in
    line_mode c.args.mode c.mode_at.result c.ended_in-line.result.mode text start up is c.ended_in-line.ensures.mode

pub returns-else-line-gt0-clause-last : goal.returns-else-line-gt0-clause-last
returns-else-line-gt0-clause-last c =
    let text = c.args.text.now in
    let start = c.before_line-start.result in
    let up : start ≤ length text = c.before_line-start.ensures.within in
    let is = mode_front c.args.mode c.mode_at.result text start up c.before_line-start.ensures.newline c.mode_at.ensures.first c.mode_at.ensures.other in
    let none : c.ended_in-line.result.count ≤ 0 = omega (arith, c.if-line-gt0.false) in
    front_last c.args.mode text start c.last_in_lines.result up c.last_in_lines.ensures
    (λ k from upto. line_last c.args.mode c.mode_at.result text start (length text) c.ended_in-line.result.count up (omega arith) is c.ended_in-line.ensures.last k (omega arith) upto)

pub returns-else-line-gt0-clause-mode : goal.returns-else-line-gt0-clause-mode
returns-else-line-gt0-clause-mode c =
    let text = c.args.text.now in
    let start = c.before_line-start.result in
    let up : start ≤ length text = c.before_line-start.ensures.within in
    let is = mode_front c.args.mode c.mode_at.result text start up c.before_line-start.ensures.newline c.mode_at.ensures.first c.mode_at.ensures.other in
    line_mode c.args.mode c.mode_at.result c.ended_in-line.result.mode text start up is c.ended_in-line.ensures.mode
