use Rattle.std.proofs.Common.{◌≡◌, Some, List, take, sym, ap, ◌∙◌, subst, arith}
use Rattle.std.specs.Option.{option_copied}
use Rattle.pq_gate.specs.declared.gate.Gate.{Gate}
use Rattle.pq_rules.specs.Row.{RowView, IsSound}
use Rattle.pq_match.specs.Redex.{IsMatch}
use Rattle.pq_match.specs.Found.{seen}
use Rattle.pq_match.specs.Rewrite.{rewritten}
use Rattle.pq_match.proofs.Rewriting.{cut_front}
use Rattle.pq_match.proofs.segment.Seg.apply.Goals as goal

pub returns-clause-rewrites : goal.returns-clause-rewrites
returns-clause-rewrites c wires is =
    let numbered : Some c.unwrap-row.result.now ≡ Some is.row = ap option_copied (sym c.unwrap-row.ensures) ∙ c.row.ensures.row ∙ is.numbered in
    let row_is : c.unwrap-row.result.now ≡ is.row = cc in
    let items_is : c.as_mut_slice.result.now ≡ c.args.self.now.items = cc in
    let P : List Gate → RowView → Type 0 = λ gates row. IsMatch gates row.pattern wires (take c.args.redex.now.count c.args.redex.now.places) in
    let matches : P c.as_mut_slice.result.now c.unwrap-row.result.now =
    subst (λ (gates : List Gate). P gates c.unwrap-row.result.now) (sym items_is)
    (subst (λ (row : RowView). P c.args.self.now.items row) (sym row_is) is.matches) in
    record {
      gates = c.truncate.ensures.items
          ∙ cut_front c.rewrite-left.new.gates _ c.rewrite-left.result c.self.inside.gates.len (omega arith) (omega arith)
          ∙ c.rewrite-left.ensures.rewritten wires matches
          ∙ ap (λ (gates : List Gate). rewritten gates c.unwrap-row.result.now.replacement (seen c.args.redex.now wires)) items_is
          ∙ ap (λ (row : RowView). rewritten c.args.self.now.items row.replacement (seen c.args.redex.now wires)) row_is;
      turn = c.phase.ensures.phase ∙ ap (λ (row : RowView). row.phase) row_is;
    }

pub returns-clause-same : goal.returns-clause-same
returns-clause-same c n circuit =
    let is = c.requires.is in
    let done = returns-clause-rewrites c c.requires.wires is in
    let numbered : Some c.unwrap-row.result.now ≡ Some is.row = ap option_copied (sym c.unwrap-row.ensures) ∙ c.row.ensures.row ∙ is.numbered in
    let row_is : c.unwrap-row.result.now ≡ is.row = cc in
    let sound = subst IsSound row_is c.phase.ensures.sound in
    rw (done.gates, done.turn)
    (c.rewriting_keeps_the_matrix.ensures c.args.rules.now c.args.self.now.items (seen c.args.redex.now c.requires.wires) is n sound circuit)
