use Rattle.std.proofs.Common.{◌≡◌, ◌*◌, ◌/◌, ◌<◌, ℕ, length, get_or, arith, ap, ◌∙◌}
use Rattle.std.proofs.lemmas.List.{get_or_read}
use Rattle.pq_array.proofs.Descent.{seeks, seeks_left, seeks_right, sought, numbered_gate, words_pair}
use Rattle.pq_array.proofs.array.GateArray.select.Goals as goal

pub loop-node-init : goal.loop-node-init
loop-node-init c =
    let width : c.len-width.result / 2 ≡ length c.self.inside.words.items / 2 = ap (λ (x : ℕ). x / 2) (c.len-width.ensures ∙ c.self.inside.words.ok.0) in
    seeks c.self.inside.cells c.self.inside.words.items (c.len-width.result / 2) c.args.number c.self.invariant.0 width
    (rw c.self.view_is (rw (← c.live.ensures) c.if-number-live.false))

pub loop-node-preserved-then-rest-count : goal.loop-node-preserved-then-rest-count
loop-node-preserved-then-rest-count c =
    let words = c.self.inside.words.items in
    let width : c.len-width.result / 2 ≡ length words / 2 = ap (λ (x : ℕ). x / 2) (c.len-width.ensures ∙ c.self.inside.words.ok.0) in
    let inside : 2 * c.loop-node.node < length words = omega (arith, words_pair c.self.invariant.0) in
    let word : c.index-count.result.now ≡ get_or words (2 * c.loop-node.node) 0 =
    get_or_read words (2 * c.loop-node.node) c.index-count.result.now inside c.index-count.ensures 0 in
    seeks_left c.loop-node-test.true (omega arith) c.loop-node.invariant

pub loop-node-preserved : goal.loop-node-preserved
loop-node-preserved c =
    let words = c.self.inside.words.items in
    let width : c.len-width.result / 2 ≡ length words / 2 = ap (λ (x : ℕ). x / 2) (c.len-width.ensures ∙ c.self.inside.words.ok.0) in
    let inside : 2 * c.loop-node.node < length words = omega (arith, words_pair c.self.invariant.0) in
    let word : c.index-count.result.now ≡ get_or words (2 * c.loop-node.node) 0 =
    get_or_read words (2 * c.loop-node.node) c.index-count.result.now inside c.index-count.ensures 0 in
    rw word (seeks_right c.self.invariant.0 width c.loop-node-test.true (omega arith) c.loop-node.invariant)

pub returns-clause-live : goal.returns-clause-live
returns-clause-live c =
    let width : c.len-width.result / 2 ≡ length c.self.inside.words.items / 2 = ap (λ (x : ℕ). x / 2) (c.len-width.ensures ∙ c.self.inside.words.ok.0) in
    rw (← c.self.view_is) (sought c.self.invariant.0 width c.loop-node-test.false c.loop-node.invariant).here

pub returns-clause-number : goal.returns-clause-number
returns-clause-number c =
    let width : c.len-width.result / 2 ≡ length c.self.inside.words.items / 2 = ap (λ (x : ℕ). x / 2) (c.len-width.ensures ∙ c.self.inside.words.ok.0) in
    rw (← c.self.view_is) (sought c.self.invariant.0 width c.loop-node-test.false c.loop-node.invariant).number_is

pub returns-clause-gate : goal.returns-clause-gate
returns-clause-gate c =
    let width : c.len-width.result / 2 ≡ length c.self.inside.words.items / 2 = ap (λ (x : ℕ). x / 2) (c.len-width.ensures ∙ c.self.inside.words.ok.0) in
    rw (← c.self.view_is) (numbered_gate (sought c.self.invariant.0 width c.loop-node-test.false c.loop-node.invariant))
