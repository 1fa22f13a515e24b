use Rattle.std.proofs.Common.{◌≡◌, ◌+◌, ◌*◌, ◌/◌, ◌<◌, ◌≤◌, ℕ, length, get_or, arith, ap, sym, ◌∙◌}
use Rattle.std.proofs.lemmas.List.{get_or_read}
use Rattle.pq_array.proofs.Descent.{goes_down, goes_left, goes_right, gone_down, children_inside, counted_fits, words_pair, rank_past}
use Rattle.pq_array.proofs.array.GateArray.rank.Goals as goal
use Rattle.pq_array.proofs.array.GateArray.rank.Goals.{then-offset-half, else-offset-half}

pub returns-then-offset-width : goal.returns-then-offset-width
returns-then-offset-width c =
    let cells = c.self.inside.cells in
    let words = c.self.inside.words.items in
    let width : c.len-width.result / 2 ≡ length words / 2 = ap (λ (x : ℕ). x / 2) (c.len-width.ensures ∙ c.self.inside.words.ok.0) in
    c.live.ensures ∙ rw (← c.self.view_is) (sym (rank_past cells words c.args.place c.self.invariant.0 (omega arith)))

pub loop-half-init : goal.loop-half-init
loop-half-init c =
    let width : c.len-width.result / 2 ≡ length c.self.inside.words.items / 2 = ap (λ (x : ℕ). x / 2) (c.len-width.ensures ∙ c.self.inside.words.ok.0) in
    goes_down c.self.inside.cells c.self.inside.words.items (c.len-width.result / 2) c.args.place c.self.invariant.0 width c.if-offset-width.false

pub overflow_add-before : goal.overflow_add-before
overflow_add-before c =
    let cells = c.self.inside.cells in
    let words = c.self.inside.words.items in
    let width : c.len-width.result / 2 ≡ length words / 2 = ap (λ (x : ℕ). x / 2) (c.len-width.ensures ∙ c.self.inside.words.ok.0) in
    let inside : 2 * c.loop-half.node < length words = omega (arith, children_inside c.loop-half-test.true c.loop-half.invariant, words_pair c.self.invariant.0) in
    let word : c.index.result.now ≡ get_or words (2 * c.loop-half.node) 0 =
    get_or_read words (2 * c.loop-half.node) c.index.result.now inside c.index.ensures 0 in
    let few : c.loop-half.before + get_or words (2 * c.loop-half.node) 0 ≤ length cells =
    counted_fits cells words c.loop-half.node c.args.place c.loop-half.before (c.len-width.result / 2) c.loop-half.offset c.loop-half.half
    c.self.invariant.0 width c.loop-half-test.true c.loop-half.invariant in
    omega (arith, c.self.invariant.0.leaves.1, c.self.inside.words.ok, c.self.inside.words.small)

pub loop-half-preserved : goal.loop-half-preserved
loop-half-preserved c =
    let cells = c.self.inside.cells in
    let words = c.self.inside.words.items in
    let width : c.len-width.result / 2 ≡ length words / 2 = ap (λ (x : ℕ). x / 2) (c.len-width.ensures ∙ c.self.inside.words.ok.0) in
    elim c.if-offset-half.branch [
      | then-offset-half w ↦ rw (w.node-is, w.offset-is, w.before-is) (goes_left c.loop-half-test.true w.if-offset-half.true c.loop-half.invariant)
      | else-offset-half w ↦
          let inside : 2 * c.loop-half.node < length words = omega (arith, children_inside c.loop-half-test.true c.loop-half.invariant, words_pair c.self.invariant.0) in
          let word : w.index.result.now ≡ get_or words (2 * c.loop-half.node) 0 =
          get_or_read words (2 * c.loop-half.node) w.index.result.now inside w.index.ensures 0 in
          rw (w.node-is, w.offset-is, w.before-is, word) (goes_right words c.self.invariant.0 width c.loop-half-test.true w.if-offset-half.false c.loop-half.invariant)
    ]

pub returns : goal.returns
returns c = rw (← c.self.view_is) (gone_down c.loop-half-test.false c.loop-half.invariant)
