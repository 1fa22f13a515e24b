use Rattle.std.proofs.Common.{◌≡◌, ◌+◌, ◌-◌, ◌*◌, ◌/◌, ◌≤◌, ◌≢◌, suc, length, get_or, arith, ◌∙◌, get_or-set_other}
use Rattle.pq_array.proofs.CountUp.{SpansFrom, counts_more, sum_counts, sum_fits, leaf_counts, Spans-from_first}
use Rattle.pq_array.proofs.Spans.{Counts-from_Spans}
use Rattle.pq_array.proofs.tree.count_up.Goals as goal
use Rattle.pq_array.proofs.tree.count_up.Goals.{then-node-width, else-node-width}

pub overflow_add-words-then-node-width : goal.overflow_add-words-then-node-width
overflow_add-words-then-node-width c =
    let next : suc (c.loop-node.node - 1) ≡ c.loop-node.node = omega arith in
    let few : get_or c.loop-node.words (2 * (c.loop-node.node - 1)) 0 + get_or c.loop-node.words (2 * (c.loop-node.node - 1) + 1) 0 ≤ length c.args.cells.now =
    sum_fits c.requires.leaves.0.0 (length c.args.words.now / 2) (c.loop-node.node - 1) c.args.cells.now c.loop-node.words c.requires.leaves.0.1
    (omega arith) c.if-node-width.true (rw next c.loop-node.invariant.counted) in
    omega (arith, c.requires.leaves.1)

pub loop-node-preserved : goal.loop-node-preserved
loop-node-preserved c =
    let next : suc (c.loop-node.node - 1) ≡ c.loop-node.node = omega arith in
    let later : SpansFrom (suc (c.loop-node.node - 1)) (length c.args.words.now / 2) c.args.cells.now c.loop-node.words = rw next c.loop-node.invariant.counted in
    let not_first : 0 ≢ c.loop-node.node - 1 = omega arith in
    record {
      counted =
          counts_more (length c.args.words.now / 2) (c.loop-node.node - 1) c.if-node-width.words c.args.cells.now c.loop-node.words (omega arith) later
          (elim c.if-node-width.branch [
            | then-node-width w ↦
                rw w.words-is
                (sum_counts c.requires.leaves.0.0 (length c.args.words.now / 2) (c.loop-node.node - 1) c.args.cells.now c.loop-node.words c.requires.leaves.0.1
                (omega arith) w.if-node-width.true later)
            | else-node-width w ↦
                rw w.words-is
                (leaf_counts (length c.args.words.now / 2) (c.loop-node.node - 1) w.leaf_word.result c.args.cells.now w.if-node-width.false
                w.leaf_word.ensures.live w.leaf_word.ensures.not_live)
          ]);
      unused = get_or-set_other c.loop-node.words (c.loop-node.node - 1) 0 c.if-node-width.words 0 not_first ∙ c.loop-node.invariant.unused;
    }

pub returns-clause-tree : goal.returns-clause-tree
returns-clause-tree c =
    let counts = Counts-from_Spans c.args.cells.now c.loop-node.words c.requires.leaves.0.0 (omega (arith, c.requires.pairs, c.requires.leaves.0.1)) (omega (arith, c.requires.leaves.1, c.requires.leaves.0.1))
    (Spans-from_first c.requires.leaves.0.0 (length c.args.words.now / 2) c.loop-node.node c.args.cells.now c.loop-node.words c.requires.leaves.0.1 c.loop-node-test.false c.loop-node.invariant.counted) in
    record {
      leaves = rw c.loop-node.auto.words c.requires.leaves;
      counts = counts;
    }
