use Rattle.std.proofs.Common.{◌+◌, ◌/◌, ◌<◌, length, arith}
use Rattle.pq_array.proofs.Climb.{climbs, climbs_on, climbed, climb_inside, climb_halves, climb_word}
use Rattle.pq_array.proofs.tree.lower.Goals as goal

pub loop-node-init : goal.loop-node-init
loop-node-init c = climbs (length c.args.words.now / 2) c.args.place c.args.words.now

pub bounds-words-node : goal.bounds-words-node
bounds-words-node c =
    let leaf : length c.args.words.now / 2 + c.args.place < length c.args.words.now = omega (arith, c.requires.leaf) in
    omega (arith, climb_inside leaf c.loop-node.invariant, c.loop-node.auto.words)

pub overflow_sub-words : goal.overflow_sub-words
overflow_sub-words c =
    omega (arith, climb_word c.loop-node.invariant, c.requires.counted c.loop-node.node (omega (arith, c.loop-node-test.true)) (climb_halves c.loop-node.invariant))

pub loop-node-preserved : goal.loop-node-preserved
loop-node-preserved c =
    let leaf : length c.args.words.now / 2 + c.args.place < length c.args.words.now = omega (arith, c.requires.leaf) in
    let inside : c.loop-node.node < length c.args.words.now = climb_inside leaf c.loop-node.invariant in
    climbs_on c.loop-node-test.true inside
    (c.requires.counted c.loop-node.node (omega (arith, c.loop-node-test.true)) (climb_halves c.loop-node.invariant))
    c.loop-node.invariant

pub returns : goal.returns
returns c = climbed c.loop-node-test.false c.loop-node.invariant
