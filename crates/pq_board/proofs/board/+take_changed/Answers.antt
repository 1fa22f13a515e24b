use Rattle.std.proofs.Common.{arith, ◌≡◌, ◌*◌, ℕ, List, length, get_or, sym, ap, ◌∙◌, subst, length-set}
use Rattle.std.specs.Mem.Slots.{slots_items, slots_counts}
use Rattle.pq_board.specs.Changed.{FollowUnder, AreTakenUnder}
use Rattle.pq_board.proofs.Climbing.{found_is}
use Rattle.pq_board.proofs.Taking.{taken_none, taken_leaf, taken_both, follow_left, follow_right}
use Rattle.pq_board.proofs.board.+take_changed.Goals as goal

pub returns-then-as_slice-node : goal.returns-then-as_slice-node
returns-then-as_slice-node t c =
    let last = slots_items c.args.last.now.words in
    let word : get_or last c.args.node 0 ≡ c.word-word.result = found_is last c.args.node c.word-word.result c.word-word.ensures in
    let here : get_or c.args.words.now.items c.args.node 0 ≡ c.word-word.result = ap (λ (l : List ℕ). get_or l c.args.node 0) (sym c.as_slice.ensures) ∙ c.if-as_slice-node.true in
    taken_none c.args.node c.args.words.now.items last c.requires.follow (here ∙ sym word)

pub take_changed-requires : goal.take_changed-requires
take_changed-requires t c =
    let words = c.args.words.now.items in
    let long : length c.put.new.self.items ≡ length words = ap (λ (l : List ℕ). length l) c.put.ensures.items ∙ length-set words c.args.node c.word-word.result in
    let seen : length c.as_slice-2.result.now ≡ length c.put.new.self.items = ap (λ (l : List ℕ). length l) c.as_slice-2.ensures in (
      omega (arith, c.decreases),
      (
        c.requires.full,
        (
          long ∙ c.requires.size,
          (
            omega (arith, long, c.requires.pairs),
            (
              omega (arith, c.requires.some),
              (
                omega (arith, long, seen, c.requires.pairs),
                subst (λ (l : List ℕ). FollowUnder (2 * c.args.node) l (slots_items c.args.last.now.words)) (sym c.put.ensures.items)
                    (follow_left c.args.node c.word-word.result words (slots_items c.args.last.now.words) c.requires.some c.requires.follow),
              ),
            ),
          ),
        ),
      ),
    )

pub take_changed-requires-then-node-as_slice : goal.take_changed-requires-then-node-as_slice
take_changed-requires-then-node-as_slice t c =
    let words = c.args.words.now.items in
    let last = slots_items c.args.last.now.words in
    let put : length c.put.new.self.items ≡ length words = ap (λ (l : List ℕ). length l) c.put.ensures.items ∙ length-set words c.args.node c.word-word.result in
    let long : length c.take_changed.new.words.items ≡ length words = c.take_changed.ensures.size ∙ put in
    let seen : length c.as_slice-2.result.now ≡ length c.put.new.self.items = ap (λ (l : List ℕ). length l) c.as_slice-2.ensures in (
      omega (arith, c.decreases),
      (
        c.requires.full,
        (
          long ∙ c.requires.size,
          (
            omega (arith, long, c.requires.pairs),
            (
              omega (arith, c.requires.some),
              (
                omega (arith, put, long, seen, c.requires.pairs),
                follow_right c.args.node c.word-word.result words c.take_changed.new.words.items last c.requires.some c.requires.follow
                    (subst (λ (l : List ℕ). AreTakenUnder (2 * c.args.node) l c.take_changed.new.words.items last) c.put.ensures.items c.take_changed.ensures),
              ),
            ),
          ),
        ),
      ),
    )

pub returns-then-node-as_slice : goal.returns-then-node-as_slice
returns-then-node-as_slice t c =
    let last = slots_items c.args.last.now.words in
    taken_both c.args.node c.word-word.result c.args.words.now.items c.take_changed.new.words.items c.take_changed-then-node-as_slice.new.words.items last c.requires.some c.requires.inside
    (found_is last c.args.node c.word-word.result c.word-word.ensures)
    (subst (λ (l : List ℕ). AreTakenUnder (2 * c.args.node) l c.take_changed.new.words.items last) c.put.ensures.items c.take_changed.ensures)
    c.take_changed-then-node-as_slice.ensures

pub returns-else-node-as_slice : goal.returns-else-node-as_slice
returns-else-node-as_slice t c =
    let words = c.args.words.now.items in
    let last = slots_items c.args.last.now.words in
    let put : length c.put.new.self.items ≡ length words = ap (λ (l : List ℕ). length l) c.put.ensures.items ∙ length-set words c.args.node c.word-word.result in
    let seen : length c.as_slice-2.result.now ≡ length c.put.new.self.items = ap (λ (l : List ℕ). length l) c.as_slice-2.ensures in
    subst (λ (l : List ℕ). AreTakenUnder c.args.node words l last) (sym c.put.ensures.items)
    (taken_leaf c.args.node c.word-word.result words last (sym (slots_counts c.args.last.now.words).0 ∙ sym c.requires.size) c.requires.inside
    (omega (arith, put, seen, c.if-node-as_slice.false, c.requires.pairs)) (found_is last c.args.node c.word-word.result c.word-word.ensures))
