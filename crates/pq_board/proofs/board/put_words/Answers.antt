use Rattle.std.proofs.Common.{◌∙◌, sym}
use Rattle.std.specs.Mem.Slots.{slots_items, slots_counts}
use Rattle.pq_board.proofs.Climbing.{found_is}
use Rattle.pq_board.proofs.Taking.{taken_all}
use Rattle.pq_board.proofs.board.put_words.Goals as goal

pub returns : goal.returns
returns c =
    let last = slots_items c.args.last.now.words in
    record {
      items = c.put.ensures.items
          ∙ taken_all c.args.words.now.items c.take_changed.new.words.items last c.word.result c.take_changed.ensures
          (sym (slots_counts c.args.last.now.words).0 ∙ sym c.requires.size) c.requires.some (found_is last 0 c.word.result c.word.ensures);
    }
