use Rattle.std.proofs.Common.{◌≡◌, ◌+◌, ◌++◌, map, vec_len}
use Rattle.std.specs.List.{range_with_len}
use Rattle.pq_text.specs.Print.{indexed}
use Rattle.pq_write.specs.Table.{IsLaid, texts_of}
use Rattle.pq_write.proofs.places.Table.push_register.Given as goal

abbrev pub invariant-loop-index : goal.invariant-loop-index
invariant-loop-index l = record {
  laid : IsLaid l.self;
  count : vec_len l.self.extents ≡ vec_len l.initial.self.extents + l.index;
  texts : texts_of l.self ≡ texts_of l.initial.self ++ map (indexed l.name) (range_with_len 0 l.index);
}
