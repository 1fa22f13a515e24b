use Rattle.std.proofs.Common.{◌<◌, length, ◌∙◌}
use Rattle.std.proofs.lemmas.List.{get_or_read}
use Rattle.pq_array.proofs.Descent.{root_counts, root_inside}
use Rattle.pq_array.proofs.array.GateArray.live.Goals as goal

pub returns : goal.returns
returns c =
    let inside : 1 < length c.self.inside.words.items = root_inside c.self.invariant.0 in
    rw (← c.self.view_is)
    (get_or_read c.self.inside.words.items 1 c.index.result.now inside c.index.ensures 0 ∙ root_counts c.self.inside.cells c.self.inside.words.items c.self.invariant.0)
