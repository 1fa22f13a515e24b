use Rattle.std.proofs.Common.{◌≡◌, Option, List, length, take, ap, sym, ◌∙◌}
use Rattle.std.proofs.lemmas.List.{with_items_is}
use Rattle.pq_gate.specs.declared.gate.Gate.{Gate}
use Rattle.pq_array.specs.Cells.{live}
use Rattle.pq_array.specs.Flags.{cells_of}
use Rattle.pq_array.proofs.cells.Cells.into_live.Goals as goal

pub returns : goal.returns
returns c =
    let left = c.pack-left.result in
    let long : length c.pack-left.new.gates ≡ c.self.inside.gates.len =
    c.pack-left.ensures.size ∙ (ap (λ (x : List Gate). length x) c.deref_mut.ensures.value ∙ sym c.self.inside.gates.ok.0) in
    let kept : take left c.pack-left.new.gates ≡ live (cells_of c.self.inside.gates.items c.self.inside.flags.items) =
    rw (c.deref_mut.ensures.value, c.deref.ensures.value) at c.pack-left.ensures.kept in
    c.truncate.ensures.items
    ∙ (ap (λ (x : List Gate). take left x) (with_items_is c.self.inside.gates c.pack-left.new.gates long)
    ∙ (kept ∙ ap (λ (x : List (Option Gate)). live x) c.self.view_is))
