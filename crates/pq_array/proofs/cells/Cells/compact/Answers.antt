use Rattle.std.proofs.Common.{◌≡◌, ℕ, Bool, true, Option, Some, List, length, map, take, replicate, arith, ap, sym, ◌∙◌}
use Rattle.std.proofs.lemmas.List.{with_items_is}
use Rattle.pq_gate.specs.declared.gate.Gate.{Gate}
use Rattle.pq_array.specs.Cells.{live}
use Rattle.pq_array.specs.Flags.{cells_of}
use Rattle.pq_array.proofs.Flags.{cells_of_all}
use Rattle.pq_array.proofs.cells.Cells.compact.Goals as goal

pub returns : goal.returns
returns c =
    let count = c.pack-count.result in
    let long : length c.pack-count.new.gates ≡ c.self.inside.gates.len =
    c.pack-count.ensures.size ∙ (ap (λ (x : List Gate). length x) c.deref_mut.ensures.value ∙ sym c.self.inside.gates.ok.0) in
    let kept : take count c.pack-count.new.gates ≡ live (cells_of c.self.inside.gates.items c.self.inside.flags.items) =
    rw (c.deref_mut.ensures.value, c.deref.ensures.value) at c.pack-count.ensures.kept in
    let gates : c.truncate.new.self.items ≡ live c.args.self.now =
    c.truncate.ensures.items
    ∙ (ap (λ (x : List Gate). take count x) (with_items_is c.self.inside.gates c.pack-count.new.gates long)
    ∙ (kept ∙ ap (λ (x : List (Option Gate)). live x) c.self.view_is)) in
    let many : c.truncate-2.new.self.len ≡ length c.truncate.new.self.items =
    omega (
      arith,
      c.truncate.ensures.len,
      c.truncate-2.ensures.len,
      c.pack-count.ensures.no_more,
      ap (λ (x : List Bool). length x) c.deref.ensures.value,
      c.self.invariant,
      c.self.inside.gates.ok.0,
      c.self.inside.flags.ok.0,
      c.truncate.new.self.ok.0,
    ) in
    let set : c.fill.new.self.items ≡ replicate (length c.truncate.new.self.items) true = c.fill.ensures.items (λ y is. is) ∙ ap (λ (n : ℕ). replicate n true) many in
    ap (λ (flags : List Bool). cells_of c.truncate.new.self.items flags) set
    ∙ (cells_of_all c.truncate.new.self.items ∙ ap (λ (x : List Gate). map (λ (gate : Gate). Some gate) x) gates)
