use Rattle.std.proofs.Common.{◌≡◌, ℕ, Bool, true, List, length, replicate, ap, ◌∙◌}
use Rattle.pq_array.specs.Flags.{cells_of}
use Rattle.pq_array.proofs.Flags.{cells_of_all}
use Rattle.pq_array.proofs.cells.Cells.all_live.Goals as goal

pub returns : goal.returns
returns c =
    let set : c.in_ok-flags.flags.items ≡ replicate (length c.args.gates.items) true =
    c.in_ok-flags.ensures.items_if_clones_equal (λ y is. is) ∙ ap (λ (n : ℕ). replicate n true) (c.len.ensures ∙ c.args.gates.ok.0) in
    ap (λ (flags : List Bool). cells_of c.args.gates.items flags) set ∙ cells_of_all c.args.gates.items
