use Rattle.std.proofs.Common.{IfSome}
use Rattle.std.proofs.lemmas.Option.{IfSome_then}
use Rattle.pq_array.proofs.Descent.{IsNext, next_by_number, none_by_number}
use Rattle.pq_array.proofs.array.GateArray.next_by_rank.Goals as goal

-- what `select` finds is the next live place
found : (c : goal.After-select) → IfSome c.select.result (IsNext c.args.self.now c.args.place)
found c = next_by_number c.args.self.now c.args.place c.select.result c.select.ensures.live (rw c.rank.ensures at c.select.ensures.number)

pub returns-then-place-cells-clause-none : goal.returns-then-place-cells-clause-none
returns-then-place-cells-clause-none c =
    none_by_number c.args.self.now c.args.place c.select.result (found c) (rw c.rank.ensures at c.select.ensures.none)

pub returns-then-place-cells-clause-after : goal.returns-then-place-cells-clause-after
returns-then-place-cells-clause-after c = IfSome_then c.select.result (found c) (λ next is. is.after)

pub returns-then-place-cells-clause-least : goal.returns-then-place-cells-clause-least
returns-then-place-cells-clause-least c = IfSome_then c.select.result (found c) (λ next is. is.least)
