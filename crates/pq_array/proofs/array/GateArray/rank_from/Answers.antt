use Rattle.std.proofs.Common.{arith, ◌≡◌, ◌+◌, ◌∙◌, ◌-◌, Bool, Option, List, map, is_some, take, drop, ap}
use Rattle.std.proofs.lemmas.List.{length-take}
use Rattle.pq_gate.specs.declared.gate.Gate.{Gate}
use Rattle.pq_array.specs.Cells.{rank}
use Rattle.pq_array.proofs.Ranks.{byte, rank_on_part, length-live-le}
use Rattle.pq_array.proofs.array.GateArray.rank_from.Goals as goal
use Rattle.pq_array.proofs.array.GateArray.rank_from.Goals.{After-from-rank}

one_on : (c : After-from-rank) → c.loop-flag.rank + c.from-rank.result ≡ rank c.args.self.now (c.args.earlier + (c.loop-flag.flag-index + 1))
one_on c =
    let cells = c.args.self.now in
    let part = take (c.args.place - c.args.earlier) (drop c.args.earlier c.flags.result.now) in
    let same : c.flags.result.now ≡ map is_some cells = c.flags.ensures ∙ ap (λ (l : List (Option Gate)). map is_some l) c.self.view_is in
    let part_is : part ≡ take (c.args.place - c.args.earlier) (drop c.args.earlier (map is_some cells)) = ap (λ (l : List Bool). take (c.args.place - c.args.earlier) (drop c.args.earlier l)) same in
    omega (
      arith,
      c.loop-flag.invariant,
      rank_on_part cells part c.args.earlier c.args.place c.loop-flag.flag-index _ c.from-rank.result part_is c.requires.inside c.loop-flag-test.true (c.from-rank.ensures ∙ byte _),
    )

pub overflow_add-rank : goal.overflow_add-rank
overflow_add-rank c =
    let next = c.args.earlier + (c.loop-flag.flag-index + 1) in
    omega (
      arith,
      one_on c,
      length-live-le (take next c.args.self.now),
      length-take next c.args.self.now,
      length-take (c.args.place - c.args.earlier) (drop c.args.earlier c.flags.result.now),
      c.loop-flag-test.true,
    )

pub loop-flag-preserved : goal.loop-flag-preserved
loop-flag-preserved c = one_on c
