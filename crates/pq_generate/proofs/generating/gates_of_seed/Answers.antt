use Rattle.std.proofs.Common.{rules, ◌+◌, ◌<◌, length, ap, ◌∙◌, arith}
use Rattle.std.proofs.lemmas.List.{length_push}
use Rattle.pq_generate.proofs.Words.{one_more}
use Rattle.pq_generate.proofs.generating.gates_of_seed.Goals as goal

pub loop-number-preserved : goal.loop-number-preserved
loop-number-preserved c = record {
  room = search rules;
  count = ap length c.push_kept.ensures.items ∙ length_push c.loop-number.list.items c.gate.result ∙ ap (λ n. n + 1) c.loop-number.invariant.count;
  made = (let here : c.loop-number._number < c.args.gates = omega arith in one_more _ _ _ _ _ _ _ _ _ here c.next_u64.ensures c.loop-number.invariant.made (search rules));
}
