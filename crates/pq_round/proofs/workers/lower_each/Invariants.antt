use Rattle.std.proofs.Common.{◌≡◌, take}
use Rattle.pq_round.specs.Workers.{HasLowered}
use Rattle.pq_round.proofs.workers.lower_each.Given as goal

-- the places before this one are lowered
abbrev pub invariant-loop-place : goal.invariant-loop-place
invariant-loop-place l = record {
  board : l.pass.board ≡ l.fn.pass.board;
  lowered : HasLowered l.fn.pass.view l.pass.view (take l.place-index l.places);
}
