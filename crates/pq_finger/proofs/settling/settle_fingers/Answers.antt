use Rattle.std.proofs.Common.{refl}
use Rattle.pq_finger.proofs.Halfway.{SettledUpTo-none}
use Rattle.pq_finger.proofs.settling.settle_fingers.Goals as goal

pub loop-index-init : goal.loop-index-init
loop-index-init c = record {
  settled = rw c.requires.empty (SettledUpTo-none c.args.places.now c.args.cuts.now);
  capacity = refl;
}
