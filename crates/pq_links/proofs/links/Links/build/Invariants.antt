use Rattle.std.proofs.Common.{◌≡◌, take}
use Rattle.pq_links.specs.Links.{AreLinked}
use Rattle.pq_links.proofs.links.Links.build.Given as goal

abbrev pub invariant-loop-place : goal.invariant-loop-place
invariant-loop-place l = record {
  linked : AreLinked (take l.place l.gates) l.self;
  room : l.self.room ≡ l.fn.self.room;
}
