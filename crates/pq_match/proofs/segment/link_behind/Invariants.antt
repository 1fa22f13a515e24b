use Rattle.std.proofs.Common.{◌≡◌, take}
use Rattle.pq_links.specs.Links.{AreLinked}
use Rattle.pq_match.proofs.segment.link_behind.Given as goal

abbrev pub invariant-loop-place : goal.invariant-loop-place
invariant-loop-place l = record {
  linked : AreLinked (take l.place l.gates) l.links;
  room : l.links.room ≡ l.fn.links.room;
}
