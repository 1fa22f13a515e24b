use Rattle.std.proofs.Common.{◌+◌, ◌%◌}
use Rattle.pq_links.specs.Links.{bucket_of}
use Rattle.pq_links.proofs.Buckets.{IsBack}
use Rattle.pq_links.proofs.links.last_before.Given as goal

abbrev pub invariant-back : goal.invariant-back
invariant-back l = IsBack l.buckets (bucket_of l.buckets l.wire) l.gates l.wire l.place

-- places fall, and past the end it is over
abbrev pub decreases-back : goal.decreases-back
decreases-back l = (l.place + 1) % 65536
