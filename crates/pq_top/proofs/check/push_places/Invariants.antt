use Rattle.std.proofs.Common.{◌≡◌, ◌++◌, take, flat_map}
use Rattle.pq_top.specs.Outputs.{spaced}
use Rattle.pq_top.proofs.check.push_places.Given as goal

-- the places so far were appended
abbrev pub invariant-loop-place : goal.invariant-loop-place
invariant-loop-place l = l.line.items ≡ l.fn.line.items ++ flat_map spaced (take l.place-index l.places)
