use Rattle.std.proofs.Common.{◌≡◌, ◌+◌, length, arith}
use Rattle.pq_array.specs.Cells.{rank, IsLive}
use Rattle.pq_array.proofs.Replacing.{run_push, run_from_ranks}
use Rattle.pq_array.proofs.tests.run_of.Goals as goal

pub loop-number-init : goal.loop-number-init
loop-number-init c = record { run = rw c.new-places.ensures.items (λ i lt. absurd (omega arith)); len = c.new-places.ensures.len }

pub loop-number-preserved : goal.loop-number-preserved
loop-number-preserved c =
    let cells = c.args.array.now in
    let here : IsLive cells c.unwrap-place.result = rw c.unwrap-place.ensures at c.select.ensures.live in
    let number = rw c.unwrap-place.ensures at c.select.ensures.number in
    let is : rank cells c.unwrap-place.result ≡ c.args.first + length c.loop-number.places.items =
    omega (arith, number, c.from.ensures, c.from-in-loop-number.ensures, c.loop-number.invariant.len, c.loop-number.places.ok) in
    record {
      run = rw c.in_ok-push.ensures.items (run_push cells c.args.first c.unwrap-place.result c.loop-number.places.items c.loop-number.invariant.run here is);
      len = omega (arith, c.in_ok-push.ensures.len, c.loop-number.invariant.len);
    }

pub returns-clause-run : goal.returns-clause-run
returns-clause-run c = run_from_ranks c.args.array.now c.args.first c.loop-number.places.items c.loop-number.invariant.run
