use Rattle.std.proofs.Common.{◌≡◌, ℕ, ◌+◌, [], ◌∷◌, List, arith}
use Rattle.pq_text.specs.Program.{TailView, Measure, entries_of}
use Rattle.pq_read.proofs.Counts.{each_more, entries_more}
use Rattle.pq_read.proofs.tail_statement.push_measurements.Goals as goal

pub loop-k-preserved : goal.loop-k-preserved
loop-k-preserved c =
    let a = c.args.a.now in
    let b = c.args.b.now in
    let f : ℕ → List TailView = λ k. Measure (a.first + k) (b.first + k) ∷ [] in
    let more : entries_of c.push_measurement.new.self ≡ (entries_of c.args.tail.now + c.loop-k.k) + 1 =
    entries_more c.loop-k.tail c.push_measurement.new.self (a.first + c.loop-k.k) (b.first + c.loop-k.k) (entries_of c.args.tail.now + c.loop-k.k) c.in_ok-push_measurement.ensures c.loop-k.invariant.1 in
    (each_more c.args.tail.now c.loop-k.tail c.push_measurement.new.self c.loop-k.k f c.loop-k.invariant.0 c.in_ok-push_measurement.ensures, omega arith)
