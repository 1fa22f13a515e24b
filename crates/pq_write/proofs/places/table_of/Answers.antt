use Rattle.std.proofs.Common.{◌++◌, map, sym, ap, ◌∙◌, arith}
use Rattle.pq_text.specs.WellFormed.{IsRegister}
use Rattle.pq_read.specs.Environment.{register_view}
use Rattle.pq_write.specs.Table.{texts_in}
use Rattle.pq_write.proofs.Listing.{lines_more, viewed, inside, each_at}
use Rattle.pq_write.proofs.Texts.{places_here}
use Rattle.pq_write.proofs.places.table_of.Goals as goal

pub push_register-requires-clause-room : goal.push_register-requires-clause-room
push_register-requires-clause-room c =
    let items = c.args.registers.now in
    let i = c.loop-register.register-index in
    let r = c.register-item.result in
    omega (arith, places_here (map register_view items) i (register_view r) (inside register_view items i c.loop-register-test.true) (viewed register_view items i r c.loop-register-test.true c.register-item.is), c.loop-register.invariant.count, c.requires.limit)

pub push_register-requires-clause-short : goal.push_register-requires-clause-short
push_register-requires-clause-short c =
    let items = c.args.registers.now in
    let i = c.loop-register.register-index in
    let r = c.register-item.result in
    let own = each_at IsRegister (map register_view items) i (register_view r) c.requires.each (inside register_view items i c.loop-register-test.true) (viewed register_view items i r c.loop-register-test.true c.register-item.is) in
    own.named.short

pub loop-register-preserved : goal.loop-register-preserved
loop-register-preserved c =
    let items = c.args.registers.now in
    let i = c.loop-register.register-index in
    let r = c.register-item.result in
    let within = inside register_view items i c.loop-register-test.true in
    let is = viewed register_view items i r c.loop-register-test.true c.register-item.is in
    record {
      laid = c.in_ok-push_register.ensures.laid;
      count = omega (arith, places_here (map register_view items) i (register_view r) within is, c.loop-register.invariant.count, c.in_ok-push_register.ensures.count);
      texts = c.in_ok-push_register.ensures.texts
          ∙ (ap (λ ts. ts ++ texts_in (register_view r)) c.loop-register.invariant.texts ∙ sym (lines_more texts_in (map register_view items) i (register_view r) within is));
    }
