use Rattle.std.proofs.Common.{◌≡◌, ◌+◌, length, ap, ◌∙◌, arith}
use Rattle.std.proofs.lemmas.List.{length-append}
use Rattle.pq_text.specs.Print.{indexed}
use Rattle.pq_write.specs.declared.places.Extent.{Extent}
use Rattle.pq_write.proofs.Bounds.{indexed_short}
use Rattle.pq_write.proofs.Texts.{laid_more, texts_more}
use Rattle.pq_write.proofs.places.Table.push.Goals as goal

pub overflow_cast-end : goal.overflow_cast-end
overflow_cast-end c =
    let old = c.args.self.now in
    let text = indexed c.args.name.now c.args.index in
    let grown : length c.push_indexed.new.out.items ≡ length old.bytes.items + length text =
    ap length c.in_ok-push_indexed.ensures ∙ length-append old.bytes.items text
    in
    let short = indexed_short c.args.name.now c.args.index c.requires.short (omega arith) in
    omega (arith, c.requires.laid.short, c.push_indexed.new.out.ok.0, old.extents.ok.0)

pub returns-clause-laid : goal.returns-clause-laid
returns-clause-laid c =
    let old = c.args.self.now in
    let text = indexed c.args.name.now c.args.index in
    let e : Extent = record { start = c.len-start.result; end = c.len-end.result } in
    laid_more old (record { bytes = c.push_indexed.new.out; extents = c.push.new.self }) text e c.requires.laid
    (record {
      bytes = c.in_ok-push_indexed.ensures;
      extents = c.in_ok-push.ensures.items;
      start = omega (arith, old.bytes.ok.0);
      end = omega (arith, c.push_indexed.new.out.ok.0);
      short = indexed_short c.args.name.now c.args.index c.requires.short (omega arith);
    })

pub returns-clause-texts : goal.returns-clause-texts
returns-clause-texts c =
    let old = c.args.self.now in
    let text = indexed c.args.name.now c.args.index in
    let e : Extent = record { start = c.len-start.result; end = c.len-end.result } in
    texts_more old (record { bytes = c.push_indexed.new.out; extents = c.push.new.self }) text e c.requires.laid
    (record {
      bytes = c.in_ok-push_indexed.ensures;
      extents = c.in_ok-push.ensures.items;
      start = omega (arith, old.bytes.ok.0);
      end = omega (arith, c.push_indexed.new.out.ok.0);
      short = indexed_short c.args.name.now c.args.index c.requires.short (omega arith);
    })
