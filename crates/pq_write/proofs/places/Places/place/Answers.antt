use Rattle.std.proofs.Common.{◌<◌, length, map, slice_range, ◌∙◌, ap, arith}
use Rattle.pq_text.specs.Program.{places_of}
use Rattle.pq_text.specs.Print.{place}
use Rattle.pq_read.specs.Environment.{register_view}
use Rattle.pq_write.proofs.Texts.{count_is, text_is}
use Rattle.pq_write.proofs.places.Places.place.Goals as goal

pub index-extent-requires : goal.index-extent-requires
index-extent-requires c =
    let table = c.self.inside.table in
    omega (arith, count_is (map register_view c.self.inside.registers.now) table c.self.invariant, ap places_of c.self.view_is, table.extents.ok.0)

pub slice_bounds-result-count : goal.slice_bounds-result-count
slice_bounds-result-count c =
    let regs = map register_view c.self.inside.registers.now in
    let inside : c.args.number < places_of regs = omega (arith, ap places_of c.self.view_is) in
    let t = text_is regs c.self.inside.table c.args.number c.index-extent.result.now c.self.invariant inside c.index-extent.ensures in
    t.ordered

pub slice_bounds-result-start : goal.slice_bounds-result-start
slice_bounds-result-start c =
    let regs = map register_view c.self.inside.registers.now in
    let inside : c.args.number < places_of regs = omega (arith, ap places_of c.self.view_is) in
    let t = text_is regs c.self.inside.table c.args.number c.index-extent.result.now c.self.invariant inside c.index-extent.ensures in
    let same = ap length c.deref.ensures.value in
    omega (arith, t.ordered, t.within)

pub slice_bounds-result-end : goal.slice_bounds-result-end
slice_bounds-result-end c =
    let regs = map register_view c.self.inside.registers.now in
    let inside : c.args.number < places_of regs = omega (arith, ap places_of c.self.view_is) in
    let t = text_is regs c.self.inside.table c.args.number c.index-extent.result.now c.self.invariant inside c.index-extent.ensures in
    let same = ap length c.deref.ensures.value in
    omega (arith, t.ordered, t.within)

pub returns-clause-text : goal.returns-clause-text
returns-clause-text c =
    let regs = map register_view c.self.inside.registers.now in
    let inside : c.args.number < places_of regs = omega (arith, ap places_of c.self.view_is) in
    let e = c.index-extent.result.now in
    let t = text_is regs c.self.inside.table c.args.number e c.self.invariant inside c.index-extent.ensures in
    ap (λ bs. slice_range bs e.start e.end) c.deref.ensures.value ∙ (t.is ∙ ap (λ rs. place rs c.args.number) c.self.view_is)
