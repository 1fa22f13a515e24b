use Rattle.std.proofs.Common.{◌≡◌, [], ◌∷◌, ◌++◌, map, refl, ap, ◌∙◌, arith, string_bytes}
use Rattle.std.proofs.lemmas.Map.Text.{btree_map_updates_text}
use Rattle.pq_text.specs.Program.{places_of}
use Rattle.pq_read.specs.Environment.{register_view, span_from}
use Rattle.pq_read.proofs.Finds.{regs_with, spans_with}
use Rattle.pq_read.proofs.registers.Registers.push.Goals as goal

pub invariant_of-self-2 : goal.invariant_of-self-2
invariant_of-self-2 c =
    let items = c.self.inside.list.items in
    let before : places_of (map register_view items) ≡ places_of c.args.self.now = ap places_of c.self.view_is in
    let is = c.push_reserved.ensures.items ∙ ap (λ xs. xs ++ c.args.register ∷ []) c.in_ok-reserve.ensures.items in (
      regs_with items c.push_reserved.new.self.items c.args.register c.self.inside.total c.self.invariant.0 is c.requires.new.kept
          (omega (arith, c.self.invariant.0.counted, c.requires.new.room)),
      spans_with items c.push_reserved.new.self.items c.args.register c.self.inside.total c.self.inside.spans c.insert.new.self (string_bytes c.in_ok-name.name) _
          c.self.invariant.0 c.self.invariant.1 is (c.in_ok-name.ensures.ok ∙ c.as_str.ensures) refl (ap (λ rs. span_from 0 rs c.args.register.name) c.self.view_is ∙ c.requires.free)
          (btree_map_updates_text (string_bytes c.in_ok-name.name) c.self.inside.spans c.insert.new.self _ c.in_ok-insert.ensures.updates),
    )
