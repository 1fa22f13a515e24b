use Rattle.std.proofs.Common.{◌≡◌, ℕ, ◌<◌, Bool, true, false, ◌++◌, ◌∷◌, [], ap, ◌∙◌, length, set, refl, sym, subst, arith, List}
use Rattle.std.proofs.lemmas.Bool.{eq-eqb, ne_eqb}
use Rattle.pq_links.specs.declared.links.Sides.{Sides}
use Rattle.pq_links.specs.declared.links.Head.{Head}
use Rattle.pq_links.specs.Links.{side_at, is_on, far, LinksView, AreLinked}
use Rattle.pq_links.specs.Leading.{AreLed, IsSpot}
use Rattle.pq_links.proofs.Leading.{led_ends, head_by}
use Rattle.pq_links.proofs.Pushing.{pushed, new_side, all_written}
use Rattle.pq_links.proofs.links.Links.append_on_two.Goals as goal

pub returns-clause-linked : goal.returns-clause-linked
returns-clause-linked c gate first_is last_is =
    let gates = c.args.gates.now in
    let first = c.args.first in
    let last = c.args.last in
    let end = c.args.end in
    let other_end = c.args.other_end in
    let inside = c.self.inside in
    let links : LinksView = record { next = inside.next.items; previous = inside.previous.items; before = inside.before.items; heads = inside.heads.items; room = inside.asked } in
    let same : links ≡ c.args.self.now = c.self.view_is in
    let linked : AreLinked gates links = subst (λ (v : LinksView). AreLinked gates v) (sym same) c.requires.linked in
    let first_spot : IsSpot links.heads first = subst (λ (v : LinksView). IsSpot v.heads first) (sym same) c.requires.first in
    let last_spot : IsSpot links.heads last = subst (λ (v : LinksView). IsSpot v.heads last) (sym same) c.requires.last in
    let room : c.args.self.now.room ≡ inside.asked = sym (ap (λ (v : LinksView). v.room) same) in
    let place = length gates in
    let more : List Sides = links.next ++ (record { first = far; second = far }) ∷ [] in
    let full_is : c.as_mut_slice-next.result.now ≡ more = c.as_mut_slice-next.ensures.value ∙ c.push_reserved.ensures.items in
    let mid = c.lead_on.new.next in
    let led = c.lead_on-2.new.next in
    let mid_long : length mid ≡ length more = c.lead_on.auto.next ∙ ap (λ (xs : List Sides). length xs) full_is in
    let led_long : length led ≡ length mid = c.lead_on-2.auto.next in
    let ends : Sides = record { first = end.place; second = other_end.place } in
    let places : Sides = record { first = place; second = place } in
    let others : ((p : ℕ) (one : Bool) → (p ≡ end.place → p < place → is_on one end ≡ true → ⊥) → side_at one mid p ≡ side_at one more p) =
    λ p one other. c.lead_on.ensures.others p one other ∙ ap (λ (xs : List Sides). side_at one xs p) full_is in
    let are_led : AreLed gates gate ends places more led =
    led_ends gates gate end other_end place more mid led first.wire last.wire first_is last_is c.requires.end c.requires.other_end refl mid_long led_long
    c.lead_on.ensures.led others c.lead_on-2.ensures.led c.lead_on-2.ensures.others in
    let head : Head = record { wire = first.wire; place = place; first = true; last = false } in
    let other_head : Head = record { wire = last.wire; place = place; first = false; last = true } in
    let is_head = head_by gate place first.wire true false (eq-eqb _ first.wire (sym first_is)) (ne_eqb _ first.wire (λ same. c.requires.apart (sym (last_is ∙ same)))) in
    let is_other = head_by gate place last.wire false true (ne_eqb _ last.wire (λ same. c.requires.apart (first_is ∙ same))) (eq-eqb _ last.wire (sym last_is)) in
    pushed gates gate links _ first last ends led head other_head linked (omega (arith, room)) first_is last_is first_spot last_spot c.requires.end.last c.requires.other_end.last are_led
    (λ one. c.lead_on-2.ensures.others place one (λ _ below _. omega arith) ∙ (others place one (λ _ below _. omega arith) ∙ new_side gates links.next one linked.nexts)) is_head is_other
    (all_written c.push_reserved.new.self.len led c.push_reserved.new.self.items (omega (arith, c.push_reserved.ensures.len, mid_long, led_long)))
    (c.push_reserved-2.ensures.items ∙ ap (λ (s : Sides). links.previous ++ s ∷ []) c.pair.ensures)
    (c.push_reserved-3.ensures.items ∙ ap (λ (s : Sides). links.before ++ s ∷ []) c.pair-2.ensures)
    (ap (λ (h : Head). set (set links.heads first.bucket h) last.bucket c.head_of_sides-2.result) c.head_of_sides.ensures
    ∙ ap (λ (h : Head). set (set links.heads first.bucket head) last.bucket h) c.head_of_sides-2.ensures)
