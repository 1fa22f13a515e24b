use Rattle.std.proofs.Common.{◌≡◌, ℕ, ◌<◌, Bool, true, ◌++◌, ◌∷◌, [], ap, ◌∙◌, length, refl, set, sym, subst, arith, List}
use Rattle.std.proofs.lemmas.Bool.{eq-eqb}
use Rattle.std.proofs.lemmas.List.{set-set}
use Rattle.pq_links.specs.declared.links.Sides.{Sides}
use Rattle.pq_links.specs.declared.links.Head.{Head}
use Rattle.pq_links.specs.Links.{side_at, is_on, far, LinksView, AreLinked}
use Rattle.pq_links.specs.Leading.{AreLed, IsSpot}
use Rattle.pq_links.proofs.Leading.{led_once, led_end, head_by}
use Rattle.pq_links.proofs.Pushing.{pushed, new_side, all_written}
use Rattle.pq_links.proofs.links.Links.append_on_one.Goals as goal

pub returns-clause-linked : goal.returns-clause-linked
returns-clause-linked c gate first_is last_is =
    let gates = c.args.gates.now in
    let spot = c.args.spot in
    let end = c.args.end in
    let inside = c.self.inside in
    let links : LinksView = record { next = inside.next.items; previous = inside.previous.items; before = inside.before.items; heads = inside.heads.items; room = inside.asked } in
    let same : links ≡ c.args.self.now = c.self.view_is in
    let linked : AreLinked gates links = subst (λ (v : LinksView). AreLinked gates v) (sym same) c.requires.linked in
    let is_spot : IsSpot links.heads spot = subst (λ (v : LinksView). IsSpot v.heads spot) (sym same) c.requires.spot in
    let room : c.args.self.now.room ≡ inside.asked = sym (ap (λ (v : LinksView). v.room) same) in
    let place = length gates in
    let more : List Sides = links.next ++ (record { first = far; second = far }) ∷ [] in
    let full_is : c.as_mut_slice.result.now ≡ more = c.as_mut_slice.ensures.value ∙ c.push_reserved.ensures.items in
    let led = c.lead_on.new.next in
    let long : length led ≡ length more = c.lead_on.auto.next ∙ ap (λ (xs : List Sides). length xs) full_is in
    let ends : Sides = record { first = end.place; second = end.place } in
    let places : Sides = record { first = place; second = place } in
    let others : ((p : ℕ) (one : Bool) → (p ≡ end.place → p < place → is_on one end ≡ true → ⊥) → side_at one led p ≡ side_at one more p) =
    λ p one other. c.lead_on.ensures.others p one other ∙ ap (λ (xs : List Sides). side_at one xs p) full_is in
    let are_led : AreLed gates gate ends places more led =
    led_once gates gate ends places more led spot.wire spot.wire first_is last_is refl refl refl (led_end gates more led end spot.wire place refl c.requires.end c.lead_on.ensures.led others) long in
    let head : Head = record { wire = spot.wire; place = place; first = true; last = true } in
    let is_head = head_by gate place spot.wire true true (eq-eqb _ spot.wire (sym first_is)) (eq-eqb _ spot.wire (sym last_is)) in
    pushed gates gate links _ spot spot ends led head head linked (omega (arith, room)) first_is last_is is_spot is_spot c.requires.end.last c.requires.end.last are_led
    (λ one. others place one (λ _ below _. omega arith) ∙ new_side gates links.next one linked.nexts) is_head is_head
    (all_written c.push_reserved.new.self.len led c.push_reserved.new.self.items (omega (arith, c.push_reserved.ensures.len, long)))
    (c.push_reserved-2.ensures.items ∙ ap (λ (s : Sides). links.previous ++ s ∷ []) c.pair.ensures)
    (c.push_reserved-3.ensures.items ∙ ap (λ (s : Sides). links.before ++ s ∷ []) c.pair-2.ensures)
    (ap (λ (h : Head). set links.heads spot.bucket h) c.head_of_sides.ensures ∙ sym (set-set links.heads spot.bucket head head))
