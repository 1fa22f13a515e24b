-- What the one pass that is left knows once the board is closed.
use Rattle.std.proofs.Common.{◌≡◌, ℕ, ◌+◌, ◌*◌, ◌/◌, ◌≤◌, ⊎_elim, List, length, get_or, refl, sym, ◌∙◌, subst, arith}
use Rattle.std.proofs.lemmas.Bool.{cases_eq}
use Rattle.atomic_table.specs.Table.{Final, Seen}
use Rattle.pq_board.specs.Changed.{FollowUnder}
use Rattle.pq_board.specs.Sums.{weigh, times, below}
use Rattle.pq_board.specs.Law.{Lawful, Stands, leaves, stake, lowerings_of}
use Rattle.pq_board.specs.Ways.{way, live_leaves}
use Rattle.pq_array.specs.Counts.{Counts, HalvesTo}
use Rattle.pq_board.specs.Steps.{AreWhole, AreFirst, lowered_places, places_under, without}
use Rattle.pq_board.specs.declared.plan.Plan.{Plan}
use Rattle.pq_board.specs.declared.plan.View.{View}
use Rattle.pq_board.proofs.Keeping.{alone, stands}
use Rattle.pq_board.proofs.Sums.{weigh_none}
use Rattle.pq_board.proofs.Ways.{way_halves, times_on}
use Rattle.pq_board.proofs.Taking.{below_parent, below_le}
use Rattle.pq_board.proofs.Leaving.{closing_counts, lowered_once, lowered_live, contains_times}
use Rattle.pq_board.proofs.Allowed.{Keeps}
use Rattle.pq_board.proofs.Whole.{are_first, how_many, lowerings_whole}

-- word 0 is how many tickets were drawn, which are the first numbers, and each other word is that of the opening less what was lowered
pub record Closes (plan : Plan) (v : View) (words : List ℕ) : Type 0 where
  pub drawn : get_or words 0 0 ≡ length v.tickets
  pub first : AreFirst v.tickets
  pub counts : (node : ℕ) → 1 ≤ node → get_or words node 0 + places_under plan node (lowered_places v.lowered) ≡ get_or plan.words.items node 0
  pub tree : Counts words (without (lowered_places v.lowered) (live_leaves plan.words.items))

closes_at : (plan : Plan) (words : List ℕ) (views : List View) (id : ℕ) (v : View) → Lawful plan words views → lib.ListN.get_elem? views id ≡ mathlib.Core.Option.some v →
    v.plan ≡ plan → stake plan v ≡ plan.passes → AreWhole (leaves plan) v.lowered → Closes plan v words
closes_at plan words views id v law at same whole ways =
    let are : (h : ℕ → ℕ) → weigh h v.tickets ≡ below h (get_or words 0 0) = (λ h. sym (alone plan words views id v law at whole (λ u. weigh h u.tickets) refl) ∙ law.tickets h) in
    let counts : (node : ℕ) → 1 ≤ node → get_or words node 0 + places_under plan node (lowered_places v.lowered) ≡ get_or plan.words.items node 0 =
    (λ node low. counted_at node low) in
    let s : Stands plan v = stands plan words views id v law at same in
    record {
      drawn = how_many v.tickets (get_or words 0 0) are;
      first = are_first v.tickets (get_or words 0 0) are;
      counts = counts;
      tree = closing_counts plan words (lowered_places v.lowered) law.opened law.size (lowered_once plan v s) (lowered_live plan v law.opened s) counts;
    }
  where
    counted_at : (node : ℕ) → 1 ≤ node → get_or words node 0 + places_under plan node (lowered_places v.lowered) ≡ get_or plan.words.items node 0
    counted_at node low =
        omega (
          arith,
          law.counts node low,
          alone plan words views id v law at whole (λ u. lowerings_of node u.lowered) refl,
          lowerings_whole plan node v.lowered ways,
        )

pub closes : (plan key : Plan) (id : ℕ) (v : View) (words : List ℕ) (slots : List (Unit {0})) → key ≡ plan → v.plan ≡ plan → stake plan v ≡ plan.passes → AreWhole (leaves plan) v.lowered →
    Final (Seen (Keeps key) id v) words slots → Closes plan v words
closes plan key id v words slots same its whole ways final =
    let law : Lawful plan final.0.words final.0.views = subst (λ (p : Plan). Lawful p final.0.words final.0.views) same final.1.0 in
    subst (λ (w : List ℕ). Closes plan v w) final.2 (closes_at plan final.0.words final.0.views id v law final.1.1 its whole ways)

-- a node that is lowered has a lowered parent, so where a word is that of the opening, those of the children are
pub closing_follow : (plan : Plan) (words : List ℕ) (gone : List ℕ) → ((node : ℕ) → 1 ≤ node → get_or words node 0 + places_under plan node gone ≡ get_or plan.words.items node 0) →
    FollowUnder 1 plan.words.items words
closing_follow plan words gone counts = record { children = λ node at same. (still node (2 * node) at same (omega arith), still node (2 * node + 1) at same (omega arith)) }
  where
    none : (node child : ℕ) → 1 ≤ node → child / 2 ≡ node → (p : ℕ) → times node (way (leaves plan) p) ≡ 0 → times child (way (leaves plan) p) ≡ 0
    none node child low half p out =
        ⊎_elim (λ is. is)
        (λ some.
        let at : HalvesTo (leaves plan + p) child = way_halves (leaves plan + p) (leaves plan + p) child (contains_times child (way (leaves plan) p) (omega arith)) in
        absurd (omega (arith, times_on (leaves plan) p node low (below_parent (leaves plan + p) node child half at))))
        (cases_eq (times child (way (leaves plan) p)) 0)

    still : (node child : ℕ) → HalvesTo node 1 → get_or plan.words.items node 0 ≡ get_or words node 0 → child / 2 ≡ node → get_or plan.words.items child 0 ≡ get_or words child 0
    still node child at same half =
        let low : 1 ≤ node = below_le node 1 at in
        let here : places_under plan node gone ≡ 0 = omega (arith, counts node low) in
        let there : places_under plan child gone ≡ 0 =
        weigh_none (λ p. times child (way (leaves plan) p)) (λ p. times node (way (leaves plan) p)) gone here (λ j p item out. none node child low half p out) in
        omega (arith, counts child (omega arith))
