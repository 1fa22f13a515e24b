-- What a step does to the view of a pass, and what it tells.
use Rattle.std.specs.Prelude.{◌≡◌, ℕ, ◌+◌, ◌-◌, ◌<◌, ◌≤◌, Option, Some, None, cond, nat_eq, nat_lt, List, [], ◌∷◌, ◌++◌, map, length, All}
use Rattle.std.specs.List.{filter}
use Rattle.atomic_table.specs.Seated.{TableId}
use Rattle.pq_board.specs.Sums.{weigh, times, below}
use Rattle.pq_board.specs.Ways.{way}
use Rattle.pq_board.specs.Law.{leaves, stake}
use Rattle.pq_board.specs.declared.plan.Plan.{Plan}
use Rattle.pq_board.specs.declared.plan.Lowering.{Lowering}
use Rattle.pq_board.specs.declared.plan.View.{View}

-- a board as contracts see it: which it is, and what it was opened with
pub record Opened : Type 0 where
  pub id : TableId
  pub plan : Plan

-- a pass as contracts see it: which board it steps on, and what it knows
pub record Held : Type 0 where
  pub board : TableId
  pub view : View

-- what a receipt says of the board that was closed: how many jobs there were, how many of the tickets had one, and the word of the root
-- at the opening and at the closing
pub record Numbers : Type 0 where
  pub jobs : ℕ
  pub claimed : ℕ
  pub opened : ℕ
  pub closed : ℕ

-- the pass came from the opening of the board, or by a split from such a pass
pub record BelongsTo (board : Opened) (pass : Held) : Type 0 where
  pub here : pass.board ≡ board.id
  pub plan : pass.view.plan ≡ board.plan

-- a pass with so many rights that has drawn and lowered nothing
abbrev pub unused : Plan → ℕ → View
unused plan rights = record { plan = plan; rights = rights; tickets = []; lowered = [] }

-- with so many rights fewer
abbrev pub without_rights : ℕ → View → View
without_rights rights view = record { plan = view.plan; rights = view.rights - rights; tickets = view.tickets; lowered = view.lowered }

-- with one ticket more, and one right fewer where it is late
abbrev pub with_ticket : ℕ → View → View
with_ticket ticket view = record {
  plan = view.plan;
  rights = cond (nat_lt ticket (length view.plan.jobs)) view.rights (view.rights - 1);
  tickets = view.tickets ++ ticket ∷ [];
  lowered = view.lowered;
}

-- with more lowerings
abbrev pub with_lowered : List Lowering → View → View
with_lowered more view = record { plan = view.plan; rights = view.rights; tickets = view.tickets; lowered = view.lowered ++ more }

-- with the rights, tickets and lowerings of another pass too
abbrev pub with_both : View → View → View
with_both view other = record {
  plan = view.plan;
  rights = view.rights + other.rights;
  tickets = view.tickets ++ other.tickets;
  lowered = view.lowered ++ other.lowered;
}

-- the lowerings of these nodes for a place of a ticket's job
abbrev pub at_nodes : ℕ → ℕ → List ℕ → List Lowering
at_nodes ticket place nodes = map (λ node. record { ticket = ticket; place = place; node = node }) nodes

-- the lowerings that lower a place at its whole way
abbrev pub whole_way : ℕ → ℕ → ℕ → List Lowering
whole_way leaves ticket place = at_nodes ticket place (way leaves place)

-- the lowerings at the root: one for each place that was lowered
abbrev pub at_root : List Lowering → List Lowering
at_root lowered = filter (λ l. nat_eq l.node 1) lowered

-- the places that were lowered, in order
abbrev pub lowered_places : List Lowering → List ℕ
lowered_places lowered = map (λ l. l.place) (at_root lowered)

-- the whole ways of these lowerings' places, one after another
abbrev pub whole_ways : ℕ → List Lowering → List Lowering
whole_ways leaves [] = []
whole_ways leaves (l ∷ ls) = whole_way leaves l.ticket l.place ++ whole_ways leaves ls

-- each place that was lowered was lowered at its whole way, one place after another
abbrev pub AreWhole : ℕ → List Lowering → Type 0
AreWhole leaves lowered = lowered ≡ whole_ways leaves (at_root lowered)

-- A claim: the pass has one ticket more, which is greater than each that it had. It is answered exactly where it has a job, and
-- else the pass has one right fewer. Nothing else changes.
pub record Claimed (old : View) (answer : Option ℕ) (new : View) : Type 0 where
  pub ticket : ℕ
  pub new_is : new ≡ with_ticket ticket old
  pub greatest : All (λ before. before < ticket) old.tickets
  pub answer_is : answer ≡ cond (nat_lt ticket (length old.plan.jobs)) (Some ticket) None

-- the tickets hold each number below the jobs once
abbrev pub HoldAll : Plan → List ℕ → Type 0
HoldAll plan tickets = (ticket : ℕ) → ticket < length plan.jobs → times ticket tickets ≡ 1

-- no ticket stands twice
abbrev pub AreOnce : List ℕ → Type 0
AreOnce tickets = (ticket : ℕ) → times ticket tickets ≤ 1

-- the tickets are the numbers below how many they are, each once
abbrev pub AreFirst : List ℕ → Type 0
AreFirst tickets = (h : ℕ → ℕ) → weigh h tickets ≡ below h (length tickets)

-- how many of the tickets have a job
abbrev pub early : Plan → List ℕ → ℕ
early plan tickets = weigh (λ ticket. cond (nat_lt ticket (length plan.jobs)) 1 0) tickets

-- how many of these places stand below a node
abbrev pub places_under : Plan → ℕ → List ℕ → ℕ
places_under plan node places = weigh (λ place. times node (way (leaves plan) place)) places

-- the numbers of a list that don't stand among others
abbrev pub without : List ℕ → List ℕ → List ℕ
without others xs = filter (λ x. nat_eq (times x others) 0) xs

-- What a look at word 0 tells a pass: its rights are no more than there are passes, none of its tickets stands twice; and where it is
-- the one pass that is left, its tickets are the numbers below word 0, each once.
pub record Looked (view : View) (found : ℕ) : Type 0 where
  pub few : view.rights ≤ view.plan.passes
  pub once : AreOnce view.tickets
  pub whole : stake view.plan view ≡ view.plan.passes → (h : ℕ → ℕ) → weigh h view.tickets ≡ below h found
