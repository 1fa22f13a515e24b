use Rattle.std.specs.Prelude.{◌≡◌, ℕ, ◌<◌, Bool, true, cond, List, length}
use Rattle.pq_gate.specs.declared.gate.Gate.{Gate}
use Rattle.pq_gate.specs.Commuting.{Touches}
use Rattle.pq_links.specs.Places.{gate_at}
use Rattle.pq_links.specs.Slots.{gates_in}
use Rattle.pq_rules.specs.Row.{RowView}
use Rattle.pq_match.specs.Redex.{HasNoRedex}
use Rattle.pq_match.specs.Settled.{AreSettled}
use Rattle.pq_match.specs.Work.{SlotsView}

-- a segment: its gates, the room that was asked for, the slots, whether the gates that it holds stand in them, and whether they
-- were found to have no redex when they were loaded
pub record SegView : Type 0 where
  pub items : List Gate
  pub room : ℕ
  pub work : SlotsView
  pub loaded : Bool
  pub still : Bool

-- the gates that it holds
abbrev pub held : SegView → List Gate
held seg = cond seg.loaded (gates_in seg.work.gates) seg.items

-- What it holds is as its last loading or rewriting left it: in slots, of which each start that doesn't wait is settled, or
-- without a redex, or of neither is anything known.
pub record IsKnown (rules : List RowView) (seg : SegView) : Type 0 where
  pub settled : seg.loaded ≡ true → AreSettled rules seg.work.gates seg.work.starts
  pub none : seg.still ≡ true → HasNoRedex rules (held seg)

-- the least place behind this one whose gate uses the wire
pub record IsNextUse (gates : List Gate) (wire place next : ℕ) : Type 0 where
  pub behind : place < next
  pub inside : next < length gates
  pub uses : Touches (gate_at gates next) wire
  pub least : (later : ℕ) → place < later → later < next → ¬ Touches (gate_at gates later) wire
