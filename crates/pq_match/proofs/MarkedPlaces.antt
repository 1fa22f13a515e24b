-- The wires of chosen gates in a mask.
use Rattle.std.proofs.Common.{◌≡◌, ℕ, ◌+◌, ◌<◌, ◌≤◌, Bool, List, ◌⊎◌, length, get_or, take, inl, inr, ap, sym, subst, ◌∙◌, arith}
use Rattle.std.proofs.lemmas.Bool.{cases_lt}
use Rattle.std.proofs.lemmas.List.{get_or-take, length-take, take_all}
use Rattle.pq_gate.specs.declared.gate.Gate.{Gate}
use Rattle.pq_links.specs.Wires.{wire_of}
use Rattle.pq_match.specs.declared.looked.Looked.{Looked}
use Rattle.pq_match.specs.Redex.{gate_at}
use Rattle.pq_match.specs.Seek.{HasBit, LooksAtMore}
use Rattle.pq_match.specs.Work.{MarksPlaces}

-- the wires of no place, of one more, and of all
pub marks_none : (slots : List Gate) (places : List ℕ) (mask : ℕ) → MarksPlaces slots (take 0 places) mask
marks_none slots places mask = record { marked = λ k one below. absurd (omega arith) }

pub marks_more : (slots : List Gate) (places : List ℕ) (i : ℕ) (old new : Looked) → i < length places → MarksPlaces slots (take i places) old.mask → LooksAtMore old new →
    ((one : Bool) → HasBit new.mask (wire_of one (gate_at slots (get_or places i 0)))) → MarksPlaces slots (take (i + 1) places) new.mask
marks_more slots places i old new inside marks more here = record { marked = λ k one below. by k one (omega (arith, length-take (i + 1) places)) (cases_lt k i) }
  where
    by : (k : ℕ) (one : Bool) → k < i + 1 → (k < i) ⊎ (i ≤ k) → HasBit new.mask (wire_of one (gate_at slots (get_or (take (i + 1) places) k 0)))
    by k one below (inl less) =
        let e : get_or (take i places) k 0 ≡ get_or (take (i + 1) places) k 0 = get_or-take i places k 0 less ∙ sym (get_or-take (i + 1) places k 0 below) in
        let P : ℕ → Type 0 = λ p. HasBit new.mask (wire_of one (gate_at slots p)) in
        subst P e (more.marks (wire_of one (gate_at slots (get_or (take i places) k 0))) (marks.marked k one (omega (arith, length-take i places))))
    by k one below (inr upto) =
        let same : i ≡ k = omega arith in
        let e : get_or places i 0 ≡ get_or (take (i + 1) places) k 0 = ap (λ n. get_or places n 0) same ∙ sym (get_or-take (i + 1) places k 0 below) in
        let P : ℕ → Type 0 = λ p. HasBit new.mask (wire_of one (gate_at slots p)) in
        subst P e (here one)

pub marks_all : (slots : List Gate) (places : List ℕ) (i mask : ℕ) → length places ≤ i → MarksPlaces slots (take i places) mask → MarksPlaces slots places mask
marks_all slots places i mask all marks = subst (λ (ps : List ℕ). MarksPlaces slots ps mask) (take_all i places all) marks
