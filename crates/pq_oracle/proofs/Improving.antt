-- The oracle's answers by one rewriting after another.
use Rattle.std.proofs.Common.{◌≡◌, ℕ, ◌+◌, ◌%◌, ◌<◌, Bool, true, false, ◌||◌, List, length, refl, ap, sym, ◌∙◌, subst, arith}
use Rattle.std.specs.Prelude.{All}
use Rattle.pq_gate.specs.declared.gate.Gate.{Gate}
use Rattle.pq_rules.specs.Row.{RowView, IsSound}
use Rattle.pq_match.specs.Redex.{RedexView, HasNoRedex}
use Rattle.pq_match.specs.First.{IsFirst}
use Rattle.pq_match.specs.Work.{IsFirstRewritten}
use Rattle.pq_match.proofs.Moving.{rewriting_shortens}
use Rattle.pq_match.proofs.OneFirst.{row_sound}
use Rattle.pq_oracle.specs.Outcomes.{answer_of}
use Rattle.pq_oracle.proofs.Answering.{improved}
use Rattle.pq_match.specs.Rewrite.{rewritten}
use Rattle.pq_oracle.specs.Ora.{Answer, Ora, ends, goes, after_one, untouched}
use Rattle.pq_oracle.specs.declared.oracle.Outcome.{Outcome}

abbrev pub answered : List Gate → Bool → ℕ → Answer
answered gates improved phase = record { gates = gates; improved = improved; phase = phase }

-- what came so far, and then an answer
abbrev pub joined : Outcome → Answer → Answer
joined so_far answer = record { gates = answer.gates; improved = so_far.improved || answer.improved; phase = (so_far.phase + answer.phase) % 8 }

-- whatever the oracle answers to the gates from here on, it is its answer to the old ones, with what came so far
abbrev pub LeadsTo : List RowView → List Gate → List Gate → Outcome → Type 0
LeadsTo rules old now so_far = (answer : Answer) → Ora rules now answer → Ora rules old (joined so_far answer)

phase_small : (rules : List RowView) (gates : List Gate) (answer : Answer) → Ora rules gates answer → answer.phase < 8
phase_small rules gates answer (ends g none) = omega arith
phase_small rules gates answer (goes g redex first next later) = omega arith

same_answer : (gates : List Gate) (improved : Bool) (k m : ℕ) → k ≡ m → answered gates improved k ≡ answered gates improved m
same_answer gates improved k m e = ap (λ (x : ℕ). answered gates improved x) e

or-true : (b : Bool) → b || true ≡ true
or-true true = refl
or-true false = refl

or-false : (b : Bool) → b || false ≡ b
or-false true = refl
or-false false = refl

pub none_yet : (rules : List RowView) (gates : List Gate) → LeadsTo rules gates gates (record { improved = false; phase = 0 })
none_yet rules gates answer ora =
    subst (Ora rules gates) (same_answer answer.gates answer.improved answer.phase ((0 + answer.phase) % 8) (omega (arith, phase_small rules gates answer ora))) ora

same_joined : (rules : List RowView) (old : List Gate) (answer : Answer) (so_far : Outcome) (phase turn : ℕ) → phase ≡ turn
    → Ora rules old (joined so_far (after_one turn answer)) → Ora rules old (joined (record { improved = true; phase = (so_far.phase + phase) % 8 }) answer)
same_joined rules old answer so_far phase turn e ora =
    let sums : (so_far.phase + (turn + answer.phase) % 8) % 8 ≡ ((so_far.phase + phase) % 8 + answer.phase) % 8 = omega (arith, e) in
    subst (Ora rules old) (ap (λ (b : Bool). answered answer.gates b ((so_far.phase + (turn + answer.phase) % 8) % 8)) (or-true so_far.improved)
    ∙ same_answer answer.gates true _ _ sums) ora

ended : (gates : List Gate) (improved : Bool) (phase : ℕ) → phase < 8
    → answered gates (improved || false) ((phase + 0) % 8) ≡ answered gates improved phase
ended gates improved phase small =
    ap (λ (b : Bool). answered gates b ((phase + 0) % 8)) (or-false improved) ∙ same_answer gates improved ((phase + 0) % 8) phase (omega (arith, small))

-- one rewriting more
pub one_more : (rules : List RowView) (old now new : List Gate) (so_far : Outcome) (redex : RedexView) (first : IsFirst rules now (length now) redex) (phase : ℕ)
    → LeadsTo rules old now so_far → new ≡ rewritten now first.is.row.replacement redex → phase ≡ first.is.row.phase
    → LeadsTo rules old new (record { improved = true; phase = (so_far.phase + phase) % 8 })
one_more rules old now new so_far redex first phase leads gates turn answer ora =
    let later : Ora rules (rewritten now first.is.row.replacement redex) answer = subst (λ g. Ora rules g answer) gates ora in
    let here : Ora rules old (joined so_far (after_one first.is.row.phase answer)) = leads (after_one first.is.row.phase answer) (goes now redex first answer later) in
    same_joined rules old answer so_far phase first.is.row.phase turn here

-- the old list is led to a list without a redex
pub last_one : (rules : List RowView) (old now : List Gate) (so_far : Outcome) → so_far.phase < 8 → LeadsTo rules old now so_far → HasNoRedex rules now
    → Ora rules old (record { gates = now; improved = so_far.improved; phase = so_far.phase })
last_one rules old now so_far small leads none =
    subst (Ora rules old) (ended now so_far.improved so_far.phase small) (leads (untouched now) (ends now none))

-- what the oracle keeps from the old gates to those that it has now
pub record IsLed (rules : List RowView) (old now : List Gate) (so_far : Outcome) : Type 0 where
  pub leads : LeadsTo rules old now so_far
  pub small : so_far.phase < 8

-- before the first rewriting
pub led_yet : (rules : List RowView) (gates : List Gate) → IsLed rules gates gates (record { improved = false; phase = 0 })
led_yet rules gates = record { leads = none_yet rules gates; small = omega arith }

-- one rewriting more, of the first redex
pub led_on : (rules : List RowView) (old now new : List Gate) (so_far : Outcome) (phase : ℕ)
    → IsLed rules old now so_far → IsFirstRewritten rules now new phase → IsLed rules old new (record { improved = true; phase = (so_far.phase + phase) % 8 })
led_on rules old now new so_far phase led done = record {
  leads = one_more rules old now new so_far done.redex done.first phase led.leads done.rewrites.gates done.rewrites.turn;
  small = omega arith;
}

-- it shortens the list
pub first_shorter : (rules : List RowView) (now new : List Gate) (phase : ℕ) → All IsSound rules → IsFirstRewritten rules now new phase → length new < length now
first_shorter rules now new phase sound done =
    let is = done.first.is in
    subst (λ (xs : List Gate). length xs < length now) (sym done.rewrites.gates)
    (rewriting_shortens rules now done.redex is (row_sound rules done.redex.row is.row is.numbered sound))

-- none was found any more
pub led_oracle : (rules : List RowView) (old now : List Gate) (so_far : Outcome) → IsLed rules old now so_far
    → HasNoRedex rules now → Ora rules old (answer_of now so_far)
led_oracle rules old now so_far led none = last_one rules old now so_far led.small led.leads none
