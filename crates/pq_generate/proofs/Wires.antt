-- The gates of a seed are as many as were asked for, and they are on the qubits.
use Rattle.std.proofs.Common.{◌≡◌, ◌≢◌, ℕ, zero, suc, ◌+◌, ◌-◌, ◌/◌, ◌%◌, ◌<◌, ◌≤◌, ◌==◌, Bool, true, false, cond, length, refl, ap, ◌∙◌, arith, inl, inr}
use Rattle.std.proofs.Math.Nat.{mod-eq_of_lt, mod-eq-sub-mod}
use Rattle.std.proofs.lemmas.Bool.{cases_lt}
use Rattle.rand_xoshiro.specs.SplitMix64.{mix_u64}
use Rattle.pq_gate.specs.declared.gate.Gate.{Gate}
use Rattle.pq_gate.specs.Circuit.{IsOnWires, IsCircuit}
use Rattle.pq_generate.specs.Generated.{target_of, cx_of, gate_of, gates_from}

-- a sum below twice n, after whole turns of n
turned_once : (n sum : ℕ) → n ≤ sum → sum < n + n → sum % n ≡ sum - n
turned_once n sum reached low = mod-eq-sub-mod reached ∙ (let below : sum - n < n = omega arith in mod-eq_of_lt below)

-- the target is another qubit than the control
unlike : (n control number : ℕ) → 2 ≤ n → control < n → control ≢ target_of n control number
unlike n control number two below same =
    let step : number % (n - 1) < n - 1 = omega arith in
    let sum = control + 1 + number % (n - 1) in
    elim (cases_lt sum n) [
      | inl short ↦ omega (arith, mod-eq_of_lt short)
      | inr past ↦ omega (arith, turned_once n sum past (omega arith))
    ]

-- one of two gates is on the wires where each is that may be taken
one_of : (n : ℕ) (b : Bool) (g h : Gate) → IsOnWires n g → (b ≡ false → IsOnWires n h) → IsOnWires n (cond b g h)
one_of n true g h first second = first
one_of n false g h first second = second refl

cx_on_wires : (n number : ℕ) → 1 ≤ n → IsOnWires n (cx_of n number)
cx_on_wires n number some =
    one_of n (n == 1) _ _ some (λ other.
    let two : 2 ≤ n = grind arith in
    let control : number % n < n = omega arith in
    (control, omega arith, unlike n (number % n) (number / n) two control))

pub gate_on_wires : (kind n number : ℕ) → 1 ≤ n → IsOnWires n (gate_of kind n number)
gate_on_wires kind n number some =
    let wire : number % n < n = omega arith in
    one_of n (kind == 0) _ _ wire (λ _.
    one_of n (kind == 1) _ _ wire (λ _.
    one_of n (kind == 2) _ _ wire (λ _.
    one_of n (kind == 3) _ _ wire (λ _.
    one_of n (kind == 4) _ _ wire (λ _.
    one_of n (kind == 5) _ _ wire (λ _.
    one_of n (kind == 6) _ _ wire (λ _. cx_on_wires n number some)))))))

pub gates_on_wires : (count n state : ℕ) → 1 ≤ n → IsCircuit n (gates_from count n state)
gates_on_wires zero n state some = tt
gates_on_wires (suc count) n state some =
    let word = (mix_u64 state).0 in
    (gate_on_wires (word % 8) n (word / 8) some, gates_on_wires count n (mix_u64 state).1 some)

pub length-gates_from : (count n state : ℕ) → length (gates_from count n state) ≡ count
length-gates_from zero n state = refl
length-gates_from (suc count) n state = ap suc (length-gates_from count n (mix_u64 state).1)
