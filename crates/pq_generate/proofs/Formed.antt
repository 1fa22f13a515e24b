-- The program of a seed is well-formed.
use Rattle.std.proofs.Common.{◌≡◌, ℕ, ◌≤◌, List, [], codes, refl, sym, subst, ap, ◌∙◌, lit≤, arith}
use Rattle.std.proofs.lemmas.List.Elements.{All-nil, All-cons}
use Rattle.pq_limits.specs.Limits.{AreQubits}
use Rattle.pq_limits.specs.declared.TheConstants.{MAX_GATES}
use Rattle.pq_gate.specs.declared.gate.Gate.{Gate}
use Rattle.pq_gate.specs.Circuit.{IsCircuit}
use Rattle.pq_text.specs.Program.{places_of}
use Rattle.pq_text.specs.Name.{IsLawfulName, reserved_words}
use Rattle.pq_text.specs.WellFormed.{IsRegister, IsTailEntry, WellFormed}
use Rattle.pq_read.specs.declared.program.Program.{Program}
use Rattle.pq_read.specs.Environment.{view}
use Rattle.pq_read.specs.Words.{is_name}
use Rattle.pq_read.proofs.Names.{name_is_lawful}
use Rattle.pq_generate.specs.Generated.{gates_from, generated, on_one_register}
use Rattle.pq_generate.proofs.Wires.{gates_on_wires, length-gates_from}

-- the name `q` is lawful
lawful : IsLawfulName (codes "q")
unfolding is_name reserved_words
lawful = name_is_lawful (codes "q") refl

pub generated_is_formed : (seed qubits gates : ℕ) → AreQubits qubits → gates ≤ MAX_GATES → WellFormed (generated seed qubits gates)
generated_is_formed seed qubits gates fits few_gates =
    let p = generated seed qubits gates in
    let n = places_of p.qregs in
    let wires : n ≡ qubits = omega arith in
    let some : 1 ≤ qubits = fits.least in
    record {
      registers = All-cons IsRegister _ [] (record { named = record { lawful = lawful; short = lit≤ tt }; some = some }) (All-nil IsRegister);
      names = λ i j d less within. absurd (omega arith);
      qubits = omega (arith, fits.most);
      bits = omega arith;
      circuit = subst (λ m. IsCircuit m p.gates) (sym wires) (gates_on_wires gates qubits seed some);
      gates = omega (arith, length-gates_from gates qubits seed);
      tail = All-nil (IsTailEntry _ _);
      entries = omega arith;
    }

-- and so is each that has its gates on one register
pub formed : (seed qubits gates : ℕ) (list : List Gate) (p : Program) → list ≡ gates_from gates qubits seed → view p ≡ on_one_register qubits list
    → AreQubits qubits → gates ≤ MAX_GATES → WellFormed (view p)
formed seed qubits gates list p list_is is fits few =
    subst WellFormed (sym (is ∙ ap (on_one_register qubits) list_is)) (generated_is_formed seed qubits gates fits few)
