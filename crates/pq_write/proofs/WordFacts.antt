-- What holds of the word that each gate is written with.
use Rattle.std.proofs.Common.{◌≡◌, ℕ, suc, ◌≤◌, true, false, [], ◌∷◌, length, codes, bytes_eq, refl, ap, arith}
use Rattle.pq_gate.specs.declared.gate.Gate.{Gate}
use Rattle.pq_gate.specs.declared.gate.Gate.TheVariants.{H, X, Phase, Cx}
use Rattle.pq_gate.specs.declared.gate.Eighths.TheVariants.{T, S, Z, Sdg, Tdg}
use Rattle.pq_gate.specs.Ports.{wires_of, first_wire, last_wire}
use Rattle.pq_text.specs.Print.{gate_word}
use Rattle.pq_read.specs.declared.word.GateWord.{GateWord}
use Rattle.pq_read.specs.declared.word.GateWord.TheVariants as words
use Rattle.pq_read.specs.declared.word.FirstWord.TheVariants.{Gate as KnownGate}
use Rattle.pq_read.specs.Words.{more_arguments, first_word}
use Rattle.pq_read.specs.Expansion.{expansion}
use Rattle.pq_write.proofs.LexingTokens.{IsWord}

pub record WordFacts (g : Gate) : Type 0 where
  -- it is read as one word, which isn't `gate`
  pub lexed : IsWord (gate_word g)
  pub other : bytes_eq (codes "gate") (gate_word g) ≡ false
  pub short : length (gate_word g) ≤ 3
  -- the reader knows it as a gate on as many wires
  pub known : GateWord
  pub named : first_word true (gate_word g) ≡ KnownGate known
  pub more : suc (more_arguments known) ≡ length (wires_of g)
  -- and makes this gate of it
  pub made : (b c : ℕ) → (more_arguments known ≡ 1 → b ≡ last_wire g) → expansion known (first_wire g) b c ≡ g ∷ []

pub word_facts : (g : Gate) → WordFacts g
word_facts (H w) = record {
  lexed = (refl, refl);
  other = refl;
  short = omega arith;
  known = words.H;
  named = refl;
  more = refl;
  made = λ b c last. refl;
}
word_facts (X w) = record {
  lexed = (refl, refl);
  other = refl;
  short = omega arith;
  known = words.X;
  named = refl;
  more = refl;
  made = λ b c last. refl;
}
word_facts (Phase T w) = record {
  lexed = (refl, refl);
  other = refl;
  short = omega arith;
  known = words.Phase T;
  named = refl;
  more = refl;
  made = λ b c last. refl;
}
word_facts (Phase S w) = record {
  lexed = (refl, refl);
  other = refl;
  short = omega arith;
  known = words.Phase S;
  named = refl;
  more = refl;
  made = λ b c last. refl;
}
word_facts (Phase Z w) = record {
  lexed = (refl, refl);
  other = refl;
  short = omega arith;
  known = words.Phase Z;
  named = refl;
  more = refl;
  made = λ b c last. refl;
}
word_facts (Phase Sdg w) = record {
  lexed = (refl, refl);
  other = refl;
  short = omega arith;
  known = words.Phase Sdg;
  named = refl;
  more = refl;
  made = λ b c last. refl;
}
word_facts (Phase Tdg w) = record {
  lexed = (refl, refl);
  other = refl;
  short = omega arith;
  known = words.Phase Tdg;
  named = refl;
  more = refl;
  made = λ b c last. refl;
}
word_facts (Cx v w) = record {
  lexed = (refl, refl);
  other = refl;
  short = omega arith;
  known = words.Cx;
  named = refl;
  more = refl;
  made = λ b c last. ap (λ k. Cx v k ∷ []) (last refl);
}
