-- The gates that a statement stands for.
use Rattle.std.specs.Prelude.{ℕ, zero, suc, List, [], ◌∷◌, if◌then◌else◌}
use Rattle.pq_gate.specs.declared.gate.Gate.{Gate}
use Rattle.pq_gate.specs.declared.gate.Gate.TheVariants as gates
use Rattle.pq_gate.specs.declared.gate.Eighths.TheVariants.{T, S, Sdg, Tdg}
use Rattle.pq_read.specs.declared.argument.Argument.{Argument}
use Rattle.pq_read.specs.declared.word.GateWord.{GateWord}
use Rattle.pq_read.specs.declared.word.GateWord.TheVariants.{H, X, Y, Id, Phase, Cx, Cz, Cy, Swap, Ccx}
use Rattle.pq_read.specs.Lists.{each_below}
use Rattle.pq_read.specs.Arguments.{place_at}

-- the gates of one instance, on a wire for each argument; those past its arguments aren't looked at
abbrev pub expansion : GateWord → ℕ → ℕ → ℕ → List Gate
expansion H a b c = gates.H a ∷ []
expansion X a b c = gates.X a ∷ []
expansion Y a b c = gates.Phase Sdg a ∷ gates.X a ∷ gates.Phase S a ∷ []
expansion Id a b c = []
expansion (Phase eighths) a b c = gates.Phase eighths a ∷ []
expansion Cx a b c = gates.Cx a b ∷ []
expansion Cz a b c = gates.H b ∷ gates.Cx a b ∷ gates.H b ∷ []
expansion Cy a b c = gates.Phase Sdg b ∷ gates.Cx a b ∷ gates.Phase S b ∷ []
expansion Swap a b c = gates.Cx a b ∷ gates.Cx b a ∷ gates.Cx a b ∷ []
expansion Ccx a b c =
    gates.H c ∷ gates.Cx b c ∷ gates.Phase Tdg c ∷ gates.Cx a c ∷ gates.Phase T c ∷ gates.Cx b c ∷ gates.Phase Tdg c ∷ gates.Cx a c
    ∷ gates.Phase T b ∷ gates.Phase T c ∷ gates.H c ∷ gates.Cx a b ∷ gates.Phase T a ∷ gates.Phase Tdg b ∷ gates.Cx a b ∷ []

-- how many instances there are: the size of the registers among the arguments, or one
abbrev pub instances : List Argument → ℕ
instances [] = 1
instances (a ∷ rest) = if a.whole then a.count else instances rest

-- the place of the argument with this number in the instance k
abbrev pub nth_place : List Argument → ℕ → ℕ → ℕ
nth_place [] i k = 0
nth_place (a ∷ rest) zero k = place_at a k
nth_place (a ∷ rest) (suc i) k = nth_place rest i k

abbrev pub instance : GateWord → List Argument → ℕ → List Gate
instance word arguments k = expansion word (nth_place arguments 0 k) (nth_place arguments 1 k) (nth_place arguments 2 k)

-- all instances, each expanded whole before the next
unfoldable pub gates_of : GateWord → List Argument → List Gate
gates_of word arguments = each_below (instances arguments) (instance word arguments)
