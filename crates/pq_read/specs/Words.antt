-- The first words of statements.
use Rattle.std.specs.Prelude.{ℕ, Bool, List, [], ◌∷◌, Option, Some, None, codes, bytes_eq, if◌then◌else◌}
use Rattle.std.specs.List.{list_any}
use Rattle.pq_gate.specs.declared.gate.Eighths.TheVariants.{T, S, Z, Sdg, Tdg}
unfoldable pub use Rattle.pq_text.specs.Name.{is_name}
use Rattle.pq_text.specs.Print.{phase_word}
use Rattle.pq_read.specs.declared.word.GateWord.{GateWord}
use Rattle.pq_read.specs.declared.word.GateWord.TheVariants.{H, X, Y, Id, Phase, Cx, Cz, Cy, Swap, Ccx}
use Rattle.pq_read.specs.declared.word.FirstWord.{FirstWord}
use Rattle.pq_read.specs.declared.word.FirstWord.TheVariants.{Include, Qreg, Creg, Barrier, Measure, Gate, Unsupported, Unknown}

-- the name of each gate that the include makes known
abbrev pub gate_text : GateWord → List ℕ
gate_text H = codes "h"
gate_text X = codes "x"
gate_text Y = codes "y"
gate_text Id = codes "id"
gate_text (Phase eighths) = phase_word eighths
gate_text Cx = codes "cx"
gate_text Cz = codes "cz"
gate_text Cy = codes "cy"
gate_text Swap = codes "swap"
gate_text Ccx = codes "ccx"

abbrev pub coupled_gates : List GateWord
coupled_gates = Cx ∷ Cz ∷ Cy ∷ Swap ∷ Ccx ∷ []

abbrev pub turning_gates : List GateWord
turning_gates = Phase T ∷ Phase Tdg ∷ Phase S ∷ Phase Sdg ∷ Phase Z ∷ []

abbrev pub other_gates : List GateWord
other_gates = H ∷ X ∷ Y ∷ Id ∷ []

abbrev pub among : List GateWord → List ℕ → Option GateWord
among [] word = None
among (g ∷ gs) word = if bytes_eq (gate_text g) word then Some g else among gs word

abbrev pub or_else : Option GateWord → Option GateWord → Option GateWord
or_else None other = other
or_else (Some g) other = Some g

abbrev pub included_gate : List ℕ → Option GateWord
included_gate word = or_else (among coupled_gates word) (or_else (among turning_gates word) (among other_gates word))

abbrev pub always_gate : List ℕ → Option GateWord
always_gate word = if bytes_eq (codes "CX") word then Some Cx else None

-- `CX` is always known, the others after the include
abbrev pub gate_named : Bool → List ℕ → Option GateWord
gate_named included word = if included then or_else (included_gate word) (always_gate word) else always_gate word

-- how many arguments a gate takes beside the first one
abbrev pub more_arguments : GateWord → ℕ
more_arguments H = 0
more_arguments X = 0
more_arguments Y = 0
more_arguments Id = 0
more_arguments (Phase eighths) = 0
more_arguments Cx = 1
more_arguments Cz = 1
more_arguments Cy = 1
more_arguments Swap = 1
more_arguments Ccx = 2

-- words of statements and gates that aren't accepted
unfoldable pub unsupported_words : List (List ℕ)
unsupported_words =
    codes "opaque" ∷ codes "if" ∷ codes "reset" ∷ codes "gate" ∷ codes "U" ∷ codes "u" ∷ codes "u0" ∷ codes "u1"
    ∷ codes "u2" ∷ codes "u3" ∷ codes "p" ∷ codes "rx" ∷ codes "ry" ∷ codes "rz" ∷ codes "sx" ∷ codes "sxdg" ∷ codes "ch"
    ∷ codes "crx" ∷ codes "cry" ∷ codes "crz" ∷ codes "cp" ∷ codes "cu" ∷ codes "cu1" ∷ codes "cu3" ∷ codes "csx"
    ∷ codes "cswap" ∷ codes "rxx" ∷ codes "rzz" ∷ []

abbrev pub other_word : List ℕ → FirstWord
other_word word =
    if bytes_eq (codes "include") word then Include
    else if bytes_eq (codes "qreg") word then Qreg
    else if bytes_eq (codes "creg") word then Creg
    else if bytes_eq (codes "barrier") word then Barrier
    else if bytes_eq (codes "measure") word then Measure
    else if list_any (λ known. bytes_eq known word) unsupported_words then Unsupported
    else Unknown

abbrev pub gate_or : Option GateWord → FirstWord → FirstWord
gate_or (Some g) other = Gate g
gate_or None other = other

-- what a statement is by its first word, where the include was read or not
abbrev pub first_word : Bool → List ℕ → FirstWord
first_word included word = gate_or (gate_named included word) (other_word word)
