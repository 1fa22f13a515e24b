-- Notes that are put piece by piece.
use Rattle.std.proofs.Common.{◌≡◌, ℕ, suc, ◌+◌, ◌<◌, ◌≤◌, List, ◌++◌, length, take, drop, get_or, Option, inl, inr, sym, ap, ◌∙◌, subst, arith, add-one, drop-cons, append_assoc, codes, decimal}
use Rattle.std.specs.List.{flat_map}
use Rattle.std.specs.Io.KnownBytes.{Appends}
use Rattle.std.proofs.KnownBytes.{Appends-trans}
use Rattle.std.proofs.Math.Seq.{take-append-add, take-length}
use Rattle.std.proofs.lemmas.Grind.{flat_map-append}
use Rattle.std.proofs.lemmas.List.{take-append-le, take-append-drop}
use Rattle.std.proofs.lemmas.List.Concat.{flat_map-cons}
use Rattle.pq_io.specs.Faults.{Rose}
use Rattle.pq_io.specs.Whole.{WritesUpToFault}
use Rattle.pq_read.specs.Kinds.{number_of, name_of}
use Rattle.pq_read.specs.declared.refusal.Refusal.{Refusal as Fault}
use Rattle.pq_command.specs.CommandLine.{name_of as switch_name}
use Rattle.pq_command.specs.declared.fault.Switch.{Switch}
use Rattle.pq_command.specs.declared.fault.UsageFault.{UsageFault}
use Rattle.pq_top.specs.Device.{Moved, Noted}
use Rattle.pq_top.specs.Notes.{fault_line, usage_text, usage_line}

-- the pieces before one, that one, and those after it
pub around : {X : Type 0} (f : X → List ℕ) (xs : List X) (i : ℕ) (d : X) → i < length xs
    → flat_map f xs ≡ flat_map f (take i xs) ++ (f (get_or xs i d) ++ flat_map f (drop (i + 1) xs))
around f xs i d h =
    ap (flat_map f) (sym (take-append-drop i xs)) ∙ flat_map-append f (take i xs) (drop i xs)
    ∙ ap (λ l. flat_map f (take i xs) ++ l) (rw (add-one, drop-cons xs i d) (flat_map-cons f (get_or xs i d) (drop (suc i) xs)))

-- the count rose over the call in which it rose at the end
pub Rose-from : (was between now : ℕ) → was ≤ between → Rose between now → Rose was now
Rose-from was between now le (inl lt) = inl (omega arith)
Rose-from was between now le (inr e) = inr e

-- some pieces were put, and then a prefix of the next
pub noted_stop : (before mid after : Option (List ℕ)) (was between now sent : ℕ) (front piece rest line : List ℕ) → line ≡ front ++ (piece ++ rest)
    → Appends before mid front → was ≤ between → WritesUpToFault mid after between now piece sent
    → Noted (record { before = before; after = after; was = was; now = now }) line
noted_stop before mid after was between now sent front piece rest line e put le fault =
    let within : sent ≤ length piece = omega (arith, fault.within) in
    let same : take (length front + sent) line ≡ front ++ take sent piece =
    ap (take (length front + sent)) e ∙ take-append-add front (piece ++ rest) sent ∙ ap (λ l. front ++ l) (take-append-le sent piece rest within) in
    record {
      count = length front + sent;
      front = subst (Appends before after) (sym same) (Appends-trans before mid after _ _ put fault.put);
      whole = λ calm. absurd (calm (Rose-from was between now le fault.rose));
    }

-- all pieces were put
pub noted_all : (before after : Option (List ℕ)) (was now : ℕ) (line : List ℕ) → Appends before after line
    → Noted (record { before = before; after = after; was = was; now = now }) line
noted_all before after was now line put = record {
  count = length line;
  front = subst (Appends before after) (sym (take-length line)) put;
  whole = λ calm. take-length line;
}

-- the pieces of the line of a fault, with its number and its name as they were had
pub fault_noted : (device : Moved) (fault : Fault) (number : ℕ) (name : List ℕ) → number ≡ number_of fault.kind → name ≡ name_of fault.kind
    → Noted device (codes "popqc: refused " ++ (decimal number ++ (codes " " ++ (name ++ (codes " at " ++ (decimal fault.line ++ (codes ":" ++ (decimal fault.column ++ codes "\n")))))))) → Noted device (fault_line fault)
unfolding fault_line
fault_noted device fault number name e f noted =
    subst (λ n. Noted device (codes "popqc: refused " ++ (decimal n ++ (codes " " ++ (name_of fault.kind ++ (codes " at " ++ (decimal fault.line ++ (codes ":" ++ (decimal fault.column ++ codes "\n"))))))))) e
    (subst (λ l. Noted device (codes "popqc: refused " ++ (decimal number ++ (codes " " ++ (l ++ (codes " at " ++ (decimal fault.line ++ (codes ":" ++ (decimal fault.column ++ codes "\n"))))))))) f noted)

-- the pieces of the line of a fault of the words
pub switch_noted : (device : Moved) (fault name : List ℕ) (switch : Switch) → name ≡ switch_name switch
    → Noted device (codes "popqc: usage: " ++ (fault ++ (name ++ codes "\n"))) → Noted device (codes "popqc: usage: " ++ (fault ++ (switch_name switch ++ codes "\n")))
switch_noted device fault name switch e noted =
    subst (λ l. Noted device (codes "popqc: usage: " ++ (fault ++ (l ++ codes "\n")))) e noted

pub usage_noted : (device : Moved) (said name : List ℕ) (fault : UsageFault) → usage_text fault ≡ said ++ name
    → Noted device (codes "popqc: usage: " ++ (said ++ (name ++ codes "\n"))) → Noted device (usage_line fault)
unfolding usage_line
usage_noted device said name fault e noted =
    subst (λ l. Noted device (codes "popqc: usage: " ++ l)) (sym (append_assoc said name (codes "\n")) ∙ ap (λ l. l ++ codes "\n") (sym e)) noted
