-- A command whose options have no fault, and what the matches then ask for.
use Rattle.std.proofs.Common.{◌≡◌, ◌∙◌, ◌+◌, add-one, drop, ℕ, suc, zero, Bool, true, false, cond, List, [], ◌∷◌, Option, Some, None, Ok, Err, refl, sym, ap, codes, length, slice_index_or, ◌<◌, arith}
use Rattle.std.specs.List.{All, cons_option, filter_map}
use Rattle.std.specs.Option.{option_map_or}
use Rattle.std.specs.Prelude.{is_some, slice_get}
use Rattle.clap.specs.Words.{Row, Text, first_of}
use Rattle.pq_command.specs.declared.fault.Switch.{Switch}
use Rattle.pq_command.specs.declared.fault.Switch.TheVariants.{Omega, Workers, Seed, Qubits, Gates}
use Rattle.pq_command.specs.declared.fault.UsageFault.{UsageFault}
use Rattle.pq_command.specs.declared.fault.UsageFault.TheVariants as fault
use Rattle.pq_command.specs.declared.settings.Command.{Command}
use Rattle.pq_command.specs.Asked.{IsFaultless, asked_by, command_of, first_fault, given, is_flag, is_needed, is_taken, settings_of, switch_fault, switches, text_fault}

-- where no item gives anything, each gives nothing
none_first : {X Y : Type 0} (h : X → Option Y) (xs : List X) → slice_get (filter_map h xs) 0 ≡ None → All (λ x. h x ≡ None) xs
none_first h [] none k d lt = absurd (omega arith)
none_first {X = X} {Y = Y} h (x ∷ xs) none k d lt = go (h x) refl none k lt (λ rest. none_first h xs rest)
  where
    go : (o : Option Y) → h x ≡ o → slice_get (cons_option o (filter_map h xs)) 0 ≡ None → (k : ℕ) → k < suc (length xs)
        → (slice_get (filter_map h xs) 0 ≡ None → All (λ x. h x ≡ None) xs) → h (slice_index_or (x ∷ xs) k d) ≡ None
    go None e rest zero lt all = e
    go None e rest (suc k) lt all = all rest k d (omega arith)
    go (Some y) e rest k lt all = cc

-- the first item from i on that gives something
pub first_here : {X Y : Type 0} (h : X → Option Y) (xs : List X) (i : ℕ) (d : X) (y : Y) → i < length xs → Some y ≡ h (slice_index_or xs i d) → Some y ≡ slice_get (filter_map h (drop i xs)) 0
first_here h [] i d y lt is = absurd (omega arith)
first_here h (x ∷ xs) zero d y lt is = rw (← is) refl
first_here h (x ∷ xs) (suc i) d y lt is = first_here h xs i d y (omega arith) is

after_suc : {X Y : Type 0} (h : X → Option Y) (xs : List X) (i : ℕ) (d : X) → i < length xs → None ≡ h (slice_index_or xs i d)
    → slice_get (filter_map h (drop (suc i) xs)) 0 ≡ slice_get (filter_map h (drop i xs)) 0
after_suc h [] i d lt is = absurd (omega arith)
after_suc h (x ∷ xs) zero d lt is = rw (← is) refl
after_suc h (x ∷ xs) (suc i) d lt is = after_suc h xs i d (omega arith) is

pub first_after : {X Y : Type 0} (h : X → Option Y) (xs : List X) (i : ℕ) (d : X) → i < length xs → None ≡ h (slice_index_or xs i d)
    → slice_get (filter_map h (drop (i + 1) xs)) 0 ≡ slice_get (filter_map h (drop i xs)) 0
first_after h xs i d lt is = rw add-one (after_suc h xs i d lt is)

-- an option without a fault is passed over
pub fault_after : (command : Command) (rows : List Row) (i : ℕ) → i < length switches → None ≡ switch_fault command rows (slice_index_or switches i Omega)
    → slice_get (filter_map (switch_fault command rows) (drop i switches)) 0 ≡ first_fault command rows
    → slice_get (filter_map (switch_fault command rows) (drop (i + 1) switches)) 0 ≡ first_fault command rows
fault_after command rows i lt none rest = first_after (switch_fault command rows) switches i Omega lt none ∙ rest

text_is_sound : (command : Command) (rows : List Row) (switch : Switch) → switch_fault command rows switch ≡ None → option_map_or (text_fault switch) (given rows switch) None ≡ None
text_is_sound command rows switch h = go (given rows switch) (is_taken command switch) (is_needed command switch) h
  where
    go : (o : Option Text) (taken needed : Bool)
        → cond (is_some o) (cond taken (option_map_or (text_fault switch) o None) (Some (fault.Unwanted switch))) (cond needed (Some (fault.Missing switch)) None) ≡ None
        → option_map_or (text_fault switch) o None ≡ None
    go None taken needed e = refl
    go (Some text) true needed e = e
    go (Some text) false needed e = cc

-- an option without a fault, by its place in the list
pub no_switch_fault : (command : Command) (rows : List Row) (k : ℕ) (switch : Switch) → first_fault command rows ≡ None → k < 6 → slice_index_or switches k Omega ≡ switch
    → switch_fault command rows switch ≡ None
no_switch_fault command rows k switch none lt at = ap (switch_fault command rows) (sym at) ∙ none_first (switch_fault command rows) switches none k Omega lt

faultless : (command : Command) (rows : List Row) (k : ℕ) (switch : Switch) → first_fault command rows ≡ None → k < 6 → slice_index_or switches k Omega ≡ switch → is_flag switch ≡ false
    → IsFaultless rows switch
faultless command rows k switch none lt at has_text = record {
  has_text = has_text;
  sound = text_is_sound command rows switch (no_switch_fault command rows k switch none lt at);
}

pub omega_faultless : (command : Command) (rows : List Row) → first_fault command rows ≡ None → IsFaultless rows Omega
omega_faultless command rows none = faultless command rows 0 Omega none (omega arith) refl refl

pub workers_faultless : (command : Command) (rows : List Row) → first_fault command rows ≡ None → IsFaultless rows Workers
workers_faultless command rows none = faultless command rows 1 Workers none (omega arith) refl refl

pub seed_faultless : (command : Command) (rows : List Row) → first_fault command rows ≡ None → IsFaultless rows Seed
seed_faultless command rows none = faultless command rows 3 Seed none (omega arith) refl refl

pub qubits_faultless : (command : Command) (rows : List Row) → first_fault command rows ≡ None → IsFaultless rows Qubits
qubits_faultless command rows none = faultless command rows 4 Qubits none (omega arith) refl refl

pub gates_faultless : (command : Command) (rows : List Row) → first_fault command rows ≡ None → IsFaultless rows Gates
gates_faultless command rows none = faultless command rows 5 Gates none (omega arith) refl refl

-- no word names the command
pub no_word : (rows : List Row) → first_of (codes "command") rows ≡ None → Err fault.Command ≡ asked_by rows
no_word rows h = rw h refl

pub no_command : (rows : List Row) (word : Text) → first_of (codes "command") rows ≡ Some word → None ≡ command_of word → Err fault.Command ≡ asked_by rows
no_command rows word h none = rw (h, ← none) refl

-- a command, with the first fault of its options or without one
pub one_fault : (rows : List Row) (word : Text) (command : Command) (fault : UsageFault) → first_of (codes "command") rows ≡ Some word → Some command ≡ command_of word
    → Some fault ≡ first_fault command rows → Err fault ≡ asked_by rows
one_fault rows word command fault h is first = rw (h, ← is, ← first) refl

pub no_fault : (rows : List Row) (word : Text) (command : Command) → first_of (codes "command") rows ≡ Some word → Some command ≡ command_of word
    → None ≡ first_fault command rows → Ok (settings_of command rows) ≡ asked_by rows
no_fault rows word command h is none = rw (h, ← is, ← none) refl
