-- The numbers of the settings are in their ranges.
use Rattle.std.proofs.Common.{◌≡◌, ◌≤◌, subst, ℕ, Bool, true, false, cond, not, List, Option, Some, None, Result, Ok, Err, refl, arith, codes}
use Rattle.std.specs.Option.{option_map_or}
use Rattle.std.specs.Prelude.{IfOk}
use Rattle.std.specs.Str.Parse.{digits_value}
use Rattle.std.proofs.lemmas.Bool.{leb-true}
use Rattle.clap.specs.Words.{Row, Text, first_of, matches_of, takes}
use Rattle.clap.proofs.WalkLemmas.{both}
use Rattle.pq_command.specs.declared.fault.Switch.{Switch}
use Rattle.pq_command.specs.declared.fault.Switch.TheVariants.{Omega, Workers, Qubits, Gates}
use Rattle.pq_command.specs.declared.fault.UsageFault.{UsageFault}
use Rattle.pq_command.specs.declared.fault.UsageFault.TheVariants as fault
use Rattle.pq_command.specs.declared.settings.Command.{Command}
use Rattle.pq_command.specs.declared.settings.Command.TheVariants.{Opt, Check, Gen, Bench}
use Rattle.pq_command.specs.declared.settings.Settings.{Settings}
use Rattle.pq_command.specs.CommandLine.{app}
use Rattle.pq_command.specs.Asked.{IsFaultless, asked, asked_by, command_of, first_fault, given, greatest, is_flag, is_in_range, is_needed, is_number, least, number_or, settings_of, settings_or_fault, switch_fault, text_fault}
use Rattle.pq_limits.specs.Limits.{AreQubits, AreWorkers, IsBetween, IsOmega}
use Rattle.pq_limits.specs.declared.TheConstants.{DEFAULT_OMEGA, DEFAULT_WORKERS, MAX_GATES}
use Rattle.pq_command.specs.Ranges.{IsInRange}
use Rattle.pq_command.proofs.Faultless.{gates_faultless, no_switch_fault, omega_faultless, qubits_faultless, workers_faultless}

-- a text without a fault has a number in the range
text_between : (switch : Switch) (text : Text) → is_flag switch ≡ false → text_fault switch text ≡ None → IsBetween (least switch) (greatest switch) (digits_value 10 text)
text_between switch text has_text h =
    let parts = both _ _ (go (is_number text) (is_in_range switch (digits_value 10 text)) (rw has_text at h)) in
    record { least = leb-true _ _ parts.0; most = leb-true _ _ parts.1 }
  where
    go : (n r : Bool) → cond (not n) (Some (fault.Number switch)) (cond r None (Some (fault.Range switch))) ≡ None → r ≡ true
    go true true e = refl
    go true false e = cc
    go false r e = cc

-- so is the number of an option, where the default one is
number_between : (rows : List Row) (switch : Switch) (default : ℕ) → IsFaultless rows switch → (given rows switch ≡ None → IsBetween (least switch) (greatest switch) default)
    → IsBetween (least switch) (greatest switch) (number_or default rows switch)
number_between rows switch default h other = go (given rows switch) refl h.sound
  where
    go : (o : Option Text) → given rows switch ≡ o → option_map_or (text_fault switch) o None ≡ None
        → IsBetween (least switch) (greatest switch) (option_map_or (digits_value 10) o default)
    go None e s = other e
    go (Some text) e s = text_between switch text h.has_text s

-- what is needed is given
needed_given : (command : Command) (rows : List Row) (switch : Switch) → switch_fault command rows switch ≡ None → is_needed command switch ≡ true → given rows switch ≡ None → ⊥
needed_given command rows switch h needed none =
    let missing : Some (fault.Missing switch) ≡ None = rw (none, needed) at h in
    cc

pub settings_in_range : (command : Command) (rows : List Row) → first_fault command rows ≡ None → IsInRange (settings_of command rows)
settings_in_range command rows h = go command h
  where
    omega_in : (c : Command) → first_fault c rows ≡ None → IsOmega (number_or DEFAULT_OMEGA rows Omega)
    omega_in c e = number_between rows Omega DEFAULT_OMEGA (omega_faultless c rows e) (λ none. record { least = omega arith; most = omega arith })

    workers_in : (c : Command) → first_fault c rows ≡ None → AreWorkers (number_or DEFAULT_WORKERS rows Workers)
    workers_in c e = number_between rows Workers DEFAULT_WORKERS (workers_faultless c rows e) (λ none. record { least = omega arith; most = omega arith })

    qubits_in : (c : Command) → first_fault c rows ≡ None → is_needed c Qubits ≡ true → AreQubits (number_or 0 rows Qubits)
    qubits_in c e needed = number_between rows Qubits 0 (qubits_faultless c rows e)
        (λ none. absurd (needed_given c rows Qubits (no_switch_fault c rows 4 Qubits e (omega arith) refl) needed none))

    gates_in : (c : Command) → first_fault c rows ≡ None → number_or 0 rows Gates ≤ MAX_GATES
    gates_in c e = (number_between rows Gates 0 (gates_faultless c rows e) (λ none. record { least = omega arith; most = omega arith })).most

    go : (c : Command) → first_fault c rows ≡ None → IsInRange (settings_of c rows)
    go Opt e = (omega_in Opt e, workers_in Opt e)
    go Check e = omega_in Check e
    go Gen e = (qubits_in Gen e refl, gates_in Gen e)
    go Bench e = (omega_in Bench e, workers_in Bench e, qubits_in Bench e refl, gates_in Bench e)

-- what words ask for is in its ranges
by_fault : (rows : List Row) (command : Command) (o : Option UsageFault) → first_fault command rows ≡ o → IfOk (option_map_or Err o (Ok (settings_of command rows))) IsInRange
by_fault rows command None none = settings_in_range command rows none
by_fault rows command (Some fault) is = tt

by_command : (rows : List Row) (o : Option Command) → IfOk (option_map_or (settings_or_fault rows) o (Err fault.Command)) IsInRange
by_command rows None = tt
by_command rows (Some command) = by_fault rows command (first_fault command rows) refl

by_word : (rows : List Row) (o : Option Text)
    → IfOk (option_map_or (λ word. option_map_or (settings_or_fault rows) (command_of word) (Err fault.Command)) o (Err fault.Command)) IsInRange
by_word rows None = tt
by_word rows (Some word) = by_command rows (command_of word)

by_words : (rows : List Row) (taken : Bool) → IfOk (cond taken (asked_by rows) (Err fault.Words)) IsInRange
by_words rows true = by_word rows (first_of (codes "command") rows)
by_words rows false = tt

pub asked_in_range : (words : List Text) (wanted : Settings) → asked words ≡ Ok wanted → IsInRange wanted
unfolding asked
asked_in_range words wanted is = subst (λ (r : Result Settings UsageFault). IfOk r IsInRange) is (by_words (matches_of app words) (takes app words))
