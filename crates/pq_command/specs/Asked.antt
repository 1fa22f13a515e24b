-- What the words of the command line ask for.
use Rattle.std.specs.Prelude.{◌≡◌, ℕ, ◌&&◌, not, nat_le, ◌^◌, ◌-◌, Bool, true, false, if◌then◌else◌, List, [], ◌∷◌, length, Option, Some, None, Result, Ok, Err, codes, slice_get, is_some}
use Rattle.std.specs.List.{list_all, filter_map}
use Rattle.std.specs.Option.{option_map_or}
use Rattle.std.specs.Char.{is_ascii_digit}
use Rattle.std.specs.Str.{bytes_eq}
use Rattle.std.specs.Str.Parse.{digits_value}
use Rattle.clap.specs.Words.{Row, Text, first_of, matches_of, takes}
use Rattle.pq_limits.specs.declared.TheConstants.{MIN_OMEGA, MAX_OMEGA, DEFAULT_OMEGA, MIN_WORKERS, MAX_WORKERS, DEFAULT_WORKERS, MIN_QUBITS, MAX_QUBITS, MAX_GATES}
use Rattle.pq_command.specs.declared.fault.Switch.{Switch}
use Rattle.pq_command.specs.declared.fault.Switch.TheVariants.{Omega, Workers, DropBarriers, Seed, Qubits, Gates}
use Rattle.pq_command.specs.declared.fault.UsageFault.{UsageFault}
use Rattle.pq_command.specs.declared.fault.UsageFault.TheVariants as fault
use Rattle.pq_command.specs.declared.settings.Command.{Command}
use Rattle.pq_command.specs.declared.settings.Command.TheVariants.{Opt, Check, Gen, Bench}
use Rattle.pq_command.specs.declared.settings.Settings.{Settings}
use Rattle.pq_command.specs.declared.settings.Settings.TheVariants as settings
use Rattle.pq_command.specs.declared.fault.WordsError.{WordsError}
use Rattle.pq_command.specs.declared.fault.WordsError.TheVariants as failed
use Rattle.pq_command.specs.CommandLine.{app, name_of}

-- the command of this name
abbrev pub command_of : Text → Option Command
command_of word =
    if bytes_eq word (codes "opt") then Some Opt
    else if bytes_eq word (codes "check") then Some Check
    else if bytes_eq word (codes "gen") then Some Gen
    else if bytes_eq word (codes "bench") then Some Bench
    else None

-- a command takes an option, or the flag
abbrev pub is_taken : Command → Switch → Bool
is_taken Opt Omega = true
is_taken Opt Workers = true
is_taken Opt DropBarriers = true
is_taken Check Omega = true
is_taken Check DropBarriers = true
is_taken Gen Seed = true
is_taken Gen Qubits = true
is_taken Gen Gates = true
is_taken Bench Omega = true
is_taken Bench Workers = true
is_taken Bench Seed = true
is_taken Bench Qubits = true
is_taken Bench Gates = true
is_taken _ _ = false

-- a command needs an option
abbrev pub is_needed : Command → Switch → Bool
is_needed Gen Seed = true
is_needed Gen Qubits = true
is_needed Gen Gates = true
is_needed Bench Seed = true
is_needed Bench Qubits = true
is_needed Bench Gates = true
is_needed _ _ = false

-- the least and the greatest number that an option may have
abbrev pub least : Switch → ℕ
least Omega = MIN_OMEGA
least Workers = MIN_WORKERS
least Qubits = MIN_QUBITS
least _ = 0

abbrev pub greatest : Switch → ℕ
greatest Omega = MAX_OMEGA
greatest Workers = MAX_WORKERS
greatest Qubits = MAX_QUBITS
greatest Gates = MAX_GATES
greatest _ = 2 ^ 64 - 1

-- 1 to 20 decimal digits
abbrev pub is_number : Text → Bool
is_number text = nat_le 1 (length text) && (nat_le (length text) 20 && list_all is_ascii_digit text)

-- the number lies in the option's range
abbrev pub is_in_range : Switch → ℕ → Bool
is_in_range switch number = nat_le (least switch) number && nat_le number (greatest switch)

-- the flag, which has no text
abbrev pub is_flag : Switch → Bool
is_flag DropBarriers = true
is_flag _ = false

-- the matches have the flag: clap reads it as a text, `true` where it was given and else `false`
abbrev pub has_flag : Text → List Row → Bool
has_flag name rows = option_map_or (λ text. bytes_eq text (codes "true")) (first_of name rows) false

-- the text that was given with an option, where it was given; that of the flag is empty
abbrev pub given : List Row → Switch → Option Text
given rows switch =
    if is_flag switch then (if has_flag (name_of switch) rows then Some [] else None)
    else first_of (name_of switch) rows

-- the first fault of the text of an option
abbrev pub text_fault : Switch → Text → Option UsageFault
text_fault switch text =
    if is_flag switch then None
    else if not (is_number text) then Some (fault.Number switch)
    else if is_in_range switch (digits_value 10 text) then None
    else Some (fault.Range switch)

-- an option whose text, where it was given, has no fault
pub record IsFaultless (rows : List Row) (switch : Switch) : Type 0 where
  pub has_text : is_flag switch ≡ false
  pub sound : option_map_or (text_fault switch) (given rows switch) None ≡ None

-- the first fault of an option
abbrev pub switch_fault : Command → List Row → Switch → Option UsageFault
switch_fault command rows switch =
    if is_some (given rows switch) then
    (if is_taken command switch then option_map_or (text_fault switch) (given rows switch) None else Some (fault.Unwanted switch))
    else (if is_needed command switch then Some (fault.Missing switch) else None)

-- the options, in the order in which they are looked at
abbrev pub switches : List Switch
switches = Omega ∷ Workers ∷ DropBarriers ∷ Seed ∷ Qubits ∷ Gates ∷ []

-- the first fault of all options
abbrev pub first_fault : Command → List Row → Option UsageFault
first_fault command rows = slice_get (filter_map (switch_fault command rows) switches) 0

-- the number that was given with an option, or else this one
abbrev pub number_or : ℕ → List Row → Switch → ℕ
number_or default rows switch = option_map_or (digits_value 10) (given rows switch) default

-- the settings of a command without a fault
abbrev pub settings_of : Command → List Row → Settings
settings_of Opt rows = settings.Opt (number_or DEFAULT_OMEGA rows Omega) (number_or DEFAULT_WORKERS rows Workers) (is_some (given rows DropBarriers))
settings_of Check rows = settings.Check (number_or DEFAULT_OMEGA rows Omega) (is_some (given rows DropBarriers))
settings_of Gen rows = settings.Gen (number_or 0 rows Seed) (number_or 0 rows Qubits) (number_or 0 rows Gates)
settings_of Bench rows = settings.Bench (number_or DEFAULT_OMEGA rows Omega) (number_or DEFAULT_WORKERS rows Workers)
    (number_or 0 rows Seed) (number_or 0 rows Qubits) (number_or 0 rows Gates)

-- the settings of a command, or the first fault of its options
abbrev pub settings_or_fault : List Row → Command → Result Settings UsageFault
settings_or_fault rows command = option_map_or Err (first_fault command rows) (Ok (settings_of command rows))

-- what the matches ask for
abbrev pub asked_by : List Row → Result Settings UsageFault
asked_by rows =
    option_map_or (λ word. option_map_or (settings_or_fault rows) (command_of word) (Err fault.Command))
    (first_of (codes "command") rows) (Err fault.Command)

-- What the words after the program's name ask for: the settings, or the fault of the words. The words are
-- read as clap reads them by the simple command `app`.
unfoldable pub asked : List Text → Result Settings UsageFault
asked words = if takes app words then asked_by (matches_of app words) else Err fault.Words

-- the words aren't those of the simple command
abbrev pub IsUntaken : List Text → WordsError → Type 0
IsUntaken words (failed.Usage fault.Words) = takes app words ≡ false
IsUntaken words (failed.Usage _) = ⊥
IsUntaken words failed.OutOfMemory = Unit {0}

-- the words have this fault, if it isn't that memory was refused
abbrev pub IsFaultOf : List Text → WordsError → Type 0
IsFaultOf words (failed.Usage fault) = asked words ≡ Err fault
IsFaultOf words failed.OutOfMemory = Unit {0}
