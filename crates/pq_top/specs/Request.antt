-- What the words after the program's name ask for.
use Rattle.std.specs.Prelude.{◌≡◌, List, Option, Some, None, Ok, Err, ℕ}
use Rattle.pq_read.specs.declared.program.Options.{Options}
use Rattle.pq_command.specs.declared.fault.UsageFault.{UsageFault}
use Rattle.pq_command.specs.declared.settings.Settings.{Settings}
use Rattle.pq_command.specs.declared.settings.Settings.TheVariants as settings
use Rattle.pq_command.specs.Asked.{asked}

-- the words ask for these settings
abbrev pub AskFor : List (List ℕ) → Settings → Type 0
AskFor words wanted = asked words ≡ Ok wanted

-- the words have a fault
abbrev pub AreFaulty : List (List ℕ) → Type 0
AreFaulty words = (fault : UsageFault) × (asked words ≡ Err fault)

-- how a command reads the text that the source gives, none where it reads no text
abbrev pub reads_by : Settings → Option Options
reads_by (settings.Opt omega workers drop_barriers) = Some (record { drop_barriers = drop_barriers })
reads_by (settings.Check omega drop_barriers) = Some (record { drop_barriers = drop_barriers })
reads_by (settings.Gen seed qubits gates) = None
reads_by (settings.Bench omega workers seed qubits gates) = None

-- the words ask for a command that reads a text in this way
abbrev pub AskToRead : List (List ℕ) → Options → Type 0
AskToRead words options = (wanted : Settings) × AskFor words wanted × (reads_by wanted ≡ Some options)

-- the words ask for a command that reads no text
abbrev pub AskToMake : List (List ℕ) → Type 0
AskToMake words = (wanted : Settings) × AskFor words wanted × (reads_by wanted ≡ None)

-- the settings are both of `opt` or both of `bench`, and they differ in the number of workers at most
abbrev pub DifferInWorkers : Settings → Settings → Type 0
DifferInWorkers (settings.Opt omega workers drop_barriers) other =
    (others : ℕ) × (other ≡ settings.Opt omega others drop_barriers)
DifferInWorkers (settings.Bench omega workers seed qubits gates) other =
    (others : ℕ) × (other ≡ settings.Bench omega others seed qubits gates)
DifferInWorkers _ other = ⊥
