-- The command line as one simple command of clap.
use Rattle.std.specs.Prelude.{[], ◌∷◌, true, Some, codes, fold}
use Rattle.clap.specs.Simple.{new_shape}
use Rattle.clap.specs.Words.{App, Rule, Text, new_rule, with_rule}
use Rattle.clap.specs.declared.builder.action.ArgAction.TheVariants.{Set, SetTrue}
use Rattle.pq_command.specs.declared.fault.Switch.{Switch}
use Rattle.pq_command.specs.declared.fault.Switch.TheVariants.{Omega, Workers, DropBarriers, Seed, Qubits, Gates}

-- the name of an option, without the two dashes
abbrev pub name_of : Switch → Text
name_of Omega = codes "omega"
name_of Workers = codes "workers"
name_of DropBarriers = codes "drop-barriers"
name_of Seed = codes "seed"
name_of Qubits = codes "qubits"
name_of Gates = codes "gates"

-- a word that must stand
abbrev pub word_rule : Text → Rule
word_rule name = record (new_rule name) { required = true }

-- an option with one text, and a flag
abbrev pub option_rule : Text → Rule
option_rule name = record (new_rule name) { long = Some name; action = Some Set }

abbrev pub flag_rule : Text → Rule
flag_rule name = record (new_rule name) { long = Some name; action = Some SetTrue }

-- the command that reads the words after the program's name: neither subcommands nor a flag for help or version
abbrev pub bare : App
bare = record {
  top = record (new_shape (codes "popqc")) { no_binary_name = true; disable_help_flag = true; disable_version_flag = true };
  subs = [];
}

-- one word names the command, and the options stand anywhere
abbrev pub app : App
app = fold with_rule bare (word_rule (codes "command") ∷ option_rule (name_of Omega) ∷ option_rule (name_of Workers) ∷ flag_rule (name_of DropBarriers)
    ∷ option_rule (name_of Seed) ∷ option_rule (name_of Qubits) ∷ option_rule (name_of Gates) ∷ [])
