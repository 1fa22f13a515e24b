use Rattle.std.proofs.Common.{◌≡◌, drop}
use Rattle.std.specs.List.{filter_map}
use Rattle.std.specs.Prelude.{slice_get}
use Rattle.clap.specs.Words.{found_of, rows_of}
use Rattle.pq_command.specs.Asked.{first_fault, switch_fault, switches}
use Rattle.pq_command.proofs.reading.first_fault.Given as goal

-- the first fault is that of the options from here on
abbrev pub invariant-loop-switch : goal.invariant-loop-switch
invariant-loop-switch l =
    slice_get (filter_map (switch_fault l.command (rows_of (found_of l.matches))) (drop l.switch-index switches)) 0 ≡ first_fault l.command (rows_of (found_of l.matches))
