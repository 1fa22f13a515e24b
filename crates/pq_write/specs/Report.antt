-- The report on a run of the optimiser.
use Rattle.std.specs.Prelude.{ℕ, List, ◌++◌, codes, decimal}
use Rattle.pq_write.specs.declared.report.ReportNumbers.{ReportNumbers}

-- Five lines, each ended by a newline: the gates before and after, the rounds, the oracle's calls, the first
-- fingers, and the phase.
unfoldable pub report_text : ReportNumbers → List ℕ
report_text report =
    codes "// gates " ++ (decimal report.gates_in ++ (codes " " ++ (decimal report.gates_out
    ++ (codes "\n// rounds " ++ (decimal report.rounds ++ (codes "\n// calls " ++ (decimal report.calls
    ++ (codes "\n// first fingers " ++ (decimal report.first_fingers ++ (codes "\n// phase " ++ (decimal report.phase ++ codes "\n")))))))))))
