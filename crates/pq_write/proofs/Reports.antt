-- The text of a report, number by number.
use Rattle.std.proofs.Common.{◌≡◌, List, ℕ, ◌+◌, ◌≤◌, ◌<◌, ◌^◌, ◌++◌, length, codes, decimal, append_assoc, ap, ◌∙◌, arith}
use Rattle.std.proofs.lemmas.List.{length-append}
use Rattle.pq_list.specs.Roomed.{Roomed}
use Rattle.pq_write.proofs.Room.{long_digits}
use Rattle.pq_write.specs.declared.report.ReportNumbers.{ReportNumbers}
use Rattle.pq_write.specs.Report.{report_text}

-- what is appended number by number
pub reported : (before one two three four five six all : List ℕ) (report : ReportNumbers)
    → one ≡ before ++ (codes "// gates " ++ decimal report.gates_in)
    → two ≡ one ++ (codes " " ++ decimal report.gates_out)
    → three ≡ two ++ (codes "\n// rounds " ++ decimal report.rounds)
    → four ≡ three ++ (codes "\n// calls " ++ decimal report.calls)
    → five ≡ four ++ (codes "\n// first fingers " ++ decimal report.first_fingers)
    → six ≡ five ++ (codes "\n// phase " ++ decimal report.phase)
    → all ≡ six ++ codes "\n"
    → all ≡ before ++ report_text report
unfolding report_text
reported before one two three four five six all report e1 e2 e3 e4 e5 e6 e7 = rw (e7, e6, e5, e4, e3, e2, e1) (simp append_assoc)

-- behind a text and a number there is room for what is left
number_left : (before after : Roomed ℕ) (text : List ℕ) (n left : ℕ) → n < 2 ^ 64 → after.items ≡ before.items ++ (text ++ decimal n) → after.room ≡ before.room
    → length before.items + (length text + 20 + left) ≤ before.room → length after.items + left ≤ after.room
number_left before after text n left small items same room =
    let longer : length after.items ≡ length before.items + length (text ++ decimal n) = ap length items ∙ length-append before.items (text ++ decimal n) in
    omega (arith, length-append text (decimal n), long_digits n small)

-- what the first five numbers leave of the room for a report
pub five_left : (zero one two three four five : Roomed ℕ) (report : ReportNumbers)
    → report.gates_in < 2 ^ 64 → report.gates_out < 2 ^ 64 → report.rounds < 2 ^ 64 → report.calls < 2 ^ 64 → report.first_fingers < 2 ^ 64
    → one.items ≡ zero.items ++ (codes "// gates " ++ decimal report.gates_in) → one.room ≡ zero.room
    → two.items ≡ one.items ++ (codes " " ++ decimal report.gates_out) → two.room ≡ one.room
    → three.items ≡ two.items ++ (codes "\n// rounds " ++ decimal report.rounds) → three.room ≡ two.room
    → four.items ≡ three.items ++ (codes "\n// calls " ++ decimal report.calls) → four.room ≡ three.room
    → five.items ≡ four.items ++ (codes "\n// first fingers " ++ decimal report.first_fingers) → five.room ≡ four.room
    → length zero.items + 163 ≤ zero.room → length five.items + 14 ≤ five.room
five_left zero one two three four five report r1 r2 r3 r4 r5 e1 s1 e2 s2 e3 s3 e4 s4 e5 s5 room =
    number_left four five (codes "\n// first fingers ") report.first_fingers 14 r5 e5 s5
    (number_left three four (codes "\n// calls ") report.calls 52 r4 e4 s4
    (number_left two three (codes "\n// rounds ") report.rounds 82 r3 e3 s3
    (number_left one two (codes " ") report.gates_out 113 r2 e2 s2
    (number_left zero one (codes "// gates ") report.gates_in 134 r1 e1 s1 room))))
