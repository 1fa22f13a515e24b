-- The log of receipts, from the rounds to the status.
use Rattle.std.proofs.Common.{◌≡◌, ℕ, ◌⊎◌, inl, inr, true, false, List, [], map, Result, Ok, Err, refl, sym, subst, ◌∙◌, arith}
use Rattle.std.specs.Prelude.{OnOk}
use Rattle.std.proofs.lemmas.List.{append-nil}
use Rattle.pq_gate.specs.declared.gate.Gate.{Gate}
use Rattle.pq_board.specs.Steps.{Numbers}
use Rattle.pq_rules.specs.Row.{RowView}
use Rattle.pq_rules.specs.Table.{builtin_rows}
use Rattle.pq_loop.specs.Loops.{LoopView}
use Rattle.pq_loop.specs.Opt.{RoundNumbers, no_rounds, Rounds, done, Opt}
use Rattle.pq_loop.specs.Receipts.{receipt_of}
use Rattle.pq_command.specs.declared.settings.Settings.{Settings}
use Rattle.pq_command.specs.declared.settings.Settings.TheVariants as settings
use Rattle.pq_top.specs.declared.answer.Answer.{Answer}
use Rattle.pq_top.specs.declared.answer.Answer.TheVariants.{Done, Usage, Refused, ReadFault, WriteFault, OutOfMemory}
use Rattle.pq_top.specs.declared.answer.Output.{Output}
use Rattle.pq_top.specs.Device.{Moved}
use Rattle.pq_top.specs.Request.{AskFor}
use Rattle.pq_top.specs.Work.{FailsFor, WritesOutput, status_of}
use Rattle.pq_top.specs.Log.{Follows, LogsRounds, Logs, HasLogged, LogsFor, LogsFailure, LogsBy}
use Rattle.pq_top.proofs.Leading.{IsOnItsWay}

-- what is logged at the end
pub logged_at_end : {w : ℕ} {gates : List Gate} {loop : LoopView} {old log : List Numbers} → IsOnItsWay builtin_rows w gates old loop log → loop.state.fingers ≡ [] →
    LogsRounds w gates old log
logged_at_end {w} {gates} {loop} {old} {log} way none = record {
  total = record { gates = loop.state.gates; rounds = way.made };
  opt = subst (λ (rounds : List RoundNumbers). Opt builtin_rows w gates (record { gates = loop.state.gates; rounds = rounds }))
      (append-nil way.made) (way.leads (no_rounds loop.state.gates) ends);
  holds = way.logged;
}
  where
    ends : Rounds builtin_rows w loop.state (no_rounds loop.state.gates)
    ends = subst (λ (fingers : List ℕ). Rounds builtin_rows w (record { gates = loop.state.gates; fingers = fingers }) (no_rounds loop.state.gates)) (sym none)
        (done loop.state.gates)

-- receipts follow those that there were
pub logging_follows : {rules : List RowView} {w : ℕ} {gates : List Gate} {loop : LoopView} {old log : List Numbers} → IsOnItsWay rules w gates old loop log → Follows old log
logging_follows {rules} {w} {gates} {loop} {old} {log} way = (map receipt_of way.made, way.logged)

-- a receipt that found no place left the log as it was
pub same_logging : {rules : List RowView} {w : ℕ} {gates : List Gate} {loop : LoopView} {old log new : List Numbers} → IsOnItsWay rules w gates old loop log → new ≡ log → Follows old new
same_logging {rules} {w} {gates} {loop} {old} {log} {new} way is = (map receipt_of way.made, is ∙ way.logged)

-- what holds anyway holds where there is a value
pub on_ok : {A E : Type 0} {P : Type 0} (result : Result A E) → P → OnOk result P
on_ok (Ok value) holds = holds
on_ok (Err error) holds = tt

pub same_follows : (old new : List Numbers) → new ≡ old → Follows old new
same_follows old new is = ([], is ∙ sym (append-nil old))

-- the same where the gates that were handed on are a program's
pub rounds_of : (w : ℕ) (given gates : List Gate) (old new : List Numbers) → given ≡ gates → LogsRounds w given old new → LogsRounds w gates old new
rounds_of w given gates old new is logs = subst (λ (g : List Gate). LogsRounds w g old new) is logs

-- where none was made
pub failed_logs : (words : List (List ℕ)) (input : Moved) (old new : List Numbers) (wanted : Settings) (answer : Answer) → FailsFor wanted input answer → LogsFailure old new answer →
    LogsBy words input old new answer
failed_logs words input old new wanted (Refused refusal) fails logs = logs
failed_logs words input old new wanted (ReadFault taken) fails logs = logs
failed_logs words input old new wanted OutOfMemory fails logs = logs
failed_logs words input old new wanted _ fails logs = absurd fails

-- where the output was written, or the sink failed
pub written_logs : (words : List (List ℕ)) (input device : Moved) (old new : List Numbers) (wanted : Settings) (output : Output) (answer : Answer) → AskFor words wanted →
    LogsFor wanted input old new output → WritesOutput device output answer → LogsBy words input old new answer
written_logs words input device old new wanted output (Done found) asks logs wrote =
    (record { wanted = wanted; asks = asks; text = logs.text; reads = logs.reads; logs = logs.logs }, λ yes_found. logs.found (sym wrote.0 ∙ yes_found))
written_logs words input device old new wanted output (WriteFault sent) asks logs wrote =
    record { wanted = wanted; asks = asks; text = logs.text; reads = logs.reads; logs = logs.logs }
written_logs words input device old new wanted output _ asks logs wrote = absurd wrote

-- By status.

logs_follow : (wanted : Settings) (text : List ℕ) (old new : List Numbers) → Logs wanted text old new → Follows old new
logs_follow (settings.Opt omega workers drop_barriers) text old new logs = (map receipt_of logs.rounds.total.rounds, logs.rounds.holds)
logs_follow (settings.Bench omega workers seed qubits gates) text old new logs = (map receipt_of logs.total.rounds, logs.holds)
logs_follow (settings.Check omega drop_barriers) text old new logs = same_follows old new logs
logs_follow (settings.Gen seed qubits gates) text old new logs = same_follows old new logs

-- the receipts that the log had stay
pub log_follows : (answer : Answer) (words : List (List ℕ)) (input : Moved) (old new : List Numbers) → LogsBy words input old new answer → Follows old new
log_follows (Done found) words input old new logs = logs_follow logs.0.wanted logs.0.text old new logs.0.logs
log_follows (WriteFault sent) words input old new logs = logs_follow logs.wanted logs.text old new logs.logs
log_follows OutOfMemory words input old new logs = logs
log_follows (Usage fault) words input old new logs = same_follows old new logs
log_follows (Refused refusal) words input old new logs = same_follows old new logs
log_follows (ReadFault taken) words input old new logs = same_follows old new logs

-- the rounds are logged with status 0 or 5
pub log_rounds : (answer : Answer) (status : ℕ) (words : List (List ℕ)) (input : Moved) (old new : List Numbers) → status ≡ status_of answer → LogsBy words input old new answer →
    (status ≡ 0) ⊎ (status ≡ 5) → HasLogged words input old new
log_rounds (Done found) status words input old new is logs either = logs.0
log_rounds (WriteFault sent) status words input old new is logs either = logs
log_rounds (Usage fault) status words input old new is logs (inl e) = absurd (omega (arith, is, e))
log_rounds (Usage fault) status words input old new is logs (inr e) = absurd (omega (arith, is, e))
log_rounds (Refused refusal) status words input old new is logs (inl e) = absurd (omega (arith, is, e))
log_rounds (Refused refusal) status words input old new is logs (inr e) = absurd (omega (arith, is, e))
log_rounds (ReadFault taken) status words input old new is logs (inl e) = absurd (omega (arith, is, e))
log_rounds (ReadFault taken) status words input old new is logs (inr e) = absurd (omega (arith, is, e))
log_rounds OutOfMemory status words input old new is logs (inl e) = absurd (omega (arith, is, e))
log_rounds OutOfMemory status words input old new is logs (inr e) = absurd (omega (arith, is, e))

-- and else the log stays, unless memory runs out
pub log_stays : (answer : Answer) (status : ℕ) (words : List (List ℕ)) (input : Moved) (old new : List Numbers) → status ≡ status_of answer → LogsBy words input old new answer →
    (status ≡ 0 → ⊥) → (status ≡ 5 → ⊥) → (status ≡ 6 → ⊥) → new ≡ old
log_stays (Done true) status words input old new is logs not_0 not_5 not_6 = logs.1 refl
log_stays (Done false) status words input old new is logs not_0 not_5 not_6 = absurd (not_0 is)
log_stays (WriteFault sent) status words input old new is logs not_0 not_5 not_6 = absurd (not_5 is)
log_stays OutOfMemory status words input old new is logs not_0 not_5 not_6 = absurd (not_6 is)
log_stays (Usage fault) status words input old new is logs not_0 not_5 not_6 = logs
log_stays (Refused refusal) status words input old new is logs not_0 not_5 not_6 = logs
log_stays (ReadFault taken) status words input old new is logs not_0 not_5 not_6 = logs
