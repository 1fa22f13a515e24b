-- What a status says, from what came of the work.
use Rattle.std.proofs.Common.{◌≡◌, ℕ, ◌+◌, ◌≤◌, Bool, true, false, List, Option, None, Some, Err, refl, sym, ap, subst, ◌∙◌, inl, inr, arith}
use Rattle.std.specs.Prelude.{IfSome}
use Rattle.pq_limits.specs.declared.TheConstants.{MAX_INPUT}
use Rattle.pq_io.specs.Whole.{ReadsToEnd, TakesFirst}
use Rattle.pq_read.specs.declared.program.Options.{Options}
use Rattle.pq_read.specs.Reads.{Reads, Refused as RefusedFor}
use Rattle.pq_command.specs.declared.fault.UsageFault.{UsageFault}
use Rattle.pq_command.specs.declared.settings.Settings.{Settings}
use Rattle.pq_command.specs.Asked.{asked}
use Rattle.pq_top.specs.declared.answer.Answer.{Answer}
use Rattle.pq_top.specs.declared.answer.Answer.TheVariants.{Done, Usage, Refused, ReadFault, WriteFault, OutOfMemory}
use Rattle.pq_top.specs.declared.answer.Refusal.{Refusal}
use Rattle.pq_top.specs.declared.answer.Refusal.TheVariants.{Text, TooLong}
use Rattle.pq_top.specs.Device.{Moved, HasFaulted, Noted}
use Rattle.pq_top.specs.Outputs.{IsAccepted}
use Rattle.pq_command.specs.declared.settings.Settings.TheVariants as settings
use Rattle.pq_top.specs.Request.{AskFor, AskToRead, AskToMake, reads_by}
use Rattle.pq_top.specs.Outputs.{Makes}
use Rattle.pq_top.specs.Answers.{Refuses, IsRefused, IsDone, IsDoneUnlessMemory, IsMadeUnlessMemory}
use Rattle.pq_top.specs.Work.{Means, status_of, status_by, note_line}

-- the status of work that was done is 0 or 1
found_below : (found : Bool) → status_by found ≤ 1
found_below true = omega arith
found_below false = omega arith

pub refused : (answer : Answer) (words : List (List ℕ)) (input output notes : Moved) → Means words input output answer →
    Noted notes (note_line answer) → status_of answer ≡ 3 → IsRefused words input notes
refused (Refused refusal) words input output notes means noted e =
    record { refusal = refusal; refused = means; noted = noted }
refused (Done found) words input output notes means noted e = absurd (omega (arith, found_below found))
refused _ words input output notes means noted e = absurd (omega arith)

-- When a status comes.

done_or_memory : (words : List (List ℕ)) (input output : Moved) (found : Bool) → IsDone words input output (status_by found) →
    IsDoneUnlessMemory words input output (status_by found)
done_or_memory words input output false done = inl (refl, done)
done_or_memory words input output true done = inr (inl (refl, done))

-- words that ask for something have no fault
not_faulty : {B : Type 0} (words : List (List ℕ)) (wanted : Settings) (fault : UsageFault) → AskFor words wanted → asked words ≡ Err fault → B
not_faulty words wanted fault asks is = absurd (cc)

-- the same words ask for the same settings, and so read in the same way
same_settings : (words : List (List ℕ)) (one other : Settings) → AskFor words one → AskFor words other → one ≡ other
same_settings words one other asks asks_too = cc

same_reading : (words : List (List ℕ)) (one : Settings) (options : Options) → AskFor words one → AskToRead words options → reads_by one ≡ Some options
same_reading words one options asks reads =
    let e : one ≡ reads.0 = same_settings words one reads.0 asks reads.1 in ap reads_by e ∙ reads.2

same_options : (words : List (List ℕ)) (one other : Options) → AskToRead words one → AskToRead words other → one ≡ other
same_options words one other asks asks_too =
    let e : reads_by asks.0 ≡ Some other = same_reading words asks.0 other asks.1 asks_too in
    let f : reads_by asks.0 ≡ Some one = asks.2 in cc

-- the text that was read to its end is that which was left
text_left : (before after : Option (List ℕ)) (limit : ℕ) (text left : List ℕ) → before ≡ Some left → ReadsToEnd before after limit text → text ≡ left
text_left before after limit text left e reads =
    let P : Option (List ℕ) → Type 0 = λ o. ReadsToEnd o after limit text in
    let there : ReadsToEnd (Some left) after limit text = subst P e reads in there.taken.0

-- a text that is accepted isn't refused
not_refused : {B : Type 0} (refusal : Refusal) (input : Moved) (options : Options) (left : List ℕ) → Refuses options input refusal →
    input.before ≡ Some left → IsAccepted options left → B
not_refused TooLong input options left refuses e good =
    let P : Option (List ℕ) → Type 0 = λ o. TakesFirst o input.after (MAX_INPUT + 1) in
    let there : TakesFirst (Some left) input.after (MAX_INPUT + 1) = subst P e refuses in
    absurd (omega (arith, there.0, good.within))
not_refused (Text fault) input options left refuses e good =
    let all : refuses.0 ≡ left = text_left input.before input.after MAX_INPUT refuses.0 left e refuses.1 in
    let Q : List ℕ → Type 0 = λ l. RefusedFor l options fault.kind fault.line fault.column in
    let there : RefusedFor left options fault.kind fault.line fault.column = subst Q all refuses.2 in
    let read : Reads left options good.program = good.read in
    absurd (cc)

done_then : (answer : Answer) (words : List (List ℕ)) (input output : Moved) (options : Options) (left : List ℕ) → Means words input output answer →
    AskToRead words options → (HasFaulted input → ⊥) → (HasFaulted output → ⊥) → input.before ≡ Some left → IsAccepted options left →
    IsDoneUnlessMemory words input output (status_of answer)
done_then (Done found) words input output options left means asks calm quiet e good = done_or_memory words input output found means
done_then OutOfMemory words input output options left means asks calm quiet e good = inr (inr refl)
done_then (Usage fault) words input output options left means asks calm quiet e good = not_faulty words asks.0 fault asks.1 means
done_then (Refused refusal) words input output options left means asks calm quiet e good =
    let same : means.options ≡ options = same_options words means.options options means.asks asks in
    let P : Options → Type 0 = λ o. Refuses o input refusal in
    not_refused refusal input options left (subst P same means.refuses) e good
done_then (ReadFault taken) words input output options left means asks calm quiet e good = absurd (calm means.failed.rose)
done_then (WriteFault sent) words input output options left means asks calm quiet e good = absurd (quiet means.failed.rose)

-- whatever the source has left, where it tells it
where_told : (before : Option (List ℕ)) (P : List ℕ → Type 0) → ((left : List ℕ) → before ≡ Some left → P left) → IfSome before P
where_told None P holds = tt
where_told (Some left) P holds = holds left refl

pub done_comes : (answer : Answer) (status : ℕ) (words : List (List ℕ)) (input output : Moved) (options : Options) → status ≡ status_of answer →
    Means words input output answer → AskToRead words options → (HasFaulted input → ⊥) → (HasFaulted output → ⊥) →
    IfSome input.before (λ text. IsAccepted options text → IsDoneUnlessMemory words input output status)
done_comes answer status words input output options is means asks calm quiet =
    where_told input.before (λ text. IsAccepted options text → IsDoneUnlessMemory words input output status)
    (λ left e good. subst (IsDoneUnlessMemory words input output) (sym is) (done_then answer words input output options left means asks calm quiet e good))

-- a command that reads nothing makes its output with status 0
made_with_0 : (wanted : Settings) (text : List ℕ) (status : ℕ) (written : List ℕ) → reads_by wanted ≡ None → Makes wanted text status written → status ≡ 0
made_with_0 (settings.Opt omega workers drop_barriers) text status written none makes = makes.0
made_with_0 (settings.Check omega drop_barriers) text status written none makes = absurd (cc)
made_with_0 (settings.Gen seed qubits gates) text status written none makes = makes.0
made_with_0 (settings.Bench omega workers seed qubits gates) text status written none makes = makes.0

-- words that ask for such a command don't ask for one that reads
not_read : {B : Type 0} (words : List (List ℕ)) (options : Options) → AskToMake words → AskToRead words options → B
not_read words options asks reads =
    let way : reads_by asks.0 ≡ Some options = same_reading words asks.0 options asks.1 reads in
    let none : reads_by asks.0 ≡ None = asks.2 in absurd (cc)

made_then : (answer : Answer) (words : List (List ℕ)) (input output : Moved) → Means words input output answer → AskToMake words →
    (HasFaulted output → ⊥) → IsMadeUnlessMemory words input output (status_of answer)
made_then (Done found) words input output means asks quiet =
    let same : means.produces.wanted ≡ asks.0 = same_settings words means.produces.wanted asks.0 means.produces.asks asks.1 in
    let none : reads_by means.produces.wanted ≡ None = ap reads_by same ∙ asks.2 in
    let is_0 : status_by found ≡ 0 = made_with_0 means.produces.wanted means.produces.text (status_by found) means.written none means.produces.makes in
    inl (is_0, subst (IsDone words input output) is_0 means)
made_then OutOfMemory words input output means asks quiet = inr refl
made_then (Usage fault) words input output means asks quiet = not_faulty words asks.0 fault asks.1 means
made_then (Refused refusal) words input output means asks quiet = not_read words means.options asks means.asks
made_then (ReadFault taken) words input output means asks quiet = not_read words means.options asks means.asks
made_then (WriteFault sent) words input output means asks quiet = absurd (quiet means.failed.rose)

pub made_comes : (answer : Answer) (status : ℕ) (words : List (List ℕ)) (input output : Moved) → status ≡ status_of answer →
    Means words input output answer → AskToMake words → (HasFaulted output → ⊥) → IsMadeUnlessMemory words input output status
made_comes answer status words input output is means asks quiet =
    subst (IsMadeUnlessMemory words input output) (sym is) (made_then answer words input output means asks quiet)

-- Statuses 4 and 5 come of faults alone.

pub not_4 : (answer : Answer) (status : ℕ) (words : List (List ℕ)) (input output : Moved) → status ≡ status_of answer → Means words input output answer →
    (HasFaulted input → ⊥) → status ≡ 4 → ⊥
not_4 (ReadFault taken) status words input output is means calm is_4 = calm means.failed.rose
not_4 (Done found) status words input output is means calm is_4 = omega (arith, is, is_4, found_below found)
not_4 _ status words input output is means calm is_4 = omega (arith, is, is_4)

pub not_5 : (answer : Answer) (status : ℕ) (words : List (List ℕ)) (input output : Moved) → status ≡ status_of answer → Means words input output answer →
    (HasFaulted output → ⊥) → status ≡ 5 → ⊥
not_5 (WriteFault sent) status words input output is means quiet is_5 = quiet means.failed.rose
not_5 (Done found) status words input output is means quiet is_5 = omega (arith, is, is_5, found_below found)
not_5 _ status words input output is means quiet is_5 = omega (arith, is, is_5)
