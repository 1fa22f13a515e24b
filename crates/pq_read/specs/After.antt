-- What a statement adds to what has been read, or its first fault.
use Rattle.std.specs.Prelude.{ℕ, zero, suc, ◌+◌, Bool, true, not, ◌&&◌, ◌||◌, ◌==◌, nat_lt, List, [], ◌∷◌, ◌++◌, length, Result, Ok, Err, codes, bytes_eq, is_some, if◌then◌else◌}
use Rattle.std.specs.List.{list_any}
use Rattle.pq_lex.specs.declared.token.Form.TheVariants.{Word, Number, Quoted, Semicolon, Comma, LeftBracket, RightBracket, Arrow, Malformed}
use Rattle.pq_lex.specs.Token.{TokenView}
use Rattle.pq_limits.specs.declared.TheConstants.{MAX_NAME, MAX_PLACES, MAX_GATES, MAX_ENTRIES}
use Rattle.pq_gate.specs.declared.gate.Gate.{Gate}
use Rattle.pq_text.specs.Program.{RegisterView, TailView, ProgramView, places_of, entries_of}
use Rattle.pq_text.specs.Program as view
use Rattle.pq_read.specs.declared.refusal.Kind.{Kind}
use Rattle.pq_read.specs.declared.refusal.Kind.TheVariants.{NoHeader, BadToken, Syntax, UnknownGate, RepeatedName, SizeMismatch, Unsupported, GateAfterMeasure, BarrierInside, BadSize, TooManyQubits, TooManyGates, TooManyBits, TailTooLong, NameTooLong}
use Rattle.pq_read.specs.declared.refusal.Refusal.{Refusal}
use Rattle.pq_read.specs.declared.program.Options.{Options}
use Rattle.pq_read.specs.declared.argument.Argument.{Argument}
use Rattle.pq_read.specs.declared.word.GateWord.{GateWord}
use Rattle.pq_read.specs.declared.word.FirstWord.{FirstWord}
use Rattle.pq_read.specs.declared.word.FirstWord.TheVariants.{Include, Qreg, Creg, Barrier, Measure, Gate as KnownGate, Unsupported as UnsupportedWord, Unknown}
use Rattle.pq_read.specs.Lists.{each_below}
use Rattle.pq_read.specs.Faults.{◌>>=◌, Reading, required, refused, unexpected, is_form, head, demanded, integer_at, value_of}
use Rattle.pq_read.specs.Words.{is_name, more_arguments, first_word}
use Rattle.pq_read.specs.Environment.{Env, span_from, is_measurement}
use Rattle.pq_read.specs.Arguments.{argument_at, arguments_at}
use Rattle.pq_read.specs.Expansion.{gates_of}

-- `OPENQASM 2.0;`
abbrev pub begins_header : TokenView → Bool
begins_header t = is_form Word t && bytes_eq (codes "OPENQASM") t.bytes

abbrev pub header_word : List TokenView → Reading TokenView
header_word [] = Err (refused NoHeader (head []))
header_word (t ∷ ts) = if begins_header t then Ok (t, ts) else if is_form Malformed t then Err (refused BadToken t) else Err (refused NoHeader t)

unfoldable pub header_at : List TokenView → Reading (Unit {0})
header_at ts = do
  t ← header_word ts
  n ← demanded Number t.1
  two ← required (bytes_eq (codes "2.0") n.0.bytes) (refused Unsupported n.0)
  e ← demanded Semicolon n.1
  Ok (tt, e.1)

-- `"qelib1.inc";` after `include`
unfoldable pub include_at : List TokenView → Reading (Unit {0})
include_at ts = do
  s ← demanded Quoted ts
  file ← required (bytes_eq (codes "\"qelib1.inc\"") s.0.bytes) (refused Unsupported s.0)
  e ← demanded Semicolon s.1
  Ok (tt, e.1)

-- the name of a new register
abbrev pub is_taken : List RegisterView → List RegisterView → List ℕ → Bool
is_taken qregs cregs name = is_some (span_from 0 qregs name) || is_some (span_from 0 cregs name)

abbrev pub new_name : List RegisterView → List RegisterView → TokenView → Result (List ℕ) Refusal
new_name qregs cregs t =
    if not (is_name t.bytes) then Err (refused Syntax t)
    else if nat_lt MAX_NAME (length t.bytes) then Err (refused NameTooLong t)
    else if is_taken qregs cregs t.bytes then Err (refused RepeatedName t)
    else Ok t.bytes

-- the size of a new register beside those of its kind, of which there may be so many places
abbrev pub new_size : Kind → List RegisterView → TokenView → Result ℕ Refusal
new_size too_many regs t =
    if value_of t == 0 then Err (refused BadSize t)
    else if nat_lt MAX_PLACES (places_of regs + value_of t) then Err (refused too_many t)
    else Ok (value_of t)

-- `NAME[SIZE];` after `qreg` or `creg`: the register beside those of all kinds, and how many of its kind
-- there may be no more of
unfoldable pub declared_at : Kind → List RegisterView → List RegisterView → List RegisterView → List TokenView → Reading RegisterView
declared_at too_many qregs cregs regs ts = do
  n ← demanded Word ts
  name ← new_name qregs cregs n.0
  b ← demanded LeftBracket n.1
  i ← integer_at b.1
  size ← new_size too_many regs i.0
  c ← demanded RightBracket i.1
  e ← demanded Semicolon c.1
  Ok (record { name = name; size = size }, e.1)

-- whether a gate may come now, by the tail
abbrev pub allowed : Options → List TailView → TokenView → Result (Unit {0}) Refusal
allowed options tail t =
    if list_any is_measurement tail then Err (refused GateAfterMeasure t)
    else if not options.drop_barriers && nat_lt 0 (length tail) then Err (refused BarrierInside t)
    else Ok tt

abbrev pub within_gates : List Gate → List Gate → TokenView → Result (Unit {0}) Refusal
within_gates old new e = if nat_lt MAX_GATES (length old + length new) then Err (refused TooManyGates e) else Ok tt

-- the arguments of a known gate and the `;`: the gates with those of the statement
unfoldable pub gate_at : GateWord → List RegisterView → List Gate → List TokenView → Reading (List Gate)
gate_at word qregs gates ts = do
  a ← arguments_at qregs (more_arguments word) ts
  e ← demanded Semicolon a.1
  room ← within_gates gates (gates_of word a.0) e.0
  Ok (gates ++ gates_of word a.0, e.1)

-- each wire once, at its first appearance
abbrev pub adjoined : List ℕ → ℕ → List ℕ
adjoined wires w = if list_any (λ v. v == w) wires then wires else wires ++ w ∷ []

abbrev pub adjoined_below : List ℕ → ℕ → ℕ → List ℕ
adjoined_below wires first zero = wires
adjoined_below wires first (suc n) = adjoined (adjoined_below wires first n) (first + n)

-- How many tokens an argument has.
abbrev pub argument_tokens : Argument → ℕ
argument_tokens a = if a.whole then 1 else 4

-- The wires of a barrier: those so far and the ones of the arguments from here on, where some tokens at
-- the start still belong to what stands before.
unfoldable pub barrier_wires : List RegisterView → List ℕ → ℕ → List TokenView → Reading (List ℕ)
barrier_wires regs wires within [] = Err (unexpected (head []))
barrier_wires regs wires (suc within) (t ∷ ts) = barrier_wires regs wires within ts
barrier_wires regs wires zero (t ∷ ts) = do
  a ← argument_at regs (t ∷ ts)
  if is_form Comma (head a.1) then barrier_wires regs (adjoined_below wires a.0.first a.0.count) (argument_tokens a.0) ts else Ok (adjoined_below wires a.0.first a.0.count, a.1)

abbrev pub within_tail : List TailView → ℕ → TokenView → Result (Unit {0}) Refusal
within_tail tail more e = if nat_lt MAX_ENTRIES (entries_of tail + more) then Err (refused TailTooLong e) else Ok tt

-- the arguments of a barrier and the `;`: the tail with it
unfoldable pub barrier_at : List RegisterView → List TailView → List TokenView → Reading (List TailView)
barrier_at qregs tail ts = do
  w ← barrier_wires qregs [] 0 ts
  e ← demanded Semicolon w.1
  room ← within_tail tail (length w.0) e.0
  Ok (tail ++ view.Barrier w.0 ∷ [], e.1)

-- the measurements of the places of one argument into those of another
abbrev pub measurements : Argument → Argument → List TailView
measurements a b = each_below a.count (λ k. view.Measure (a.first + k) (b.first + k) ∷ [])

abbrev pub paired : Argument → Argument → Result (Unit {0}) Refusal
paired a b = if a.count == b.count then Ok tt else Err (record { kind = SizeMismatch; line = b.line; column = b.column })

-- the arguments of `measure` and the `;`: the tail with the measurements
unfoldable pub measure_at : List RegisterView → List RegisterView → List TailView → List TokenView → Reading (List TailView)
measure_at qregs cregs tail ts = do
  a ← argument_at qregs ts
  m ← demanded Arrow a.1
  b ← argument_at cregs m.1
  one ← paired a.0 b.0
  e ← demanded Semicolon b.1
  room ← within_tail tail a.0.count e.0
  Ok (tail ++ measurements a.0 b.0, e.1)

-- what is read so far with something more
abbrev pub with_program : Env → ProgramView → Env
with_program E p = record { header = E.header; included = E.included; program = p }

abbrev pub with_qreg : Env → RegisterView → Env
with_qreg E r = with_program E (record { qregs = E.program.qregs ++ r ∷ []; cregs = E.program.cregs; gates = E.program.gates; tail = E.program.tail })

abbrev pub with_creg : Env → RegisterView → Env
with_creg E r = with_program E (record { qregs = E.program.qregs; cregs = E.program.cregs ++ r ∷ []; gates = E.program.gates; tail = E.program.tail })

-- a gate statement takes the barriers before it out of the tail
abbrev pub with_gates : Env → List Gate → Env
with_gates E gates = with_program E (record { qregs = E.program.qregs; cregs = E.program.cregs; gates = gates; tail = [] })

abbrev pub with_tail : Env → List TailView → Env
with_tail E tail = with_program E (record { qregs = E.program.qregs; cregs = E.program.cregs; gates = E.program.gates; tail = tail })

-- a value that was read, put to use; the tokens after it are left
abbrev pub put : {A : Type 0} → Reading A → (A → Env) → Reading Env
put reading f = reading >>= λ x. Ok (f x.0, x.1)

-- a statement by its first word
abbrev pub statement_by : FirstWord → Options → Env → TokenView → List TokenView → Reading Env
statement_by Include options E t ts = put (include_at ts) (λ _. record { header = E.header; included = true; program = E.program })
statement_by Qreg options E t ts = put (declared_at TooManyQubits E.program.qregs E.program.cregs E.program.qregs ts) (with_qreg E)
statement_by Creg options E t ts = put (declared_at TooManyBits E.program.qregs E.program.cregs E.program.cregs ts) (with_creg E)
statement_by Barrier options E t ts = put (barrier_at E.program.qregs E.program.tail ts) (with_tail E)
statement_by Measure options E t ts = put (measure_at E.program.qregs E.program.cregs E.program.tail ts) (with_tail E)
statement_by (KnownGate word) options E t ts = allowed options E.program.tail t >>= λ _. put (gate_at word E.program.qregs E.program.gates ts) (with_gates E)
statement_by UnsupportedWord options E t ts = Err (refused Unsupported t)
statement_by Unknown options E t ts = Err (refused UnknownGate t)

unfoldable pub statement_at : Options → Env → List TokenView → Reading Env
statement_at options E ts = demanded Word ts >>= λ t. statement_by (first_word E.included t.0.bytes) options E t.0 t.1

-- what has been read after a piece or the rest of a text, or the first fault in it
unfoldable pub piece_at : Options → Env → List TokenView → Reading Env
piece_at options E ts = if E.header then statement_at options E ts else put (header_at ts) (λ _. record { header = true; included = E.included; program = E.program })

abbrev pub after : Options → Env → List TokenView → Result Env Refusal
after options E ts = piece_at options E ts >>= λ x. Ok x.0
