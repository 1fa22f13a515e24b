-- What is begun with a piece behind it.
use Rattle.std.proofs.Common.{◌≡◌, ℕ, ◌+◌, ◌≤◌, List, [], ◌++◌, length, take, drop, sym, ap, ◌∙◌, subst, arith, length-append}
use Rattle.std.proofs.lemmas.List.{append_assoc, take-append-drop}
use Rattle.pq_lex.specs.declared.ends.Mode.{Mode}
use Rattle.pq_lex.specs.declared.ends.Mode.TheVariants.{Code}
use Rattle.pq_lex.specs.Lex.{tokens}
use Rattle.pq_lex.specs.Ends.{mode_after, IsEnded}
use Rattle.pq_lex.proofs.Ending.{ended_after, mode_after-append, mode_ended}
use Rattle.pq_read.specs.declared.begun.Begun.{Begun}
use Rattle.pq_read.specs.declared.refusal.ReadError.{ReadError}
use Rattle.pq_read.specs.declared.refusal.ReadError.TheVariants as errors
use Rattle.pq_read.specs.declared.program.Options.{Options}
use Rattle.pq_read.specs.Environment.{Env}
use Rattle.pq_read.specs.Reads.{read_tokens}
use Rattle.pq_read.specs.Begins.{position_of, joined, IsBegun, AreSettled}
use Rattle.pq_read.specs.Leads.{Leads, FailsAt, IsWithin}

-- a piece that ends no statement
pub begun_grown : (old new : Begun) (piece : List ℕ) (m : Mode) → 1 ≤ old.column → old.mode ≡ mode_after Code old.bytes.items → AreSettled (joined old piece) (position_of new) → new.mode ≡ m → m ≡ mode_after old.mode piece
    → IsBegun (old.line + (old.column + (length old.bytes.items + length piece))) new
begun_grown old new piece m column was s is behind =
    let len : length (old.bytes.items ++ piece) ≡ length old.bytes.items + length piece = length-append old.bytes.items piece in
    let place : new.line + (new.column + length new.bytes.items) ≤ old.line + (old.column + length (old.bytes.items ++ piece)) = s.place in
    record {
      column = s.column;
      within = omega arith;
      mode = is ∙ (behind ∙ (ap (λ k. mode_after k piece) was ∙ (sym (mode_after-append Code old.bytes.items piece) ∙ sym s.mode)));
    }

-- the prefix of a piece up to its last end
pub front_ended : (b : Begun) (piece front : List ℕ) (count : ℕ) → b.mode ≡ mode_after Code b.bytes.items → front ≡ take count piece → IsEnded b.mode (take count piece) → IsEnded Code (b.bytes.items ++ front)
front_ended b piece front count was is ended =
    ended_after Code b.bytes.items front (subst (λ k. IsEnded k front) was (subst (IsEnded b.mode) (sym is) ended))

halves : (piece front back : List ℕ) (count : ℕ) → front ≡ take count piece → back ≡ drop count piece → piece ≡ front ++ back
halves piece front back count f b = sym ((λ i. f i ++ b i) ∙ take-append-drop count piece)

regrouped : (bytes piece front back more : List ℕ) → piece ≡ front ++ back → (bytes ++ piece) ++ more ≡ (bytes ++ front) ++ (back ++ more)
regrouped bytes piece front back more is =
    ap (λ l. (bytes ++ l) ++ more) is ∙ (ap (λ l. l ++ more) (sym (append_assoc bytes front back)) ∙ append_assoc (bytes ++ front) back more)

pub front_fails : (error : ReadError) (options : Options) (E : Env) (b : Begun) (piece front back : List ℕ) (count : ℕ) → front ≡ take count piece → back ≡ drop count piece
    → FailsAt options E (joined b front) error → FailsAt options E (joined b piece) error
front_fails errors.OutOfMemory options E b piece front back count f k h = tt
front_fails (errors.Refused fault) options E b piece front back count f k h =
    λ more. ap (λ l. read_tokens options E (tokens (record { rest = l; line = b.line; column = b.column }))) (regrouped b.bytes.items piece front back more (halves piece front back count f k)) ∙ h (back ++ more)

pub piece_leads : (options : Options) (E F : Env) (old new : Begun) (piece front back : List ℕ) (count line column : ℕ) → front ≡ take count piece → back ≡ drop count piece
    → Leads options E (joined old front) F (record { rest = []; line = line; column = column }) → AreSettled (record { rest = back; line = line; column = column }) (position_of new)
    → Leads options E (joined old piece) F (position_of new)
piece_leads options E F old new piece front back count line column f k leads s =
    λ more. ap (λ l. read_tokens options E (tokens (record { rest = l; line = old.line; column = old.column }))) (regrouped old.bytes.items piece front back more (halves piece front back count f k))
    ∙ (leads (back ++ more) ∙ ap (read_tokens options F) (sym (s.same more)))

pub begun_behind : (old new : Begun) (piece front back : List ℕ) (count line column : ℕ) (m : Mode) → front ≡ take count piece → back ≡ drop count piece → IsEnded old.mode (take count piece)
    → IsWithin (line, column) (old.line + (old.column + (length old.bytes.items + length front))) → AreSettled (record { rest = back; line = line; column = column }) (position_of new)
    → new.mode ≡ m → m ≡ mode_after old.mode piece → IsBegun (old.line + (old.column + (length old.bytes.items + length piece))) new
begun_behind old new piece front back count line column m f k ended within s is behind =
    let all : piece ≡ front ++ back = halves piece front back count f k in
    let len : length piece ≡ length front + length back = ap length all ∙ length-append front back in
    let place : new.line + (new.column + length new.bytes.items) ≤ line + (column + length back) = s.place in
    let before : line + column ≤ old.line + (old.column + (length old.bytes.items + length front)) = within.1 in
    let code : mode_after old.mode front ≡ Code = ap (mode_after old.mode) f ∙ mode_ended old.mode (take count piece) ended in
    record {
      column = s.column;
      within = omega arith;
      mode = is ∙ (behind ∙ (ap (mode_after old.mode) all ∙ (mode_after-append old.mode front back ∙ (ap (λ j. mode_after j back) code ∙ sym s.mode))));
    }
