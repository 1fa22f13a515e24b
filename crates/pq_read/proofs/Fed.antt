-- A reader and the text that was fed to it.
use Rattle.std.proofs.Common.{◌≡◌, ℕ, ◌+◌, List, [], ◌++◌, length, Result, Ok, Err, refl, sym, ap, ◌∙◌, subst, arith, length-append, append-nil}
use Rattle.std.specs.Prelude.{IfOk, IfErr}
use Rattle.std.proofs.lemmas.List.{append_assoc}
use Rattle.pq_text.specs.WellFormed.{WellFormed}
use Rattle.pq_read.specs.declared.program.Program.{Program}
use Rattle.pq_read.specs.declared.refusal.ReadError.{ReadError}
use Rattle.pq_read.specs.Gives.{Gives}
use Rattle.pq_read.proofs.Kept.{reads_well_formed}
use Rattle.pq_lex.specs.Lex.{Position, tokens}
use Rattle.pq_lex.specs.Added.{extended}
use Rattle.pq_read.specs.declared.refusal.Refusal.{Refusal}
use Rattle.pq_read.specs.declared.refusal.ReadError.TheVariants as errors
use Rattle.pq_read.specs.declared.program.Options.{Options}
use Rattle.pq_read.specs.Environment.{Env, start, view}
use Rattle.pq_read.specs.Reads.{read_tokens, read_of, Reads, IsRefusedFor}
use Rattle.pq_read.specs.Leads.{Leads, FailsAt}
use Rattle.pq_read.specs.Feeding.{Before, AtFault, ReaderView, StandsFor}

pub fed_nothing : (options : Options) (E : Env) (p : Position) → E ≡ start → p ≡ record { rest = []; line = 1; column = 1 }
    → StandsFor (record { options = options; fed = 0; standing = Before E p }) []
unfolding read_of
fed_nothing options E p e place = record {
  counted = refl;
  read = λ more. λ i. read_tokens options (sym e i) (tokens (extended (sym place i) more));
}

-- the number of bytes with those of a piece
counted : (fed : ℕ) (text piece : List ℕ) → fed ≡ length text → fed + length piece ≡ length (text ++ piece)
counted fed text piece is = let len : length (text ++ piece) ≡ length text + length piece = length-append text piece in omega arith

-- a piece that is read
pub fed_piece : (options : Options) (fed : ℕ) (E F : Env) (p q : Position) (text piece : List ℕ)
    → Leads options E (record { rest = p.rest ++ piece; line = p.line; column = p.column }) F q
    → StandsFor (record { options = options; fed = fed; standing = Before E p }) text
    → StandsFor (record { options = options; fed = fed + length piece; standing = Before F q }) (text ++ piece)
fed_piece options fed E F p q text piece leads s = record {
  counted = counted fed text piece s.counted;
  read = λ more. ap (λ l. read_of l options) (append_assoc text piece more)
      ∙ (s.read (piece ++ more)
      ∙ (ap (λ l. read_tokens options E (tokens (record { rest = l; line = p.line; column = p.column }))) (sym (append_assoc p.rest piece more)) ∙ leads more));
}

-- a piece with a fault
pub fed_fault : (options : Options) (fed : ℕ) (E : Env) (p : Position) (fault : Refusal) (text piece : List ℕ)
    → FailsAt options E (record { rest = p.rest ++ piece; line = p.line; column = p.column }) (errors.Refused fault)
    → StandsFor (record { options = options; fed = fed; standing = Before E p }) text
    → StandsFor (record { options = options; fed = fed + length piece; standing = AtFault fault }) (text ++ piece)
fed_fault options fed E p fault text piece fails s = record {
  counted = counted fed text piece s.counted;
  read = λ more. ap (λ l. read_of l options) (append_assoc text piece more)
      ∙ (s.read (piece ++ more)
      ∙ (ap (λ l. read_tokens options E (tokens (record { rest = l; line = p.line; column = p.column }))) (sym (append_assoc p.rest piece more)) ∙ fails more));
}

-- a piece behind a fault
pub fed_behind : (options : Options) (fed : ℕ) (fault : Refusal) (text piece : List ℕ)
    → StandsFor (record { options = options; fed = fed; standing = AtFault fault }) text
    → StandsFor (record { options = options; fed = fed + length piece; standing = AtFault fault }) (text ++ piece)
fed_behind options fed fault text piece s = record {
  counted = counted fed text piece s.counted;
  read = λ more. ap (λ l. read_of l options) (append_assoc text piece more) ∙ s.read (piece ++ more);
}

-- the whole text
pub whole_text : (options : Options) (fed : ℕ) (E : Env) (p : Position) (text : List ℕ) → StandsFor (record { options = options; fed = fed; standing = Before E p }) text
    → read_of text options ≡ read_tokens options E (tokens p)
whole_text options fed E p text s =
    ap (λ l. read_of l options) (sym (append-nil text))
    ∙ (s.read [] ∙ ap (λ l. read_tokens options E (tokens (record { rest = l; line = p.line; column = p.column }))) (append-nil p.rest))

pub whole_fault : (options : Options) (fed : ℕ) (fault : Refusal) (text : List ℕ) → StandsFor (record { options = options; fed = fed; standing = AtFault fault }) text
    → read_of text options ≡ Err fault
whole_fault options fed fault text s = ap (λ l. read_of l options) (sym (append-nil text)) ∙ s.read []

-- what `finish` answers
pub finish_ok : (result : Result Program ReadError) (options : Options) (fed : ℕ) (E : Env) (p : Position) → Gives view result (read_tokens options E (tokens p))
    → IfOk result (λ q. (text : List ℕ) → StandsFor (record { options = options; fed = fed; standing = Before E p }) text → Reads text options (view q))
finish_ok (Ok q) options fed E p h = λ text s. whole_text options fed E p text s ∙ h
finish_ok (Err e) options fed E p h = tt

pub finish_formed : (result : Result Program ReadError) (options : Options) (fed : ℕ) (E : Env) (p : Position) → Gives view result (read_tokens options E (tokens p))
    → IfOk result (λ q. (text : List ℕ) → StandsFor (record { options = options; fed = fed; standing = Before E p }) text → WellFormed (view q))
finish_formed (Ok q) options fed E p h = λ text s. reads_well_formed text options (view q) (whole_text options fed E p text s ∙ h)
finish_formed (Err e) options fed E p h = tt

pub finish_fails : (result : Result Program ReadError) (options : Options) (fed : ℕ) (E : Env) (p : Position) → Gives view result (read_tokens options E (tokens p))
    → IfErr result (λ e. (text : List ℕ) → StandsFor (record { options = options; fed = fed; standing = Before E p }) text → IsRefusedFor text options e)
finish_fails (Ok q) options fed E p h = tt
finish_fails (Err errors.OutOfMemory) options fed E p h = λ text s. tt
finish_fails (Err (errors.Refused f)) options fed E p h = λ text s. whole_text options fed E p text s ∙ h

-- the answers for one text
pub of_ok : (result : Result Program ReadError) (r : ReaderView) (options : Options) (text : List ℕ) → r.options ≡ options → StandsFor r text
    → IfOk result (λ q. (text : List ℕ) → StandsFor r text → Reads text r.options (view q)) → IfOk result (λ q. Reads text options (view q))
of_ok (Ok q) r options text is s h = ap (read_of text) (sym is) ∙ h text s
of_ok (Err e) r options text is s h = tt

pub of_formed : (result : Result Program ReadError) (r : ReaderView) (text : List ℕ) → StandsFor r text
    → IfOk result (λ q. (text : List ℕ) → StandsFor r text → WellFormed (view q)) → IfOk result (λ q. WellFormed (view q))
of_formed (Ok q) r text s h = h text s
of_formed (Err e) r text s h = tt

pub of_fails : (result : Result Program ReadError) (r : ReaderView) (options : Options) (text : List ℕ) → r.options ≡ options → StandsFor r text
    → IfErr result (λ e. (text : List ℕ) → StandsFor r text → IsRefusedFor text r.options e) → IfErr result (IsRefusedFor text options)
of_fails (Ok q) r options text is s h = tt
of_fails (Err e) r options text is s h = subst (λ (o : Options). IsRefusedFor text o e) is (h text s)
