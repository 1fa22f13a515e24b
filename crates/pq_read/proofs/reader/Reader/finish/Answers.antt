use Rattle.std.proofs.Common.{◌≡◌, Err, ◌+◌, ◌≤◌, List, ℕ, length, sym, ◌∙◌, subst, arith}
use Rattle.std.specs.Prelude.{IfOk, IfErr}
use Rattle.pq_text.specs.WellFormed.{WellFormed}
use Rattle.pq_read.specs.Environment.{view}
use Rattle.pq_read.specs.Drafts.{env_of}
use Rattle.pq_read.specs.Begins.{position_of}
use Rattle.pq_read.specs.Reads.{read_of, Reads, IsRefusedFor}
use Rattle.pq_read.specs.Feeding.{ReaderView, StandsFor, standing_of, IsHeld}
use Rattle.pq_read.proofs.Fed.{finish_ok, finish_formed, finish_fails, whole_fault}
use Rattle.pq_read.proofs.reader.Reader.finish.Goals as goal

pub read_last-requires-clause-fits : goal.read_last-requires-clause-fits
read_last-requires-clause-fits c =
    let few : c.self.inside.fed ≤ 67108864 = c.self.invariant.0 in
    let held = subst (IsHeld c.self.inside.fed) c.in-Reading.is c.self.invariant.1 in
    let within : c.in-Reading.begun.line + (c.in-Reading.begun.column + length c.in-Reading.begun.bytes.items) ≤ c.self.inside.fed + 2 = held.1.within in
    omega arith

pub returns-in-Reading-clause-read : goal.returns-in-Reading-clause-read
returns-in-Reading-clause-read c =
    let result = c.read_last.result in
    let same = (λ i. record { options = c.self.inside.options; fed = c.self.inside.fed; standing = standing_of (sym c.in-Reading.is i) }) ∙ c.self.view_is in
    subst (λ (r : ReaderView). IfOk result (λ p. (text : List ℕ) → StandsFor r text → Reads text r.options (view p))) same
    (finish_ok result c.self.inside.options c.self.inside.fed (env_of c.in-Reading.draft) (position_of c.in-Reading.begun) c.read_last.ensures)

pub returns-in-Reading-clause-well_formed : goal.returns-in-Reading-clause-well_formed
returns-in-Reading-clause-well_formed c =
    let result = c.read_last.result in
    let same = (λ i. record { options = c.self.inside.options; fed = c.self.inside.fed; standing = standing_of (sym c.in-Reading.is i) }) ∙ c.self.view_is in
    subst (λ (r : ReaderView). IfOk result (λ p. (text : List ℕ) → StandsFor r text → WellFormed (view p))) same
    (finish_formed result c.self.inside.options c.self.inside.fed (env_of c.in-Reading.draft) (position_of c.in-Reading.begun) c.read_last.ensures)

pub returns-in-Reading-clause-refused : goal.returns-in-Reading-clause-refused
returns-in-Reading-clause-refused c =
    let result = c.read_last.result in
    let same = (λ i. record { options = c.self.inside.options; fed = c.self.inside.fed; standing = standing_of (sym c.in-Reading.is i) }) ∙ c.self.view_is in
    subst (λ (r : ReaderView). IfErr result (λ e. (text : List ℕ) → StandsFor r text → IsRefusedFor text r.options e)) same
    (finish_fails result c.self.inside.options c.self.inside.fed (env_of c.in-Reading.draft) (position_of c.in-Reading.begun) c.read_last.ensures)

pub returns-in-Refused-clause-refused : goal.returns-in-Refused-clause-refused
returns-in-Refused-clause-refused c =
    let same = (λ i. record { options = c.self.inside.options; fed = c.self.inside.fed; standing = standing_of (sym c.in-Refused.is i) }) ∙ c.self.view_is in
    subst (λ (r : ReaderView). (text : List ℕ) → StandsFor r text → read_of text r.options ≡ Err c.in-Refused.refusal) same
    (whole_fault c.self.inside.options c.self.inside.fed c.in-Refused.refusal)
