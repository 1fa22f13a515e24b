-- What a source gives to a reader, piece by piece.
use Rattle.std.proofs.Common.{◌≡◌, ℕ, ◌+◌, ◌≤◌, inl, inr, List, [], ◌++◌, length, take, drop, Option, None, Some, refl, sym, ap, ◌∙◌, subst, arith, length-append, append-nil}
use Rattle.std.specs.Io.KnownBytes.{Consumes, Keeps, IsAtEnd}
use Rattle.std.proofs.KnownBytes.{Consumes-trans}
use Rattle.std.proofs.lemmas.List.{drop_at, length-take-le}
use Rattle.pq_limits.specs.declared.TheConstants.{MAX_INPUT}
use Rattle.pq_io.specs.Faults.{Rose}
use Rattle.pq_io.specs.Whole.{TakesFirst, ReadsToEnd, ReadsUpToFault}
use Rattle.pq_read.specs.Feeding.{ReaderView, StandsFor}
use Rattle.pq_top.specs.Device.{Moved}
use Rattle.pq_top.specs.Work.{HasFed}

-- The source gave some bytes, and the reader stands for them.
pub record HasTaken (before after : Option (List ℕ)) (r : ReaderView) : Type 0 where
  pub text : List ℕ
  pub taken : Consumes before after text
  pub stands : StandsFor r text

nothing : (before : Option (List ℕ)) → Consumes before before []
nothing None = tt
nothing (Some left) = refl

pub has_taken_nothing : (before : Option (List ℕ)) (r : ReaderView) → StandsFor r [] → HasTaken before before r
has_taken_nothing before r stands = record { text = []; taken = nothing before; stands = stands }

pub has_taken_more : (before between after : Option (List ℕ)) (old new : ReaderView) (piece : List ℕ) → HasTaken before between old → Consumes between after piece
    → ((text : List ℕ) → StandsFor old text → StandsFor new (text ++ piece)) → HasTaken before after new
has_taken_more before between after old new piece t more fed = record {
  text = t.text ++ piece;
  taken = Consumes-trans before between after _ _ t.taken more;
  stands = fed t.text t.stands;
}

at_end : (before after : Option (List ℕ)) (text : List ℕ) → Consumes before after text → IsAtEnd after → length text ≤ MAX_INPUT → ReadsToEnd before after MAX_INPUT text
at_end None after text taken ended few = record { within = few; taken = tt }
at_end (Some left) None text taken ended few = absurd taken
at_end (Some left) (Some rest) text taken ended few = record {
  within = few;
  taken = (sym (taken ∙ (ap (λ (l : List ℕ). text ++ l) ended ∙ append-nil text)), ap (λ (l : List ℕ). let o : Option (List ℕ) = Some l in o) ended);
}

-- the source is at its end
pub has_fed : (input : Moved) (between : Option (List ℕ)) (r : ReaderView) (room : List ℕ) (count : ℕ) → HasTaken input.before between r → Consumes between input.after (take count room) → count ≡ 0
    → IsAtEnd input.after → r.fed ≤ MAX_INPUT → HasFed input r
has_fed input between r room count t more none ended few =
    let nothing_more : Consumes between input.after [] = subst (λ k. Consumes between input.after (take k room)) none more in
    let all : Consumes input.before input.after t.text = subst (Consumes input.before input.after) (append-nil t.text) (Consumes-trans input.before between input.after t.text [] t.taken nothing_more) in
    let counted : r.fed ≡ length t.text = t.stands.counted in
    record { text = t.text; reads = at_end input.before input.after t.text all ended (omega arith); stands = t.stands }

takes_first : (before after : Option (List ℕ)) (text : List ℕ) (count : ℕ) → Consumes before after text → count ≡ length text → TakesFirst before after count
takes_first None after text count taken is = tt
takes_first (Some left) None text count taken is = absurd taken
takes_first (Some left) (Some rest) text count taken is =
    let len : length left ≡ length text + length rest = ap length taken ∙ length-append text rest in (
      omega arith,
      ap (λ (l : List ℕ). let o : Option (List ℕ) = Some l in o) (sym (ap (drop count) taken ∙ drop_at text rest count (sym is))),
    )

-- the source gave one byte past the limit
pub gives_too_many : (before between after : Option (List ℕ)) (r : ReaderView) (room : List ℕ) (count : ℕ) → HasTaken before between r → Consumes between after (take count room)
    → count ≤ length room → r.fed + count ≡ MAX_INPUT + 1 → TakesFirst before after (MAX_INPUT + 1)
gives_too_many before between after r room count t more within all =
    let counted : r.fed ≡ length t.text = t.stands.counted in
    let len : length (t.text ++ take count room) ≡ length t.text + length (take count room) = length-append t.text (take count room) in
    let piece : length (take count room) ≡ count = length-take-le count room within in
    takes_first before after (t.text ++ take count room) (MAX_INPUT + 1) (Consumes-trans before between after _ _ t.taken more) (omega arith)

kept : (before between after : Option (List ℕ)) (text : List ℕ) → Consumes before between text → Keeps between after → Consumes before after text
kept None between after text taken keeps = tt
kept (Some left) None after text taken keeps = absurd taken
kept (Some left) (Some rest) None text taken keeps = absurd keeps
kept (Some left) (Some rest) (Some same) text taken keeps = taken ∙ ap (λ (l : List ℕ). text ++ l) (sym keeps)

rose : (start was now : ℕ) → start ≤ was → Rose was now → Rose start now
rose start was now le (inl lt) = inl (omega arith)
rose start was now le (inr is) = inr is

-- the source failed
pub fails_at : (before between after : Option (List ℕ)) (start was now taken : ℕ) (r : ReaderView) → HasTaken before between r → Keeps between after → start ≤ was → Rose was now
    → r.fed ≡ taken → taken ≤ MAX_INPUT → ReadsUpToFault before after start now MAX_INPUT taken
fails_at before between after start was now taken r t keeps le up is few = record {
  rose = rose start was now le up;
  within = few;
  taken = takes_first before after t.text taken (kept before between after t.text t.taken keeps) (sym is ∙ t.stands.counted);
}
