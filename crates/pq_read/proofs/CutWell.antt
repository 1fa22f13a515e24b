-- The pieces of a text leave nothing out.
use Rattle.std.proofs.Common.{◌≡◌, Bool, true, false, ◌||◌, cond, List, [], ◌∷◌, ◌++◌, flat_map, Ok, Err, refl, sym, ap, ◌∙◌, subst}
use Rattle.std.specs.List.{AllByRecursion}
use Rattle.std.proofs.lemmas.Bool.{false≢true}
use Rattle.pq_lex.specs.declared.token.Form.{Form}
use Rattle.pq_lex.specs.declared.token.Form.TheVariants.{Semicolon, RightBrace}
use Rattle.pq_lex.specs.Token.{TokenView}
use Rattle.pq_read.specs.declared.refusal.Refusal.{Refusal}
use Rattle.pq_read.specs.declared.program.Options.{Options}
use Rattle.pq_read.specs.Faults.{Reading, is_form}
use Rattle.pq_read.specs.Environment.{Env}
use Rattle.pq_read.specs.After.{piece_at}
use Rattle.pq_read.specs.Pieces.{Cut, Within, Front, Until, ends_with, ended_by, joined_to, cut}
use Rattle.pq_read.specs.CutWell.{IsReadWhole, IsRefused, AreCutWell}
use Rattle.pq_read.proofs.Circuits.{neither}
use Rattle.pq_read.proofs.Pieces.{is_closed, is_gate, gate_fault, gate_piece}
use Rattle.pq_read.proofs.Reaching.{IsBehind, Ends, piece_ends}

-- no `;` but perhaps at the end
OnlyLast : List TokenView → Type 0
OnlyLast [] = Unit {0}
OnlyLast (t ∷ ts) = (is_form Semicolon t ≡ true → ts ≡ []) × OnlyLast ts

Whole : List TokenView → Type 0
Whole piece = (options : Options) (E : Env) → IsReadWhole options E piece

Open : List TokenView → Type 0
Open rest = (options : Options) (E : Env) → IsRefused options E rest

nothing_behind : (front : List TokenView) (e : TokenView) (left ts : List TokenView) → OnlyLast ts → ts ≡ front ++ e ∷ left → is_form Semicolon e ≡ true → left ≡ []
unfolding OnlyLast
nothing_behind [] e left ts once is closes = (subst OnlyLast is once).0 closes
nothing_behind (f ∷ front) e left ts once is closes = nothing_behind front e left (front ++ e ∷ left) (subst OnlyLast is once).1 refl closes

none_closes : (front : List TokenView) (e : TokenView) (left ts : List TokenView) → is_closed ts ≡ false → ts ≡ front ++ e ∷ left → is_form Semicolon e ≡ true → ⊥
none_closes [] e left ts none is closes = false≢true (sym (neither _ _ (sym (ap is_closed is) ∙ none)).0 ∙ closes)
none_closes (f ∷ front) e left ts none is closes = none_closes front e left (front ++ e ∷ left) (neither _ _ (sym (ap is_closed is) ∙ none)).1 refl closes

once_whole : (ts : List TokenView) → OnlyLast ts → Whole ts
unfolding Whole
once_whole ts once options E x ok =
    let b : IsBehind x.1 ts = subst (Ends ts) ok (piece_ends options E ts) in
    nothing_behind b.front b.end x.1 ts once b.is b.closes

-- tokens without `;` are refused
pub unclosed_refused : (ts : List TokenView) → is_closed ts ≡ false → (options : Options) (E : Env) → IsRefused options E ts
unclosed_refused ts none options E = by (piece_at options E ts) refl (piece_ends options E ts) where
  by : (r : Reading Env) → piece_at options E ts ≡ r → Ends ts r → IsRefused options E ts
  by (Ok x) is b = absurd (none_closes b.front b.end x.1 ts none b.is b.closes)
  by (Err f) is b = (f, is)

gate_whole : (t : TokenView) (ts : List TokenView) → is_gate t ≡ true → Whole (t ∷ ts)
unfolding Whole
gate_whole t ts is options E x ok = absurd (never (gate_fault E t) x (sym (gate_piece options E t ts is) ∙ ok)) where
  never : (f : Refusal) (x : Env × List TokenView) → (let r : Reading Env = Err f in r) ≡ Ok x → ⊥
  never f x h = cc

gate_open : (t : TokenView) (ts : List TokenView) → is_gate t ≡ true → Open (t ∷ ts)
unfolding Open
gate_open t ts is options E = (gate_fault E t, gate_piece options E t ts is)

-- the pieces behind the first one are well cut, and it or the rest alone is so
abbrev Parts : (List TokenView → Type 0) → (List TokenView → Type 0) → List (List TokenView) → List TokenView → Type 0
Parts first left [] rest = left rest
Parts first left (p ∷ ps) rest = first p × AllByRecursion Whole ps × Open rest

abbrev PartsIn : Within → List (List TokenView) → List TokenView → Type 0
PartsIn Front ps rest = Parts Whole Open ps rest
PartsIn (Until mark) ps rest = Parts (λ p. mark ≡ Semicolon → OnlyLast p) (λ r. mark ≡ Semicolon → is_closed r ≡ false) ps rest

all_parts : (ps : List (List TokenView)) (rest : List TokenView) → Parts Whole Open ps rest → AllByRecursion Whole ps × Open rest
all_parts [] rest h = (tt, h)
all_parts (p ∷ ps) rest h = ((h.0, h.1), h.2)

one : (t : TokenView) → OnlyLast (t ∷ [])
unfolding OnlyLast
one t = (λ _. refl, tt)

ended_parts : (within : Within) (t : TokenView) (c : Cut) → Parts Whole Open c.pieces c.rest → PartsIn within (ended_by t c).pieces (ended_by t c).rest
ended_parts Front t c h = let all = all_parts c.pieces c.rest h in (once_whole (t ∷ []) (one t), all.0, all.1)
ended_parts (Until mark) t c h = let all = all_parts c.pieces c.rest h in (λ _. one t, all.0, all.1)

other : (t : TokenView) (p : List TokenView) → is_form Semicolon t ≡ false → OnlyLast p → OnlyLast (t ∷ p)
unfolding OnlyLast
other t p no_end h = (λ closes. absurd (false≢true (sym no_end ∙ closes)), h)

open_more : (t : TokenView) (rest : List TokenView) → is_form Semicolon t ≡ false → is_closed rest ≡ false → is_closed (t ∷ rest) ≡ false
open_more t rest no_end h = λ i. no_end i || h i

joined_parts : (mark : Form) (t : TokenView) (ps : List (List TokenView)) (rest : List TokenView) → is_form mark t ≡ false → PartsIn (Until mark) ps rest
    → PartsIn (Until mark) (joined_to t ps rest).pieces (joined_to t ps rest).rest
joined_parts mark t [] rest no_end h = λ semicolon. open_more t rest (subst (λ (m : Form). is_form m t ≡ false) semicolon no_end) (h semicolon)
joined_parts mark t (p ∷ ps) rest no_end h = (λ semicolon. other t p (subst (λ (m : Form). is_form m t ≡ false) semicolon no_end) (h.0 semicolon), h.1, h.2)

-- a first token that doesn't end its piece
gate_parts : (mark : Form) (t : TokenView) (ps : List (List TokenView)) (rest : List TokenView) → is_gate t ≡ true → PartsIn (Until mark) ps rest
    → Parts Whole Open (joined_to t ps rest).pieces (joined_to t ps rest).rest
gate_parts mark t [] rest gate h = gate_open t rest gate
gate_parts mark t (p ∷ ps) rest gate h = (gate_whole t p gate, h.1, h.2)

statement_parts : (t : TokenView) (ps : List (List TokenView)) (rest : List TokenView) → PartsIn (Until Semicolon) ps rest → Parts Whole Open ps rest
unfolding Open
statement_parts t [] rest h = unclosed_refused rest (h refl)
statement_parts t (p ∷ ps) rest h = (once_whole p (h.0 refl), h.1, h.2)

front_parts : (t : TokenView) (mark : Form) (ps : List (List TokenView)) (rest : List TokenView) → (b : Bool) → is_gate t ≡ b → mark ≡ cond b RightBrace Semicolon → is_form mark t ≡ false
    → PartsIn (Until mark) ps rest → Parts Whole Open (joined_to t ps rest).pieces (joined_to t ps rest).rest
front_parts t mark ps rest true gate is no_end h = gate_parts mark t ps rest gate h
front_parts t mark ps rest false gate is no_end h =
    statement_parts t (joined_to t ps rest).pieces (joined_to t ps rest).rest
    (subst (λ (m : Form). PartsIn (Until m) (joined_to t ps rest).pieces (joined_to t ps rest).rest) is (joined_parts mark t ps rest no_end h))

cut_parts : (within : Within) (ts : List TokenView) → PartsIn within (cut within ts).pieces (cut within ts).rest
unfolding cut Open is_gate
cut_parts Front [] = unclosed_refused [] refl
cut_parts (Until mark) [] = λ _. refl
cut_parts Front (t ∷ ts) =
    let mark : Form = ends_with Front t in
    elim (is_form mark t) as (λ b. is_form mark t ≡ b → (let c : Cut = cond b (ended_by t (cut Front ts)) (joined_to t (cut (Until mark) ts).pieces (cut (Until mark) ts).rest) in PartsIn Front c.pieces c.rest)) [
      | true ↦ λ is. ended_parts Front t (cut Front ts) (cut_parts Front ts)
      | false ↦ λ is. front_parts t mark (cut (Until mark) ts).pieces (cut (Until mark) ts).rest (is_gate t) refl refl is (cut_parts (Until mark) ts)
    ] refl
cut_parts (Until mark) (t ∷ ts) =
    elim (is_form mark t) as (λ b. is_form mark t ≡ b → (let c : Cut = cond b (ended_by t (cut Front ts)) (joined_to t (cut (Until mark) ts).pieces (cut (Until mark) ts).rest) in PartsIn (Until mark) c.pieces c.rest)) [
      | true ↦ λ is. ended_parts (Until mark) t (cut Front ts) (cut_parts Front ts)
      | false ↦ λ is. joined_parts mark t (cut (Until mark) ts).pieces (cut (Until mark) ts).rest is (cut_parts (Until mark) ts)
    ] refl

-- the pieces and the rest are all tokens
glued : Cut → List TokenView
glued c = flat_map (λ piece. piece) c.pieces ++ c.rest

glued_joined : (t : TokenView) (ps : List (List TokenView)) (rest : List TokenView) → glued (joined_to t ps rest) ≡ t ∷ glued (record { pieces = ps; rest = rest })
unfolding glued
glued_joined t [] rest = refl
glued_joined t (p ∷ ps) rest = refl

cut_all : (within : Within) (ts : List TokenView) → glued (cut within ts) ≡ ts
unfolding cut glued
cut_all within [] = refl
cut_all within (t ∷ ts) =
    let mark : Form = ends_with within t in
    elim (is_form mark t) as (λ b. glued (cond b (ended_by t (cut Front ts)) (joined_to t (cut (Until mark) ts).pieces (cut (Until mark) ts).rest)) ≡ t ∷ ts) [
      | true ↦ ap (λ (l : List TokenView). t ∷ l) (cut_all Front ts)
      | false ↦ glued_joined t (cut (Until mark) ts).pieces (cut (Until mark) ts).rest ∙ ap (λ (l : List TokenView). t ∷ l) (cut_all (Until mark) ts)
    ]

for_each : (ps : List (List TokenView)) → AllByRecursion Whole ps → (options : Options) (E : Env) → AllByRecursion (IsReadWhole options E) ps
unfolding Whole
for_each [] h options E = tt
for_each (p ∷ ps) h options E = (h.0 options E, for_each ps h.1 options E)

pub are_cut_well : (ts : List TokenView) → AreCutWell ts
unfolding glued Open
are_cut_well ts =
    let all = all_parts (cut Front ts).pieces (cut Front ts).rest (cut_parts Front ts) in
    record {
      all = cut_all Front ts;
      pieces = for_each (cut Front ts).pieces all.0;
      rest = all.1;
    }
