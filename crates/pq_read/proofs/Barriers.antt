-- The arguments of a barrier, one after another.
use Rattle.std.proofs.Common.{◌≡◌, ℕ, zero, suc, ◌-◌, ◌<◌, ◌≤◌, Bool, true, false, cond, nat_lt, List, [], ◌∷◌, length, drop, get_or, length-drop, drop-cons, Result, Ok, Err, if◌then◌else◌, refl, sym, ap, ◌∙◌, subst, arith}
use Rattle.std.proofs.lemmas.Bool.{false≢true}
use Rattle.pq_lex.specs.declared.token.Form.{Form}
use Rattle.pq_lex.specs.declared.token.Form.TheVariants.{Word, Number, Comma, LeftBracket, RightBracket}
use Rattle.pq_lex.specs.Token.{TokenView}
use Rattle.pq_text.specs.Program.{RegisterView}
use Rattle.pq_read.specs.declared.refusal.Refusal.{Refusal}
use Rattle.pq_read.specs.declared.refusal.ReadError.{ReadError}
use Rattle.pq_read.specs.declared.refusal.ReadError.TheVariants as errors
use Rattle.pq_read.specs.Gives.{Fails}
use Rattle.pq_read.specs.declared.argument.Span.{Span}
use Rattle.pq_read.specs.declared.argument.Argument.{Argument}
use Rattle.pq_read.specs.declared.refusal.Kind.TheVariants.{IndexOutOfRange}
use Rattle.pq_read.specs.Faults.{◌>>=◌, refused, value_of, is_form, ended, head, demanded, integer_at, unexpected}
use Rattle.pq_read.specs.Arguments.{argument_at, indexed_at, register_of, whole, single}
use Rattle.pq_read.specs.After.{barrier_wires, argument_tokens, adjoined_below}

-- the tokens after a reading are those after so many
pub record Takes (n : ℕ) (ts rest : List TokenView) : Type 0 where
  pub within : n ≤ length ts
  pub rest_is : rest ≡ drop n ts

pub bind_ok : {A B : Type 0} (r : Result A Refusal) (f : A → Result B Refusal) (y : B) → (r >>= f) ≡ Ok y → (x : A) × (r ≡ Ok x) × (f x ≡ Ok y)
bind_ok (Ok x) f y h = (x, refl, h)
bind_ok (Err e) f y h = cc

pub ok_same : {A : Type 0} (x y : A) → (let r : Result A Refusal = Ok x in r) ≡ Ok y → x ≡ y
ok_same x y h = cc

taken : (form : Form) (ts : List TokenView) (x : TokenView × List TokenView) → demanded form ts ≡ Ok x → ts ≡ x.0 ∷ x.1
taken form [] x h = cc
taken form (t ∷ ts) x h =
    elim (is_form form t) as (λ b. (let r : Result (TokenView × List TokenView) Refusal = cond b (Ok (t, ts)) (Err (unexpected t)) in r) ≡ Ok x → (t ∷ ts) ≡ x.0 ∷ x.1) [
      | true ↦ λ e. let same : (t, ts) ≡ x = cc in λ i. (same i).0 ∷ (same i).1
      | false ↦ λ e. cc
    ] h

integer_taken : (ts : List TokenView) (x : TokenView × List TokenView) → integer_at ts ≡ Ok x → ts ≡ x.0 ∷ x.1
unfolding integer_at
integer_taken ts x h =
    let s = bind_ok (demanded Number ts) _ x h in
    let same : s.0 ≡ x = chosen _ _ _ x s.2 in
    taken Number ts s.0 s.1 ∙ (λ i. (same i).0 ∷ (same i).1)
  where
    chosen : (b : Bool) (y : TokenView × List TokenView) (e : Refusal) (x : TokenView × List TokenView)
        → (let r : Result (TokenView × List TokenView) Refusal = cond b (Ok y) (Err e) in r) ≡ Ok x → y ≡ x
    chosen true y e x h = cc
    chosen false y e x h = cc

two_gone : (ts : List TokenView) (a b : TokenView) (rest : List TokenView) → ts ≡ a ∷ b ∷ rest → (2 ≤ length ts) × (rest ≡ drop 2 ts)
two_gone ts a b rest e = (let n : length ts ≡ length (a ∷ b ∷ rest) = ap length e in omega arith, sym (ap (drop 2) e))

indexed_takes : (span : Span) (t : TokenView) (ts : List TokenView) (x : Argument × List TokenView) → indexed_at span t ts ≡ Ok x
    → (argument_tokens x.0 ≡ 4) × (2 ≤ length ts) × (x.1 ≡ drop 2 ts)
unfolding indexed_at
indexed_takes span t ts x h =
    let s = bind_ok (integer_at ts) _ x h in
    let e1 : ts ≡ s.0.0 ∷ s.0.1 = integer_taken ts s.0 s.1 in
    let u = bind_ok (let r : Result ℕ Refusal = if nat_lt (value_of s.0.0) span.size then Ok (value_of s.0.0) else Err (refused IndexOutOfRange s.0.0) in r) _ x s.2 in
    let v = bind_ok (demanded RightBracket s.0.1) _ x u.2 in
    let e2 : s.0.1 ≡ v.0.0 ∷ v.0.1 = taken RightBracket s.0.1 v.0 v.1 in
    let same : (single span t u.0, v.0.1) ≡ x = ok_same _ _ v.2 in
    let gone = two_gone ts s.0.0 v.0.0 v.0.1 (e1 ∙ ap (λ l. s.0.0 ∷ l) e2) in
    ((λ i. argument_tokens (sym same i).0), gone.0, (λ i. (sym same i).1) ∙ gone.1)

four_gone : (n : ℕ) (t : TokenView) (ts : List TokenView) (b : TokenView) (more rest : List TokenView) → n ≡ 4 → ts ≡ b ∷ more → 2 ≤ length more → rest ≡ drop 2 more → Takes n (t ∷ ts) rest
four_gone n t ts b more rest four e two is =
    let m : length ts ≡ length (b ∷ more) = ap length e in
    let w : 4 ≤ length (t ∷ ts) = omega arith in
    subst (λ k. Takes k (t ∷ ts) rest) (sym four) (record { within = w; rest_is = is ∙ sym (ap (drop 3) e) })

argument_ends : (b : Bool) (span : Span) (t : TokenView) (ts : List TokenView) (x : Argument × List TokenView)
    → (let r : Result (Argument × List TokenView) Refusal = cond b (demanded LeftBracket ts >>= λ b. indexed_at span t b.1) (Ok (whole span t, ts)) in r) ≡ Ok x → Takes (argument_tokens x.0) (t ∷ ts) x.1
argument_ends true span t ts x h =
    let s = bind_ok (demanded LeftBracket ts) (λ b. indexed_at span t b.1) x h in
    let e : ts ≡ s.0.0 ∷ s.0.1 = taken LeftBracket ts s.0 s.1 in
    let i = indexed_takes span t s.0.1 x s.2 in
    four_gone (argument_tokens x.0) t ts s.0.0 s.0.1 x.1 i.0 e i.1 i.2
argument_ends false span t ts x h =
    let same : (whole span t, ts) ≡ x = ok_same _ _ h in
    subst (λ (y : Argument × List TokenView). Takes (argument_tokens y.0) (t ∷ ts) y.1) same (record { within = omega arith; rest_is = refl })

argument_takes : (regs : List RegisterView) (ts : List TokenView) (x : Argument × List TokenView) → argument_at regs ts ≡ Ok x → Takes (argument_tokens x.0) ts x.1
unfolding argument_at
argument_takes regs ts x h =
    let s = bind_ok (demanded Word ts) _ x h in
    let e : ts ≡ s.0.0 ∷ s.0.1 = taken Word ts s.0 s.1 in
    let u = bind_ok (register_of regs s.0.0) _ x s.2 in
    subst (λ l. Takes (argument_tokens x.0) l x.1) (sym e) (argument_ends (is_form LeftBracket (head s.0.1)) u.0 s.0.0 s.0.1 x u.2)

skipped : (regs : List RegisterView) (wires : List ℕ) (n : ℕ) (ts : List TokenView) → n ≤ length ts → barrier_wires regs wires n ts ≡ barrier_wires regs wires 0 (drop n ts)
unfolding barrier_wires
skipped regs wires zero ts h = refl
skipped regs wires (suc n) [] h = absurd (omega arith)
skipped regs wires (suc n) (t ∷ ts) h = skipped regs wires n ts (omega arith)

pub comma_there : (ts : List TokenView) (e : Refusal) → is_form Comma (head ts) ≡ true → demanded Comma ts ≡ Err e → ⊥
comma_there [] e is h = false≢true is
comma_there (t ∷ ts) e is h =
    let ok : (let r : Result (TokenView × List TokenView) Refusal = cond (is_form Comma t) (Ok (t, ts)) (Err (unexpected t)) in r) ≡ Ok (t, ts) =
    ap (λ b. let r : Result (TokenView × List TokenView) Refusal = cond b (Ok (t, ts)) (Err (unexpected t)) in r) is in cc

-- what a barrier does with an argument
body : List RegisterView → List ℕ → List TokenView → (Argument × List TokenView) → Result (List ℕ × List TokenView) Refusal
body regs wires ts a = if is_form Comma (head a.1) then barrier_wires regs (adjoined_below wires a.0.first a.0.count) (argument_tokens a.0) ts else Ok (adjoined_below wires a.0.first a.0.count, a.1)

pub barrier_more : (regs : List RegisterView) (wires : List ℕ) (ts : List TokenView) (x : Argument × List TokenView) (c : TokenView × List TokenView)
    → argument_at regs ts ≡ Ok x → is_form Comma (head x.1) ≡ true → demanded Comma x.1 ≡ Ok c
    → (barrier_wires regs wires 0 ts ≡ barrier_wires regs (adjoined_below wires x.0.first x.0.count) 0 c.1) × (length c.1 < length ts)
unfolding argument_at barrier_wires body
barrier_more regs wires [] x c h is next = cc
barrier_more regs wires (t ∷ us) x c h is next =
    let n : ℕ = argument_tokens x.0 in
    let more : List ℕ = adjoined_below wires x.0.first x.0.count in
    let takes : Takes n (t ∷ us) x.1 = argument_takes regs (t ∷ us) x h in
    let e : x.1 ≡ c.0 ∷ c.1 = taken Comma x.1 c next in
    let len : length (drop n (t ∷ us)) ≡ length (t ∷ us) - n = length-drop n (t ∷ us) in
    let got : length (drop n (t ∷ us)) ≡ length (c.0 ∷ c.1) = ap length (sym takes.rest_is ∙ e) in
    let lt : n < length (t ∷ us) = omega arith in
    let cut : drop n (t ∷ us) ≡ get_or (t ∷ us) n t ∷ drop n us = drop-cons (t ∷ us) n t lt in
    let gone : drop n us ≡ c.1 = tail_same (sym cut ∙ (sym takes.rest_is ∙ e)) in (
      ap (λ r. r >>= body regs wires us) h
          ∙ (ap (λ b. let r : Result (List ℕ × List TokenView) Refusal = cond b (barrier_wires regs more n us) (Ok (more, x.1)) in r) is
          ∙ (skipped regs more n us (omega arith) ∙ ap (barrier_wires regs more 0) gone)),
      omega arith,
    )
  where
    tail_same : {a b : TokenView} {xs ys : List TokenView} → a ∷ xs ≡ b ∷ ys → xs ≡ ys
    tail_same h = cc

pub barrier_done : (regs : List RegisterView) (wires : List ℕ) (ts : List TokenView) (x : Argument × List TokenView)
    → argument_at regs ts ≡ Ok x → is_form Comma (head x.1) ≡ false
    → barrier_wires regs wires 0 ts ≡ Ok (adjoined_below wires x.0.first x.0.count, x.1)
unfolding argument_at barrier_wires body
barrier_done regs wires [] x h is = cc
barrier_done regs wires (t ∷ us) x h is =
    ap (λ r. r >>= body regs wires us) h
    ∙ ap (λ b. let r : Result (List ℕ × List TokenView) Refusal = cond b (barrier_wires regs (adjoined_below wires x.0.first x.0.count) (argument_tokens x.0) us) (Ok (adjoined_below wires x.0.first x.0.count, x.1)) in r) is

err_same : {A : Type 0} (d e : Refusal) → (let r : Result A Refusal = Err d in r) ≡ Err e → d ≡ e
err_same d e h = cc

pub barrier_fault : (regs : List RegisterView) (wires : List ℕ) (ts : List TokenView) (e : Refusal)
    → argument_at regs ts ≡ Err e → barrier_wires regs wires 0 ts ≡ Err e
unfolding argument_at barrier_wires body
barrier_fault regs wires [] e h = ap (λ f. let r : Result (List ℕ × List TokenView) Refusal = Err f in r) (err_same (unexpected ended) e h)
barrier_fault regs wires (t ∷ us) e h = ap (λ r. r >>= body regs wires us) h

pub barrier_fails : (error : ReadError) (regs : List RegisterView) (wires : List ℕ) (ts : List TokenView) (total : Result (List ℕ × List TokenView) Refusal)
    → Fails error (argument_at regs ts) → barrier_wires regs wires 0 ts ≡ total → Fails error total
barrier_fails errors.OutOfMemory regs wires ts total h so_far = tt
barrier_fails (errors.Refused e) regs wires ts total h so_far = sym so_far ∙ barrier_fault regs wires ts e h
