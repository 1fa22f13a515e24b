-- Looking a register up.
use Rattle.std.proofs.Common.{◌≡◌, ℕ, ◌+◌, ◌≤◌, true, false, cond, List, [], ◌∷◌, ◌++◌, map, bytes_eq, Option, Some, None, String, IfSome, refl, sym, ap, ◌∙◌, subst, arith}
use Rattle.std.specs.List.{AllByRecursion}
use Rattle.pq_text.specs.Program.{RegisterView, places_of}
use Rattle.pq_read.specs.declared.argument.Span.{Span}
use Rattle.pq_read.specs.declared.program.Register.{Register}
use Rattle.pq_read.specs.Environment.{span_from, register_view}
use Rattle.pq_read.specs.Registers.{IsKept, AreRegisters, IsSpan}
use Rattle.pq_read.specs.Words.{is_name}
use Rattle.pq_read.proofs.Counts.{places_of-append}
use Rattle.std.proofs.lemmas.Slice.Eq.{bytes_eq-Decides}
use Rattle.std.specs.BTreeMap.{BTreeMap, get_by_text}
use Rattle.std.specs.Map.{update}
use Rattle.std.specs.Str.{IsUtf8}
use Rattle.pq_read.specs.Spans.{AreSpans}
use Rattle.pq_read.proofs.Names.{name_is_ascii}
use Rattle.std.proofs.lemmas.List.{map_push}

-- what is known of a register that is found
pub record IsFound (span : Span) (first : ℕ) (regs : List RegisterView) (name : List ℕ) : Type 0 where
  pub named : is_name name ≡ true
  pub some : 1 ≤ span.size
  pub within : span.first + span.size ≤ first + places_of regs

pub is_found : (regs : List RegisterView) (first : ℕ) (name : List ℕ) (s : Span) → AllByRecursion IsKept regs → span_from first regs name ≡ Some s → IsFound s first regs name
is_found [] first name s kept h = cc
is_found (r ∷ rs) first name s kept h =
    let own : Span = record { first = first; size = r.size } in
    elim (bytes_eq r.name name) as (λ b. bytes_eq r.name name ≡ b → cond b (Some own) (span_from (first + r.size) rs name) ≡ Some s → IsFound s first (r ∷ rs) name) [
      | true ↦ λ is e. let same : own ≡ s = cc in
          subst (λ (t : Span). IsFound t first (r ∷ rs) name) same
          (record { named = subst (λ n. is_name n ≡ true) ((bytes_eq-Decides r.name name).0 is) kept.0.named; some = kept.0.some; within = omega arith })
      | false ↦ λ is e. let h : IsFound s (first + r.size) rs name = is_found rs (first + r.size) name s kept.1 e in
          record { named = h.named; some = h.some; within = omega arith }
    ] refl h

pub is_span : (regs : List RegisterView) (total : ℕ) (name : List ℕ) (s : Span) → AreRegisters total regs → span_from 0 regs name ≡ Some s → IsSpan s name
is_span regs total name s are h =
    let f = is_found regs 0 name s are.each h in
    let c : total ≡ places_of regs = are.counted in
    let w : s.first + s.size ≤ 0 + places_of regs = f.within in
    record { named = f.named; some = f.some; within = omega arith }

each_push : (P : RegisterView → Type 0) (xs : List RegisterView) (y : RegisterView) → AllByRecursion P xs → P y → AllByRecursion P (xs ++ y ∷ [])
each_push P [] y h p = (p, tt)
each_push P (x ∷ xs) y h p = (h.0, each_push P xs y h.1 p)

pub regs_with : (items new : List Register) (r : Register) (total : ℕ) → AreRegisters total (map register_view items) → new ≡ items ++ r ∷ []
    → IsKept (register_view r) → total + r.size ≤ 4096 → AreRegisters (total + r.size) (map register_view new)
regs_with items new r total old is kept room =
    let e : map register_view new ≡ map register_view items ++ register_view r ∷ [] = ap (map register_view) is ∙ map_push register_view items r in
    let n : places_of (map register_view items ++ register_view r ∷ []) ≡ places_of (map register_view items) + (r.size + 0) = places_of-append (map register_view items) (register_view r ∷ []) in
    let c : total ≡ places_of (map register_view items) = old.counted in
    rw e (record { counted = omega arith; within = room; each = each_push IsKept (map register_view items) (register_view r) old.each kept })

is_none : (found : Option Span) → ((s : Span) → found ≡ Some s → ⊥) → found ≡ None
is_none None h = refl
is_none (Some s) h = absurd (h s refl)

-- what is no text is no name, and no register has it
pub none_found : (regs : List RegisterView) (total : ℕ) (name : List ℕ) → AreRegisters total regs → (IsUtf8 name → ⊥) → span_from 0 regs name ≡ None
none_found regs total name are bad = is_none (span_from 0 regs name) (λ s h. bad (name_is_ascii name (is_span regs total name s are h).named))

-- the span of a name beside one register more
or_last : Option Span → Option Span → Option Span
or_last None other = other
or_last (Some s) other = Some s

span_push : (regs : List RegisterView) (r : RegisterView) (first : ℕ) (name : List ℕ) (s : Span) → s.first ≡ first + places_of regs → s.size ≡ r.size
    → span_from first (regs ++ r ∷ []) name ≡ or_last (span_from first regs name) (cond (bytes_eq r.name name) (Some s) None)
unfolding or_last
span_push [] r first name s at size =
    let at : first ≡ s.first = omega arith in
    λ i. cond (bytes_eq r.name name) (Some (record { first = at i; size = sym size i })) None
span_push (q ∷ qs) r first name s at size =
    elim (bytes_eq q.name name) as (λ b. cond b (Some (record { first = first; size = q.size })) (span_from (first + q.size) (qs ++ r ∷ []) name)
    ≡ or_last (cond b (Some (record { first = first; size = q.size })) (span_from (first + q.size) qs name)) (cond (bytes_eq r.name name) (Some s) None)) [
      | true ↦ refl
      | false ↦ span_push qs r (first + q.size) name s (omega arith) size
    ]

or_none : (o : Option Span) → o ≡ or_last o None
unfolding or_last
or_none None = refl
or_none (Some t) = refl

-- the map after one register more
pub spans_with : {Y : Type 0} (items new : List Register) (r : Register) (total : ℕ) (old now : BTreeMap (String Y) Span) (name : List ℕ) (s : Span)
    → AreRegisters total (map register_view items) → AreSpans (map register_view items) old → new ≡ items ++ r ∷ [] → name ≡ r.name → s ≡ record { first = total; size = r.size }
    → span_from 0 (map register_view items) r.name ≡ None → ((cs : List ℕ) → get_by_text now cs ≡ update bytes_eq (get_by_text old) name (Some s) cs)
    → AreSpans (map register_view new) now
unfolding or_last
spans_with items new r total old now name s are spans is named at free updates = record {
  found = λ cs.
      let regs = map register_view items in
      let e : map register_view new ≡ regs ++ register_view r ∷ [] = ap (map register_view) is ∙ map_push register_view items r in
      let c : total ≡ places_of regs = are.counted in
      let first : s.first ≡ 0 + places_of regs = ap (λ (t : Span). t.first) at ∙ (omega arith) in
      let pushed = span_push regs (register_view r) 0 cs s first (ap (λ (t : Span). t.size) at) in
      updates cs ∙ (ap (λ n. cond (bytes_eq n cs) (Some s) (get_by_text old cs)) named ∙ (both cs ∙ (sym pushed ∙ ap (λ rs. span_from 0 rs cs) (sym e))));
}
  where
    both : (cs : List ℕ) → cond (bytes_eq r.name cs) (Some s) (get_by_text old cs) ≡ or_last (span_from 0 (map register_view items) cs) (cond (bytes_eq r.name cs) (Some s) None)
    both cs =
        elim (bytes_eq r.name cs) as (λ b. bytes_eq r.name cs ≡ b → cond b (Some s) (get_by_text old cs) ≡ or_last (span_from 0 (map register_view items) cs) (cond b (Some s) None)) [
          | true ↦ λ same. sym (ap (λ o. or_last o (Some s)) (ap (span_from 0 (map register_view items)) (sym ((bytes_eq-Decides r.name cs).0 same)) ∙ free))
          | false ↦ λ other. spans.found cs ∙ or_none (span_from 0 (map register_view items) cs)
        ] refl

-- the span that is found by a name
pub told_span : (regs known : List RegisterView) (total : ℕ) (name : List ℕ) (found : Option Span) → AreRegisters total regs → regs ≡ known → found ≡ span_from 0 known name
    → IfSome found (λ s. IsSpan s name)
told_span regs known total name None are same e = tt
told_span regs known total name (Some s) are same e = is_span regs total name s are (ap (λ rs. span_from 0 rs name) same ∙ sym e)
