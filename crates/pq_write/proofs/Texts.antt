-- The table of the texts of places.
use Rattle.std.proofs.Common.{◌≡◌, ℕ, ◌+◌, ◌-◌, ◌<◌, ◌≤◌, cond, List, [], ◌∷◌, ◌++◌, length, take, drop, get_or, map, flat_map, All, slice_range, refl, sym, ◌∙◌, ap, subst, inl, inr, arith}
use Rattle.std.specs.List.{AllByRecursion}
use Rattle.std.proofs.lemmas.Bool.{lt-ltb, le-ltb, cases_lt}
use Rattle.std.proofs.lemmas.List.{length-append, length-map, length-drop, map-append, at_drop_more, take-append-le, drop-append-le, drop_at, take_all, get_or-map, get_or_append_left, get_or-append_right, length_push}
use Rattle.std.proofs.lemmas.List.FromFn.{length-map-range_with_len, get_or-map-range_with_len}
use Rattle.std.proofs.lemmas.List.Elements.{All-append, All-nil, All-cons, All-get_or, recursion_from_All, All-from_recursion}
use Rattle.pq_text.specs.Program.{RegisterView, places_of}
use Rattle.pq_text.specs.Print.{indexed, place}
use Rattle.pq_write.specs.declared.places.Extent.{Extent}
use Rattle.pq_write.specs.declared.places.Table.{Table}
use Rattle.pq_write.specs.Table.{IsWithin, cut, texts_of, IsLaid, texts_in, IsTableOf}

-- bytes at the end change no text
cut_kept : (bytes more : List ℕ) (e : Extent) → IsWithin bytes e → cut (bytes ++ more) e ≡ cut bytes e
cut_kept bytes more e lies =
    let ordered : e.start ≤ e.end = lies.ordered in
    let within : e.end ≤ length bytes = lies.within in
    ap (take (e.end - e.start)) (drop-append-le e.start bytes more (omega arith))
    ∙ take-append-le (e.end - e.start) (drop e.start bytes) more (omega (arith, length-drop e.start bytes))

cuts_kept : (bytes more : List ℕ) (es : List Extent) → AllByRecursion (IsWithin bytes) es → map (cut (bytes ++ more)) es ≡ map (cut bytes) es
cuts_kept bytes more [] each = refl
cuts_kept bytes more (e ∷ es) each = λ i. cut_kept bytes more e each.0 i ∷ cuts_kept bytes more es each.1 i

lies_longer : (bytes more : List ℕ) (es : List Extent) → AllByRecursion (IsWithin bytes) es → AllByRecursion (IsWithin (bytes ++ more)) es
lies_longer bytes more [] each = tt
lies_longer bytes more (e ∷ es) each =
    let lies = each.0 in
    let ordered : e.start ≤ e.end = lies.ordered in
    let within : e.end ≤ length bytes = lies.within in
    (record { ordered = ordered; within = omega (arith, length-append bytes more) }, lies_longer bytes more es each.1)

-- the text at the end
cut_last : (bytes text : List ℕ) (e : Extent) → e.start ≡ length bytes → e.end ≡ length (bytes ++ text) → cut (bytes ++ text) e ≡ text
cut_last bytes text e from to =
    ap (take (e.end - e.start)) (drop_at bytes text e.start (sym from))
    ∙ take_all (e.end - e.start) text (omega (arith, length-append bytes text))

-- a table with one text more
pub record IsGrown (old new : Table) (text : List ℕ) (e : Extent) : Type 0 where
  pub bytes : new.bytes.items ≡ old.bytes.items ++ text
  pub extents : new.extents.items ≡ old.extents.items ++ e ∷ []
  pub start : e.start ≡ length old.bytes.items
  pub end : e.end ≡ length new.bytes.items
  pub short : length text ≤ 110

pub laid_more : (old new : Table) (text : List ℕ) (e : Extent) → IsLaid old → IsGrown old new text e → IsLaid new
laid_more old new text e laid grown =
    let start : e.start ≡ length old.bytes.items = grown.start in
    let end : e.end ≡ length new.bytes.items = grown.end in
    let bytes : length new.bytes.items ≡ length old.bytes.items + length text = ap length grown.bytes ∙ length-append old.bytes.items text in
    let count : length new.extents.items ≡ length old.extents.items + 1 = ap length grown.extents ∙ length_push old.extents.items e in
    let longer : All (IsWithin new.bytes.items) old.extents.items =
    subst (λ bs. All (IsWithin bs) old.extents.items) (sym grown.bytes)
    (All-from_recursion (IsWithin (old.bytes.items ++ text)) old.extents.items (lies_longer old.bytes.items text old.extents.items (recursion_from_All (IsWithin old.bytes.items) old.extents.items laid.each)))
    in
    let last : IsWithin new.bytes.items e = record { ordered = omega arith; within = omega arith } in
    record {
      each = subst (All (IsWithin new.bytes.items)) (sym grown.extents)
          (All-append (IsWithin new.bytes.items) old.extents.items (e ∷ []) longer (All-cons (IsWithin new.bytes.items) e [] last (All-nil (IsWithin new.bytes.items))));
      short = omega (arith, laid.short, grown.short);
    }

pub texts_more : (old new : Table) (text : List ℕ) (e : Extent) → IsLaid old → IsGrown old new text e → texts_of new ≡ texts_of old ++ text ∷ []
texts_more old new text e laid grown =
    let kept : map (cut (old.bytes.items ++ text)) old.extents.items ≡ texts_of old =
    cuts_kept old.bytes.items text old.extents.items (recursion_from_All (IsWithin old.bytes.items) old.extents.items laid.each)
    in
    let last : cut (old.bytes.items ++ text) e ≡ text = cut_last old.bytes.items text e grown.start (grown.end ∙ ap length grown.bytes) in
    ap (λ bs. map (cut bs) new.extents.items) grown.bytes
    ∙ (ap (map (cut (old.bytes.items ++ text))) grown.extents
    ∙ (map-append (cut (old.bytes.items ++ text)) old.extents.items (e ∷ []) ∙ (λ i. kept i ++ (last i ∷ []))))

-- the texts of the places of registers
pub length-texts : (regs : List RegisterView) → length (flat_map texts_in regs) ≡ places_of regs
length-texts [] = refl
length-texts (r ∷ rs) =
    length-append (texts_in r) (flat_map texts_in rs) ∙ (λ i. length-map-range_with_len (indexed r.name) 0 r.size i + length-texts rs i)

pub text_at : (regs : List RegisterView) (n : ℕ) → n < places_of regs → get_or (flat_map texts_in regs) n [] ≡ place regs n
text_at [] n h = absurd (omega arith)
text_at (r ∷ rs) n h =
    let own : length (texts_in r) ≡ r.size = length-map-range_with_len (indexed r.name) 0 r.size in
    elim (cases_lt n r.size) [
      | inl here ↦
          get_or_append_left (texts_in r) (flat_map texts_in rs) [] n (omega arith)
          ∙ (get_or-map-range_with_len (indexed r.name) 0 r.size n n [] here (omega arith)
          ∙ sym (ap (λ b. cond b (indexed r.name n) (place rs (n - r.size))) (lt-ltb n r.size here)))
      | inr past ↦
          get_or-append_right (texts_in r) (flat_map texts_in rs) r.size n [] own past
          ∙ (text_at rs (n - r.size) (omega arith)
          ∙ sym (ap (λ b. cond b (indexed r.name n) (place rs (n - r.size))) (le-ltb n r.size past)))
    ]

pub count_is : (regs : List RegisterView) (table : Table) → IsTableOf regs table → length table.extents.items ≡ places_of regs
count_is regs table holds =
    sym (length-map table.extents.items (cut table.bytes.items)) ∙ (ap length holds.texts ∙ length-texts regs)

-- where the text of a place lies, and what it is
pub record IsTextOf (bytes : List ℕ) (e : Extent) (text : List ℕ) : Type 0 where
  pub ordered : e.start ≤ e.end
  pub within : e.end ≤ length bytes
  pub is : slice_range bytes e.start e.end ≡ text

pub text_is : (regs : List RegisterView) (table : Table) (n : ℕ) (e : Extent) → IsTableOf regs table → n < places_of regs → e ≡ get_or table.extents.items n e → IsTextOf table.bytes.items e (place regs n)
text_is regs table n e holds h is =
    let laid = holds.laid in
    let here : n < length table.extents.items = omega (arith, count_is regs table holds) in
    let lies : IsWithin table.bytes.items e = subst (IsWithin table.bytes.items) (sym is) (All-get_or (IsWithin table.bytes.items) table.extents.items n e here laid.each) in
    record {
      ordered = lies.ordered;
      within = lies.within;
      is = ap (cut table.bytes.items) is
          ∙ (sym (get_or-map (cut table.bytes.items) table.extents.items n e [] here)
          ∙ (ap (λ ts. get_or ts n []) holds.texts ∙ text_at regs n h));
    }

-- how many places the registers from here on have
pub places_here : (regs : List RegisterView) (i : ℕ) (r : RegisterView) → i < length regs → r ≡ get_or regs i r → places_of (drop i regs) ≡ r.size + places_of (drop (i + 1) regs)
places_here regs i r h is =
    at_drop_more places_of regs i r h ∙ ap (λ (q : RegisterView). q.size + places_of (drop (i + 1) regs)) (sym is)
