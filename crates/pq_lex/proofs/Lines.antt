-- The last end of a text, line by line from its end.
use Rattle.std.proofs.Common.{◌≡◌, ℕ, zero, suc, ◌+◌, ◌-◌, ◌<◌, ◌≤◌, List, [], ◌∷◌, ◌++◌, length, take, drop, get_or, refl, sym, ap, ◌∙◌, subst, inl, inr, arith, length-drop}
use Rattle.std.proofs.lemmas.List.{take_more, take-take, length-take-le, take_rest, take-append-drop}
use Rattle.std.proofs.lemmas.Bool.{cases_lt}
use Rattle.std.proofs.Math.Seq.{take-add}
use Rattle.pq_lex.specs.declared.ends.Mode.{Mode}
use Rattle.pq_lex.specs.declared.ends.Mode.TheVariants.{Code, AfterSlash, Comment, Quote}
use Rattle.pq_lex.specs.Ends.{after_byte, mode_after, IsEnded, EndsLast}
use Rattle.pq_lex.proofs.Ending.{ended_after, mode_after-append}

-- an end of a text is one of what stands behind a prefix of it
pub ended_rest : (m : Mode) (text more : List ℕ) → 1 ≤ length more → IsEnded m (text ++ more) → IsEnded (mode_after m text) more
ended_rest m [] more some h = h
ended_rest m (x ∷ []) [] some h = absurd (omega arith)
ended_rest m (x ∷ []) (y ∷ more) some h = h
ended_rest m (x ∷ y ∷ rest) more some h = ended_rest (after_byte m x) (y ∷ rest) more some h

newline_code : (m : Mode) → after_byte m 10 ≡ Code
newline_code Code = refl
newline_code AfterSlash = refl
newline_code Comment = refl
newline_code Quote = refl

-- the mode behind a newline
pub mode_line : (m : Mode) (text : List ℕ) (start : ℕ) → 1 ≤ start → start ≤ length text → get_or text (start - 1) 0 ≡ 10 → mode_after m (take start text) ≡ Code
mode_line m text start some within is =
    let before : (start - 1) + 1 ≡ start = omega arith in
    let cut : take start text ≡ take (start - 1) text ++ 10 ∷ [] =
    ap (λ k. take k text) (sym before) ∙ (take_more text (start - 1) 0 (omega arith) ∙ ap (λ b. take (start - 1) text ++ b ∷ []) is) in
    ap (mode_after m) cut ∙ (mode_after-append m (take (start - 1) text) (10 ∷ []) ∙ newline_code (mode_after m (take (start - 1) text)))

-- the mode at the start of a line
pub mode_front : (m line : Mode) (text : List ℕ) (start : ℕ) → start ≤ length text → (1 ≤ start → get_or text (start - 1) 0 ≡ 10) → (start ≡ 0 → line ≡ m) → (1 ≤ start → line ≡ Code)
    → line ≡ mode_after m (take start text)
mode_front m line text zero within newline first other = first refl
mode_front m line text (suc n) within newline first other = other (omega arith) ∙ sym (mode_line m text (suc n) (omega arith) within (newline (omega arith)))

-- the bytes of a line, behind those before it
line_whole : (text : List ℕ) (start left n : ℕ) → n ≤ left - start → take start text ++ take n (take (left - start) (drop start text)) ≡ take (start + n) text
line_whole text start left n le = ap (λ (l : List ℕ). take start text ++ l) (take-take n (left - start) (drop start text) le) ∙ sym (take-add start n text)

pub line_long : (text : List ℕ) (start left : ℕ) → start ≤ left → left ≤ length text → length (take (left - start) (drop start text)) ≡ left - start
line_long text start left up within = length-take-le (left - start) (drop start text) (let d : length (drop start text) ≡ length text - start = length-drop start text in omega arith)

-- no end comes in a line behind its last one
pub line_last : (m line : Mode) (text : List ℕ) (start left count : ℕ) → start ≤ left → left ≤ length text → line ≡ mode_after m (take start text)
    → EndsLast line (take (left - start) (drop start text)) count (length (take (left - start) (drop start text)))
    → (k : ℕ) → start + count ≤ k → k < left → IsEnded m (take (k + 1) text) → ⊥
line_last m line text start left count up within is e k from upto h =
    let j : ℕ = k - start in
    let same : start + (j + 1) ≡ k + 1 = omega arith in
    let long : length (take (left - start) (drop start text)) ≡ left - start = line_long text start left up within in
    let split : IsEnded m (take start text ++ take (j + 1) (take (left - start) (drop start text))) =
    subst (IsEnded m) (sym (line_whole text start left (j + 1) (omega arith))) (subst (λ i. IsEnded m (take i text)) (sym same) h) in
    let piece : length (take (j + 1) (take (left - start) (drop start text))) ≡ j + 1 = length-take-le (j + 1) (take (left - start) (drop start text)) (omega arith) in
    e.last j (omega arith) (omega arith)
    (subst (λ i. IsEnded i (take (j + 1) (take (left - start) (drop start text)))) (sym is) (ended_rest m (take start text) (take (j + 1) (take (left - start) (drop start text))) (omega arith) split))

-- the last end of a line is one of the text
pub line_ended : (m line : Mode) (text : List ℕ) (start left count : ℕ) → start ≤ left → left ≤ length text → line ≡ mode_after m (take start text)
    → EndsLast line (take (left - start) (drop start text)) count (length (take (left - start) (drop start text))) → 1 ≤ count → IsEnded m (take (start + count) text)
line_ended m line text start left count up within is e some =
    let long : length (take (left - start) (drop start text)) ≡ left - start = line_long text start left up within in
    let few : count ≤ length (take (left - start) (drop start text)) = e.within in
    let here : IsEnded (mode_after m (take start text)) (take count (take (left - start) (drop start text))) = subst (λ k. IsEnded k (take count (take (left - start) (drop start text)))) is (e.ended some) in
    subst (IsEnded m) (line_whole text start left count (omega arith)) (ended_after m (take start text) (take count (take (left - start) (drop start text))) here)

-- the mode behind the last line
pub line_mode : (m line now : Mode) (text : List ℕ) (start : ℕ) → start ≤ length text → line ≡ mode_after m (take start text)
    → now ≡ mode_after line (take (length text - start) (drop start text)) → now ≡ mode_after m text
line_mode m line now text start within is behind =
    let all : take (length text - start) (drop start text) ≡ drop start text = take_rest text start in
    behind ∙ ((λ i. mode_after (is i) (all i)) ∙ (sym (mode_after-append m (take start text) (drop start text)) ∙ ap (mode_after m) (take-append-drop start text)))

-- what is known of the lines from one on, and of that line
pub lines_found : (m : Mode) (text : List ℕ) (count left : ℕ) → left ≤ length text → count ≤ left → (1 ≤ count → IsEnded m (take count text))
    → ((k : ℕ) → count ≤ k → k < left → IsEnded m (take (k + 1) text) → ⊥) → ((k : ℕ) → left ≤ k → k < length text → IsEnded m (take (k + 1) text) → ⊥)
    → EndsLast m text count (length text)
lines_found m text count left within upto ended here behind = record {
  ended = ended;
  within = omega arith;
  last = λ k from less. elim (cases_lt k left) as (λ _. IsEnded m (take (k + 1) text) → ⊥) [ inl lt ↦ here k from lt | inr le ↦ behind k le less ];
}

-- what is known of the lines before the last one, and of that one
pub front_last : (m : Mode) (text : List ℕ) (start count : ℕ) → start ≤ length text → EndsLast m (take start text) count (length (take start text))
    → ((k : ℕ) → start ≤ k → k < length text → IsEnded m (take (k + 1) text) → ⊥)
    → (k : ℕ) → count ≤ k → k < length text → IsEnded m (take (k + 1) text) → ⊥
front_last m text start count within e behind k from upto =
    let long : length (take start text) ≡ start = length-take-le start text within in
    elim (cases_lt k start) as (λ _. IsEnded m (take (k + 1) text) → ⊥) [
      | inl lt ↦ λ h. e.last k from (omega arith) (subst (IsEnded m) (sym (take-take (k + 1) start text (omega arith))) h)
      | inr le ↦ behind k le upto
    ]
