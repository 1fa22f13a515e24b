-- Bytes that are taken or put piece by piece.
use Rattle.std.proofs.Common.{◌≡◌, ℕ, ◌+◌, ◌-◌, ◌<◌, ◌≤◌, min, List, [], ◌++◌, length, take, drop, sym, ap, ◌∙◌, subst, arith}
use Rattle.std.specs.Prelude.{Option}
use Rattle.std.specs.Io.KnownBytes.{Appends, Consumes}
use Rattle.std.proofs.KnownBytes.{Appends-trans, Consumes-trans}
use Rattle.std.proofs.Math.Seq.{take-add}
use Rattle.std.proofs.lemmas.List.{take_rest, take_at, take-append-drop, drop-drop, length-take-le, length-drop, nil_from_length}

-- A prefix of the text was put, and then a prefix of its rest.
pub Appends-more : (before between after : Option (List ℕ)) (text : List ℕ) (sent count : ℕ) → Appends before between (take sent text)
    → Appends between after (take count (take (length text - sent) (drop sent text))) → Appends before after (take (sent + count) text)
Appends-more before between after text sent count put more =
    let rest : Appends between after (take count (drop sent text)) = subst (λ (piece : List ℕ). Appends between after (take count piece)) (take_rest text sent) more in
    subst (Appends before after) (sym (take-add sent count text)) (Appends-trans before between after _ _ put rest)

-- A prefix of a buffer was taken, and then what comes after it there.
pub Consumes-more : (before between after : Option (List ℕ)) (front buffer : List ℕ) (filled count : ℕ) → take filled buffer ≡ front
    → Consumes before between front → Consumes between after (take count (drop filled buffer)) → Consumes before after (take (filled + count) buffer)
Consumes-more before between after front buffer filled count same taken more =
    subst (Consumes before after) (sym (take-add filled count buffer))
    (Consumes-trans before between after _ _ (subst (Consumes before between) (sym same) taken) more)

-- A call copied the prefix of what is left of the items from a place on, as much as there is of it, as there was room for, and as a step allows.
pub record Copies (items into copied : List ℕ) (at step count : ℕ) : Type 0 where
  pub within : at ≤ length items
  pub some : 0 < step
  pub number : count ≡ min step (min (length into) (length (take (length items - at) (drop at items))))
  pub bytes : copied ≡ take count (take (length items - at) (drop at items)) ++ drop count into

-- What is left splits into what was copied and the rest.
pub Copies-front : (items into copied : List ℕ) (at step count : ℕ) → Copies items into copied at step count → drop at items ≡ take count copied ++ drop (at + count) items
Copies-front items into copied at step count h =
    let left = drop at items in
    let all = take_rest items at in
    let short : count ≤ length left = omega (arith, h.number, ap length all) in
    let front : take count copied ≡ take count left =
    ap (take count) (h.bytes ∙ ap (λ l. take count l ++ drop count into) all) ∙ take_at (take count left) (drop count into) count (length-take-le count left short) in
    sym (take-append-drop count left) ∙ ap (λ l. take count left ++ l) (drop-drop count at items) ∙ ap (λ l. l ++ drop (at + count) items) (sym front)

-- Where there was room and nothing was copied, nothing is left.
pub Copies-end : (items into copied : List ℕ) (at step count : ℕ) → Copies items into copied at step count → 0 < length into → count ≡ 0 → drop (at + count) items ≡ []
Copies-end items into copied at step count h room none =
    let all = take_rest items at in
    nil_from_length (drop (at + count) items) (omega (arith, h.number, h.some, ap length all, length-drop at items, length-drop (at + count) items))
