-- What rewriting in place leaves is the rewritten list.
use Rattle.std.proofs.Common.{◌≡◌, ℕ, ◌+◌, ◌-◌, ◌<◌, ◌≤◌, List, ◌++◌, length, map, get_or, take, drop, sym, ap, ◌∙◌, arith, append_assoc}
use Rattle.std.specs.List.{copy_within}
use Rattle.std.proofs.lemmas.List.{drop-drop, take-take, take-append-le}
use Rattle.pq_gate.specs.declared.gate.Gate.{Gate}
use Rattle.pq_rules.specs.Renaming.{renamed}
use Rattle.pq_rules.specs.Row.{RowView, IsSound, Uses}
use Rattle.pq_match.specs.Redex.{IsMatch, last_place}
use Rattle.pq_match.specs.Rewrite.{unchosen, rewritten}
use Rattle.pq_match.proofs.RewritingLists.{moved_down}
use Rattle.pq_match.proofs.RewritingWires.{all_renamed_same, places_long}

-- lists that are alike from a place on are alike from each later place on
alike_later : (xs ys : List Gate) (i j : ℕ) → i ≤ j → drop i xs ≡ drop i ys → drop j xs ≡ drop j ys
alike_later xs ys i j upto same =
    let e : j ≡ i + (j - i) = omega arith in
    ap (λ n. drop n xs) e ∙ sym (drop-drop (j - i) i xs) ∙ ap (λ (zs : List Gate). drop (j - i) zs) same
    ∙ drop-drop (j - i) i ys ∙ ap (λ n. drop n ys) (sym e)

-- the wires that were read lead the replacement where the redex does
replacement_alike : (row : RowView) (read wires : List ℕ) → IsSound row
    → ((w : ℕ) → Uses row.pattern w → get_or read w 0 ≡ get_or wires w 0)
    → map (renamed read) row.replacement ≡ map (renamed wires) row.replacement
replacement_alike row read wires sound right =
    all_renamed_same row.wires read wires row.replacement sound.same.right (λ w inside. right w (sound.wires.used w inside))

-- the gates were closed up before `end`, the replacement put behind them, and the rest moved down behind it
pub rewritten_is : (row : RowView) (old closed filled moved : List Gate) (places wires read : List ℕ) (kept end : ℕ) → IsSound row
    → IsMatch old row.pattern wires places
    → ((w : ℕ) → Uses row.pattern w → get_or read w 0 ≡ get_or wires w 0)
    → end ≡ last_place places + 1 → end ≤ length old → length filled ≡ length old
    → take kept closed ≡ unchosen places 0 (take end old) → drop end closed ≡ drop end old → kept + length places ≡ end
    → take (kept + length row.replacement) filled ≡ take kept closed ++ map (renamed read) row.replacement
    → drop (kept + length row.replacement) filled ≡ drop (kept + length row.replacement) closed
    → moved ≡ copy_within filled end (length filled) (kept + length row.replacement)
    → take ((kept + length row.replacement) + (length filled - end)) moved ≡ rewritten old row.replacement (record { row = 0; wires = wires; places = places })
rewritten_is row old closed filled moved places wires read kept end sound is right last inside long closed_is rest count front behind moved_is =
    let shorter : length row.replacement < length row.pattern = sound.shortens.shorter in
    let as_many : length places ≡ length row.pattern = places_long old row.pattern wires places is.chosen in
    let filling = kept + length row.replacement in
    let ends : drop end filled ≡ drop end old = alike_later filled closed filling end (omega arith) behind ∙ rest in
    let kept_is : unchosen places 0 (take end old) ≡ unchosen places 0 (take (last_place places + 1) old) = ap (λ n. unchosen places 0 (take n old)) last in
    let ends_is : drop end old ≡ drop (last_place places + 1) old = ap (λ n. drop n old) last in
    ap (λ (gates : List Gate). take (filling + (length filled - end)) gates) moved_is
    ∙ moved_down filled end filling (omega arith) (omega arith)
    ∙ ap (λ (gates : List Gate). gates ++ drop end filled) (front ∙ ap (λ (gates : List Gate). gates ++ map (renamed read) row.replacement) (closed_is ∙ kept_is)
    ∙ ap (λ (gates : List Gate). unchosen places 0 (take (last_place places + 1) old) ++ gates) (replacement_alike row read wires sound right))
    ∙ ap (λ (gates : List Gate). (unchosen places 0 (take (last_place places + 1) old) ++ map (renamed wires) row.replacement) ++ gates) (ends ∙ ends_is)
    ∙ append_assoc (unchosen places 0 (take (last_place places + 1) old)) (map (renamed wires) row.replacement) (drop (last_place places + 1) old)

-- what is left of a list whose prefix was written and whose end cut off
pub cut_front : {X : Type 0} (xs ys : List X) (n k : ℕ) → n ≤ k → n ≤ length xs → take n (take k (xs ++ ys)) ≡ take n xs
cut_front xs ys n k few inside = take-take n k (xs ++ ys) few ∙ take-append-le n xs ys inside
