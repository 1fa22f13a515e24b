-- Names, and the words that are none.
use Rattle.std.proofs.Common.{◌≡◌, ℕ, Bool, true, false, not, ◌&&◌, List, get_or, Contains, bytes_eq, Decides, IsTrue, ◌↔◌, refl, sym, ◌∙◌, subst, arith}
use Rattle.std.specs.List.{list_any}
use Rattle.std.specs.Char.{is_ascii_lowercase, IsAsciiLowercase}
use Rattle.std.proofs.lemmas.Bool.{false≢true}
use Rattle.std.proofs.lemmas.Bool.Decides.{nat_tests}
use Rattle.std.proofs.lemmas.List.Sums.{AllPass-from_list_all, list_all-from_AllPass}
use Rattle.std.proofs.lemmas.List.Elements.{All-weaker}
use Rattle.pq_text.specs.Name.{IsNameByte, IsLawfulName, reserved_words, is_name_byte, is_name}
use Rattle.std.proofs.lemmas.List.Folds.{Any-from_list_any, list_any_at}
use Rattle.std.proofs.lemmas.Slice.Eq.{bytes_eq-Decides}

-- some word is equal to the name where the list of words contains it
pub list_any_decides : (words : List (List ℕ)) (name : List ℕ) → Decides (list_any (λ word. bytes_eq word name) words) (Contains words name)
list_any_decides words name = (
  λ yes. let some = Any-from_list_any (λ word. bytes_eq word name) words yes in
      (some.0, some.2, subst (λ w. get_or words some.0 w ≡ w) ((bytes_eq-Decides some.1 name).0 some.4) some.3),
  λ among. list_any_at (λ word. bytes_eq word name) words among.0 name among.1 ((bytes_eq-Decides (get_or words among.0 name) name).1 among.2),
)

pub and_both : (a b : Bool) → (a && b) ≡ true → (a ≡ true) × (b ≡ true)
and_both true b h = (refl, h)
and_both false b h = absurd (false≢true h)

both_and : (a b : Bool) → a ≡ true → b ≡ true → (a && b) ≡ true
both_and a b p q = λ i. p i && q i

not_true : (b : Bool) → not b ≡ true → b ≡ true → ⊥
not_true true h e = false≢true h
not_true false h e = false≢true e

true_not : (b : Bool) → (b ≡ true → ⊥) → not b ≡ true
true_not true h = absurd (h refl)
true_not false h = refl

lower : (c : ℕ) → is_ascii_lowercase c ≡ true → IsAsciiLowercase c
lower c h = grind (arith, nat_tests)

is_lower : (c : ℕ) → IsAsciiLowercase c → is_ascii_lowercase c ≡ true
is_lower c h = grind (arith, nat_tests)

name_byte : (c : ℕ) → is_name_byte c ≡ true → IsNameByte c
name_byte c h = grind (arith, nat_tests)

is_byte : (c : ℕ) → IsNameByte c → is_name_byte c ≡ true
is_byte c h = grind (arith, nat_tests)

pub name_is_lawful : (w : List ℕ) → is_name w ≡ true → IsLawfulName w
unfolding is_name
name_is_lawful w h =
    let front = and_both _ _ h in
    let back = and_both _ _ front.1 in
    record {
      first = lower (get_or w 0 0) front.0;
      bytes = All-weaker (λ b. is_name_byte b ≡ true) IsNameByte name_byte w (AllPass-from_list_all is_name_byte w back.0);
      free = λ among. not_true _ back.1 ((list_any_decides reserved_words w).1 among);
    }

pub lawful_is_name : (w : List ℕ) → IsLawfulName w → is_name w ≡ true
unfolding is_name
lawful_is_name w n =
    both_and _ _ (is_lower (get_or w 0 0) n.first)
    (both_and _ _ (list_all-from_AllPass is_name_byte w (All-weaker IsNameByte (λ b. is_name_byte b ≡ true) is_byte w n.bytes))
    (true_not _ (λ yes. n.free ((list_any_decides reserved_words w).0 yes))))

pub lawful_told : (b : Bool) (w : List ℕ) → b ≡ is_name w → IsTrue b ↔ IsLawfulName w
lawful_told b w is = (λ yes. name_is_lawful w (sym is ∙ yes), λ lawful. is ∙ lawful_is_name w lawful)
