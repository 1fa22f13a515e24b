-- The names of registers.
use Rattle.std.specs.Prelude.{◌≡◌, ℕ, ◌≤◌, ◌⊎◌, Bool, not, ◌&&◌, ◌||◌, ◌==◌, List, [], ◌∷◌, length, slice_index, bytes_eq, All, Contains, codes}
use Rattle.std.specs.List.{list_any, list_all}
use Rattle.pq_limits.specs.declared.TheConstants.{MAX_NAME}
use Rattle.std.specs.Char.{is_ascii_lowercase, is_ascii_alphanumeric, IsAsciiLowercase, IsAsciiAlphanumeric}

-- the words of the language, which are no names
unfoldable pub reserved_words : List (List ℕ)
reserved_words =
    codes "qreg" ∷ codes "creg" ∷ codes "gate" ∷ codes "opaque" ∷ codes "barrier" ∷ codes "measure"
    ∷ codes "reset" ∷ codes "if" ∷ codes "include" ∷ codes "pi" ∷ codes "sin" ∷ codes "cos" ∷ codes "tan"
    ∷ codes "exp" ∷ codes "ln" ∷ codes "sqrt" ∷ []

-- a letter, a digit or `_`
abbrev pub IsNameByte : ℕ → Type 0
IsNameByte b = IsAsciiAlphanumeric b ⊎ (b ≡ 95)

-- A lower-case letter, then letters, digits or `_`, and no word of the language. A text without a first
-- byte has 0 there, which is no letter.
pub record IsLawfulName (name : List ℕ) : Type 0 where
  pub first : IsAsciiLowercase (slice_index name 0)
  pub bytes : All IsNameByte name
  pub free : ¬ Contains reserved_words name

-- the same as a test
abbrev pub is_name_byte : ℕ → Bool
is_name_byte b = is_ascii_alphanumeric b || b == 95

unfoldable pub is_name : List ℕ → Bool
is_name name = is_ascii_lowercase (slice_index name 0) && (list_all is_name_byte name && not (list_any (λ word. bytes_eq word name) reserved_words))

-- a lawful name that a register may have: it has at most MAX_NAME bytes
pub record IsRegisterName (name : List ℕ) : Type 0 where
  pub lawful : IsLawfulName name
  pub short : length name ≤ MAX_NAME
