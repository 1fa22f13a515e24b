-- A source or a sink over one call.
use Rattle.std.specs.Prelude.{◌≡◌, ℕ, List, Option, take}
use Rattle.std.specs.Io.KnownBytes.{Appends}
use Rattle.pq_io.specs.Faults.{Rose}

-- The bytes that a source has left, or that a sink holds, before the call and after it, where it tells
-- them, and its count of faults before and after.
pub record Moved : Type 0 where
  pub before : Option (List ℕ)
  pub after : Option (List ℕ)
  pub was : ℕ
  pub now : ℕ

-- a device before and after the call, by what it tells and by its count of faults
abbrev pub moved : {A : Type 0} → (A → Option (List ℕ)) → (A → ℕ) → A → A → Moved
moved tells faults old new = record { before = tells old; after = tells new; was = faults old; now = faults new }

-- the count of faults rose in the call
abbrev pub HasFaulted : Moved → Type 0
HasFaulted device = Rose device.was device.now

-- whatever comes, the count of faults doesn't rise
abbrev pub NeverFails : {A : Type 0} → (A → ℕ) → Type 0
NeverFails {A} faults = (old new : A) → ¬ Rose (faults old) (faults new)

-- The sink holds the whole line more where its count of faults didn't rise, and else a prefix of it.
pub record Noted (device : Moved) (line : List ℕ) : Type 0 where
  pub count : ℕ
  pub front : Appends device.before device.after (take count line)
  pub whole : (HasFaulted device → ⊥) → take count line ≡ line
