-- Which starts wait to be searched, and what is noted of the others.
use Rattle.std.specs.Prelude.{◌≡◌, ℕ, ◌+◌, ◌*◌, ◌/◌, ◌%◌, ◌<◌, ◌≤◌, ◌⊎◌, ◌↔◌, List, bit_and, length, slice_index, slice_index_or}
use Rattle.std.specs.Int.{bit_at}
use Rattle.pq_match.specs.declared.looked.Looked.{Looked}

-- the set in these words has the number
pub record HasNumber (words : List ℕ) (number : ℕ) : Type 0 where
  pub has : bit_at (slice_index words (number / 64)) (number % 64) ≡ 1

-- starts: those that wait, those that failed, what was looked at there, and the room that was asked for
pub record StartsView : Type 0 where
  pub waiting : List ℕ
  pub failed : List ℕ
  pub reach : List ℕ
  pub masks : List ℕ
  pub room : ℕ

-- the start waits to be searched
abbrev pub IsWaiting : StartsView → ℕ → Type 0
IsWaiting starts start = HasNumber starts.waiting start

-- it was noted that its search failed,
abbrev pub IsNotedFailed : StartsView → ℕ → Type 0
IsNotedFailed starts start = HasNumber starts.failed start

-- and what that looked at
abbrev pub noted : StartsView → ℕ → Looked
noted starts start = record { reach = slice_index starts.reach start; mask = slice_index starts.masks start }

-- a search looked no farther than this, and at no other wires
pub record LooksWithin (reach mask : ℕ) (looked : Looked) : Type 0 where
  pub near : reach ≤ looked.reach
  pub among : bit_and mask looked.mask ≡ mask

-- nothing was looked at
abbrev pub nowhere : Looked
nowhere = record { reach = 0; mask = 0 }

-- none of the starts of a word that failed looked farther than is noted for the word, or at other wires
pub record AreWithin (failed reach masks : List ℕ) (looked : List Looked) : Type 0 where
  pub each : (start : ℕ) → HasNumber failed start → LooksWithin (slice_index reach start) (slice_index masks start) (slice_index_or looked (start / 64) nowhere)

-- the words before this one have no number
pub record NoneBefore (words : List ℕ) (word : ℕ) : Type 0 where
  pub none : (number : ℕ) → number < 64 * word → HasNumber words number → ⊥

-- The lists have the room that was asked for, what is noted for the words is so, and none waits in the words below the
-- lowest one.
pub record HaveStartsRoom (starts : StartsView) (looked : List Looked) (lowest : ℕ) : Type 0 where
  pub few : length starts.waiting ≤ 1024
  pub failed : length starts.failed ≡ length starts.waiting
  pub reach : length starts.reach ≡ 64 * length starts.waiting
  pub masks : length starts.masks ≡ 64 * length starts.waiting
  pub room : starts.room ≤ 64 * length starts.waiting
  pub noted : length looked ≡ length starts.waiting
  pub within : AreWithin starts.failed starts.reach starts.masks looked
  pub none : NoneBefore starts.waiting lowest

-- what is known of another start stays
pub record IsSameOf (start : ℕ) (old new : StartsView) : Type 0 where
  pub waits : IsWaiting new start ↔ IsWaiting old start
  pub failed : IsNotedFailed new start ↔ IsNotedFailed old start
  pub reach : slice_index new.reach start ≡ slice_index old.reach start
  pub masks : slice_index new.masks start ≡ slice_index old.masks start

-- more starts wait, and nothing else changed
pub record WaitMore (old new : StartsView) : Type 0 where
  pub waits : (start : ℕ) → IsWaiting old start → IsWaiting new start
  pub failed : new.failed ≡ old.failed
  pub reach : new.reach ≡ old.reach
  pub masks : new.masks ≡ old.masks
  pub room : new.room ≡ old.room

-- a search looked at no place from the first one on, or at none of the wires
abbrev pub IsUnmet : List ℕ → List ℕ → ℕ → ℕ → ℕ → Type 0
IsUnmet reach masks first wires start = (slice_index reach start ≤ first) ⊎ (bit_and (slice_index masks start) wires ≡ 0)

-- each start before the end that failed waits if its search looked behind the first place and at one of the wires
pub record AreWoken (waiting failed reach masks : List ℕ) (first end wires : ℕ) : Type 0 where
  pub each : (start : ℕ) → start < end → HasNumber failed start → (HasNumber waiting start → ⊥) → IsUnmet reach masks first wires start

-- so it is with all starts of a word
pub record AreWokenIn (waiting failed reach masks : List ℕ) (word first wires : ℕ) : Type 0 where
  pub each : (start : ℕ) → start / 64 ≡ word → HasNumber failed start → (HasNumber waiting start → ⊥) → IsUnmet reach masks first wires start

-- the same by the bits of the word
pub record AreMet (left base : ℕ) (reach masks : List ℕ) (first wires found : ℕ) : Type 0 where
  pub each : (bit : ℕ) → bit < 64 → bit_at left bit ≡ 1 → (bit_at found bit ≡ 1) ⊎ IsUnmet reach masks first wires (base + bit)
