-- What calls of a source or a sink do to the bytes left in it or taken by it, where these are known.
use Rattle.std.specs.Prelude.{◌≡◌, ℕ, ◌+◌, ◌-◌, ◌^◌, ◌<◌, ◌≤◌, ◌⊎◌, List, length, take, Option, Some, None, ⊤}
use Rattle.std.specs.Io.KnownBytes.{Consumes, Appends, IsAtEnd}

-- where a count of failures stops
abbrev pub last_count : ℕ
last_count = 2 ^ 64 - 1

-- a failure came in the call: the count rose, or stands at its last value
abbrev pub HasFailed : ℕ → ℕ → Type 0
HasFailed old new = (old < new) ⊎ (new ≡ last_count)

-- what a read of n bytes into the buffer does
pub record Reads (left_old left_new : Option (List ℕ)) (most_old most_new : ℕ) (buffer : List ℕ) (n : ℕ) : Type 0 where
  pub within : n ≤ length buffer
  pub bytes : Consumes left_old left_new (take n buffer)
  pub end : n ≡ 0 → 0 < length buffer → IsAtEnd left_new
  pub most : most_new + n ≡ most_old

-- what a write of n bytes of the piece does
pub record Writes (taken_old taken_new : Option (List ℕ)) (piece : List ℕ) (n : ℕ) : Type 0 where
  pub within : n ≤ length piece
  pub some : 0 < length piece → 0 < n
  pub bytes : Appends taken_old taken_new (take n piece)

-- known bytes lose some at their front, and the count of those that can still come falls by as many
abbrev pub LosesFront : (left_old left_new : Option (List ℕ)) → (most_old most_new : ℕ) → Type 0
LosesFront left_old left_new most_old most_new = (front : List ℕ) × Consumes left_old left_new front × (most_new + length front ≡ most_old)

-- known bytes grow by a prefix of the text
abbrev pub AppendsPrefix : Option (List ℕ) → Option (List ℕ) → List ℕ → Type 0
AppendsPrefix old new text = (n : ℕ) × Appends old new (take n text)

-- known bytes are more than the limit
abbrev pub IsLongerThan : Option (List ℕ) → ℕ → Type 0
IsLongerThan None limit = ⊤
IsLongerThan (Some bytes) limit = limit < length bytes

-- a buffer in memory: the bytes that it took, and how many writes have failed
pub record Buffered : Type 0 where
  pub bytes : List ℕ
  pub failures : ℕ
