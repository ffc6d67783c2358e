-- What files hold, by their paths, and what becomes of that where they are read or written.
use Rattle.std.specs.Prelude.{◌≡◌, ◌⊎◌, ℕ, List, [], ◌∷◌, Bool, true, false, Option, Some, None, IsSome, length, refl, if◌then◌else◌}
use Rattle.std.proofs.Common.{inl, inr}
use Rattle.std.specs.Io.KnownBytes.{IsAtEnd}

-- the bytes of the file at a path: `None` where there is none, or where they are not known
abbrev pub Content : Type 0
Content = List ℕ → Option (List ℕ)

-- the files hold what they did
abbrev pub AreKept : Content → Content → Type 0
AreKept old new = (path : List ℕ) → new path ≡ old path

-- where there was a place for a file there still is
abbrev pub PlacesStay : (List ℕ → Bool) → (List ℕ → Bool) → Type 0
PlacesStay old new = (path : List ℕ) → old path ≡ true → new path ≡ true

-- there is a file that holds this, as far as it is known
abbrev pub IsThere : Bool → Option (List ℕ) → Type 0
IsThere true held = IsSome held
IsThere false held = Unit {0}

-- it is known that there is no file
abbrev pub IsMissing : Bool → Option (List ℕ) → Type 0
IsMissing true held = held ≡ None
IsMissing false held = ⊥

-- a source of a file can give as many bytes as the file holds, where these are known
abbrev pub GivesAll : Option (List ℕ) → (most : ℕ) → Type 0
GivesAll None most = Unit {0}
GivesAll (Some bytes) most = most ≡ length bytes

-- a source can give nothing, and is not at its end: each read of it fails
pub record IsStuck (left : Option (List ℕ)) (most : ℕ) : Type 0 where
  pub none : most ≡ 0
  pub before_end : ¬ IsAtEnd left

-- what a new sink has taken, where files are known or not
abbrev pub nothing_taken : Bool → Option (List ℕ)
nothing_taken true = Some []
nothing_taken false = None

-- some bytes were taken, as far as it is known
abbrev pub HasTakenSome : Option (List ℕ) → Type 0
HasTakenSome None = Unit {0}
HasTakenSome (Some []) = ⊥
HasTakenSome (Some (b ∷ bs)) = Unit {0}

-- the sink of the file at a path is closed, which has taken these bytes: the file holds them, or, where they are none, what
-- it held. All other files are as they were
pub record IsClosed (old new : Content) (path : List ℕ) (taken : Option (List ℕ)) : Type 0 where
  pub written : HasTakenSome taken → new path ≡ taken
  pub unwritten : taken ≡ Some [] → new path ≡ old path
  pub others : (other : List ℕ) → ¬ (other ≡ path) → new other ≡ old other

-- the file at the path holds these bytes, and all others are as they were
pub record IsPut (old new : Content) (path bytes : List ℕ) : Type 0 where
  pub put : new path ≡ Some bytes
  pub others : (other : List ℕ) → ¬ (other ≡ path) → new other ≡ old other

-- ---- what the laws of files rest on

-- what is left in a source of a file, of which so many bytes were read, and how many it can give: of a file that is missing one that it
-- never gives
abbrev pub left_of : (is_missing : Bool) → (rest : List ℕ) → List ℕ
left_of true rest = 0 ∷ []
left_of false rest = rest

abbrev pub most_of : (is_missing : Bool) → (rest : List ℕ) → ℕ
most_of true rest = 0
most_of false rest = length rest

not_nothing : (b : ℕ) → b ∷ [] ≡ [] → ⊥
not_nothing b bad = absurd (cc)

-- a source in memory has not failed, or is that of a file that is missing
pub unfailed_or_stuck : (is_missing : Bool) (rest : List ℕ) (failures : ℕ) → (if is_missing then 0 else failures) ≡ 0 → (failures ≡ 0) ⊎ IsStuck (Some (left_of is_missing rest)) (most_of is_missing rest)
unfailed_or_stuck true rest failures is = inr (record { none = refl; before_end = not_nothing 0 })
unfailed_or_stuck false rest failures is = inl is

pub not_false : {P : Type 0} → true ≡ false → P
not_false bad = absurd (cc)

pub not_true : {P : Type 0} → false ≡ true → P
not_true bad = absurd (cc)

none_taken : (bytes : List ℕ) → length bytes ≡ 0 → HasTakenSome (Some bytes) → ⊥
none_taken [] none some = some
none_taken (b ∷ bs) none some = absurd (cc)

-- a sink that takes nothing, and so has no bytes, has taken nothing
pub shut_is_untaken : (shut : Bool) (bytes : List ℕ) → (if shut then length bytes else 0) ≡ 0 → shut ≡ true → ¬ HasTakenSome (Some bytes)
shut_is_untaken true bytes none is some = none_taken bytes none some
shut_is_untaken false bytes none is some = absurd (cc)
