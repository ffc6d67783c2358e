-- What a file holds.
use Rattle.std.specs.Prelude.{◌≡◌, ℕ, ◌⊎◌, List, Bool, true, false, Option, Some, take}
use Rattle.system_files.specs.Contents.{Content}

-- the file holds the text, as far as it is known what files hold
abbrev pub Holds : Bool → Option (List ℕ) → List ℕ → Type 0
Holds true held text = held ≡ Some text
Holds false held text = Unit {0}

-- the file holds what it held, as far as it is known what files hold
abbrev pub Stays : Bool → (old new : Option (List ℕ)) → Type 0
Stays true old new = new ≡ old
Stays false old new = Unit {0}

-- the file holds a prefix of the text, or what it held, as far as it is known what files hold
abbrev pub HoldsPrefix : Bool → (old new : Option (List ℕ)) → List ℕ → Type 0
HoldsPrefix true old new text = (new ≡ old) ⊎ ((n : ℕ) × (new ≡ Some (take n text)))
HoldsPrefix false old new text = Unit {0}

-- files at other paths are as they were
abbrev pub AreOtherFilesKept : (path : List ℕ) → (content content' : Content) → Type 0
AreOtherFilesKept path content content' = (other : List ℕ) → ¬ (other ≡ path) → content' other ≡ content other
