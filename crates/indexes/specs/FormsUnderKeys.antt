-- Forms under a key.
use Rattle.std.specs.Prelude.{◌≡◌, ◌==◌, ℕ, zero, suc, Bool, false, cond, List, [], ◌∷◌, ◌++◌, slice_get, Option, Some, None}
use Rattle.std.specs.Option.{option_and_then}
use Rattle.normal_forms.specs.declared.forms.Form.{Form}
use Rattle.indexes.specs.declared.keys.Key.{Key}
use Rattle.indexes.specs.declared.keys.Key.TheVariants.{Whole, Partial}

-- the form at the place has the key
abbrev pub IsUnder : (Form → Option Key) → List Form → Key → ℕ → Type 0
IsUnder key forms k n = (form : Form) × (slice_get forms n ≡ Some form) × (key form ≡ Some k)

-- whether the other is that key
abbrev pub is_key : Key → Option Key → Bool
is_key k None = false
is_key (Whole i) (Some (Whole j)) = i == j
is_key (Whole i) (Some (Partial j)) = false
is_key (Partial i) (Some (Whole j)) = false
is_key (Partial i) (Some (Partial j)) = i == j

-- there is something of that number, and it has the key
abbrev pub HasKeyAt : {X : Type 0} → (X → Option Key) → (ℕ → Option X) → Key → ℕ → Type 0
HasKeyAt {X} key there k n = (x : X) × (there n ≡ Some x) × (key x ≡ Some k)

-- the numbers below n of what has the key, in order
abbrev pub numbers_under : {X : Type 0} → (X → Option Key) → (ℕ → Option X) → Key → ℕ → List ℕ
numbers_under key there k zero = []
numbers_under key there k (suc n) = numbers_under key there k n ++ cond (is_key k (option_and_then key (there n))) (n ∷ []) []
