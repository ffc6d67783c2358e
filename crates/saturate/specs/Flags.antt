-- Numbers that are flagged.
use Rattle.std.specs.Prelude.{◌≡◌, ◌≢◌, ◌↔◌, ◌⊎◌, ◌<◌, ℕ, Bool, true, false, not, List, [], ◌∷◌, ◌++◌, slice_index_or, Option, Some}
use Rattle.std.specs.List.{Contains, filter}
use Rattle.facts.specs.declared.contexts.Context.{Context}
use Rattle.facts.specs.declared.contexts.Context.TheVariants.{Individual}
use Rattle.facts.specs.declared.contexts.Fact.{Fact}
use Rattle.facts.specs.Closure.{Problem}
use Rattle.normal_forms.specs.declared.forms.Form.{Form}
use Rattle.normal_forms.specs.declared.forms.Form.TheVariants.{N10, N12}
use Rattle.indexes.specs.declared.index.Index.{Index}
use Rattle.indexes.specs.Contexts.{at_context}
use Rattle.indexes.specs.FactIndex.{IsIndex}
use Rattle.inference.specs.Visits.{AreWithin}
use Rattle.inference.specs.Derivations.{Derived}
use Rattle.saturate.specs.Requests.{Denies, IsSuchAt}
use Rattle.saturate.specs.IndexedFacts.{ListsFacts}
use Rattle.saturate.specs.Turns.{option_list}

-- whether the number is flagged: past the end it is not
abbrev pub is_flagged : List Bool → ℕ → Bool
is_flagged flags n = slice_index_or flags n false

abbrev pub is_kept : List Bool → ℕ → Bool
is_kept flags n = not (is_flagged flags n)

-- those that are not flagged
abbrev pub kept : List Bool → List ℕ → List ℕ
kept flags numbers = filter (is_kept flags) numbers

-- those that are
abbrev pub asked : List Bool → List ℕ → List ℕ
asked flags numbers = filter (is_flagged flags) numbers

-- the numbers are those that are flagged
abbrev pub AreThoseFlagged : List Bool → List ℕ → Type 0
AreThoseFlagged flags numbers = (n : ℕ) → (is_flagged flags n ≡ true) ↔ Contains numbers n

-- the numbers that were flagged are, and those that are such
pub record AreFlaggedToo (P : ℕ → Type 0) (old new : List Bool) : Type 0 where
  pub each : (n : ℕ) → (is_flagged new n ≡ true) ↔ ((is_flagged old n ≡ true) ⊎ P n)

-- the number is such for one of these
abbrev pub IsSuchForOne : {X : Type 0} → (X → ℕ → Type 0) → List X → ℕ → Type 0
IsSuchForOne {X} Q xs n = (x : X) × Contains xs x × Q x n

-- that number is flagged, and each other as it was
pub record HasOneFlagMore (n : ℕ) (old new : List Bool) : Type 0 where
  pub here : is_flagged new n ≡ true
  pub others : (i : ℕ) → i ≢ n → is_flagged new i ≡ is_flagged old i

-- the number is flagged exactly where its fact is such
pub record IsFlagged (P : Fact → Type 0) (facts : List Fact) (flags : List Bool) (n : ℕ) : Type 0 where
  pub yes : is_flagged flags n ≡ true → IsSuchAt P facts n
  pub no : is_flagged flags n ≡ false → ¬ IsSuchAt P facts n

-- the fact of that number is listed at the context
abbrev pub IsListedAt : Index → Context → ℕ → Type 0
IsListedAt index x n = Contains (at_context index.classes x) n ⊎ (Contains (at_context index.from x) n ⊎ Contains (at_context index.into x) n)

-- the numbers that are listed are below the bound
abbrev pub AreListedBelow : ℕ → Index → Type 0
AreListedBelow bound index = (x : Context) (n : ℕ) → IsListedAt index x n → n < bound

-- the fact is listed at an individual that the form makes one with another, or is an edge that the form denies
abbrev pub IsListedFor : List Form → Index → List Fact → Form → ℕ → Type 0
IsListedFor all index facts (N10 a b) n = IsListedAt index (Individual a) n ⊎ IsListedAt index (Individual b) n
IsListedFor all index facts (N12 a r b) n = Contains (at_context index.from (Individual a)) n × IsSuchAt (Denies all (N12 a r b)) facts n
IsListedFor all index facts _ n = ⊥

-- of the numbers whose facts the index lists exactly those are flagged whose facts are such
abbrev pub FlagsServed : (Fact → Type 0) → List Fact → Index → List Bool → Type 0
FlagsServed P facts index flags = (served most : List ℕ) → AreWithin facts served → IsIndex facts served most index → (n : ℕ) → Contains served n → IsFlagged P facts flags n

-- an index that lists the facts of some numbers, and then that one too, unless it is flagged
abbrev pub ListsUnlessFlagged : Problem → Derived → List Bool → ℕ → Index → Index → Type 0
ListsUnlessFlagged k d flags n old new = (w : List ℕ) → ListsFacts k d w w old → ListsFacts k d (w ++ kept flags (n ∷ [])) (w ++ kept flags (n ∷ [])) new

-- an index that lists the facts of some numbers, and then those of them that are not flagged
abbrev pub ListsThoseKept : Derived → List Bool → Index → Index → Type 0
ListsThoseKept d flags old new = (k : Problem) (w m : List ℕ) → ListsFacts k d w m old → ListsFacts k d (kept flags w) (kept flags m) new

-- an index that lists the facts of those numbers that are not flagged, and none but those of the numbers and the one in hand, and then none but those that it
-- lists
abbrev pub ListsServedStill : Derived → List Bool → Option ℕ → Index → Index → Type 0
ListsServedStill d flags hand old new = (k : Problem) (served : List ℕ) → ((n : ℕ) → hand ≡ Some n → ¬ Contains served n) → ListsFacts k d (kept flags served) (served ++ option_list hand) old → ListsFacts k d (kept flags served) (kept flags served) new
