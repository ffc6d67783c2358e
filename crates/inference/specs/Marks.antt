-- Marks of facts, and masks of properties, by which it is told that no chain joins two edges, and that an edge carries nothing for a class.
use Rattle.std.specs.Prelude.{◌≡◌, ℕ, ◌<◌, ◌%◌, List, [], ◌∷◌, length, slice_get, Some}
use Rattle.std.specs.List.{Contains}
use Rattle.std.specs.Int.{bit_at}
use Rattle.normal_forms.specs.declared.forms.Form.{Form}
use Rattle.axioms.specs.declared.ids.PropId.{PropId}
use Rattle.normal_forms.specs.declared.forms.Class2.{Class2}
use Rattle.normal_forms.specs.declared.forms.Form.TheVariants.{N4, N6}
use Rattle.normal_forms.specs.declared.forms.PropId2.{PropId2}
use Rattle.normal_forms.specs.declared.forms.PropId2.TheVariants.{Property, Partial}
use Rattle.normal_forms.specs.Properties.{IsAtOrBelow}
use Rattle.facts.specs.declared.contexts.Fact.{Fact}
use Rattle.facts.specs.declared.contexts.Fact.TheVariants.{In, Edge}
use Rattle.facts.specs.Closure.{Problem, Carries, nothing}
use Rattle.indexes.specs.declared.keys.Key.TheVariants.{Whole}
use Rattle.indexes.specs.Keys.{by_chain, by_end, by_filler, by_restricted, class_key, property_key}
use Rattle.indexes.specs.FormsUnderKeys.{IsUnder, numbers_under}
use Rattle.number_sets.specs.Pieces.{list_at}
use Rattle.inference.specs.Derivations.{Derived}
use Rattle.inference.specs.Completeness.{DrawnUpToRedundancy, IsDrawnFrom}
use Rattle.inference.specs.Visits.{IsBy, IsClassFact}

-- a mark below the greatest is the number of the property of an edge
abbrev pub IsMark : ℕ → Fact → Type 0
IsMark mark f = mark < 65535 → IsBy (Property (record { 0 = mark })) f

-- each mark is that of the fact at its place
abbrev pub AreMarks : List Fact → List ℕ → Type 0
AreMarks facts marks = (n mark : ℕ) → slice_get marks n ≡ Some mark → (f : Fact) × (slice_get facts n ≡ Some f) × IsMark mark f

-- which bit of a mask stands for a property: others may have the same
abbrev pub bit_of : PropId2 → ℕ
bit_of (Property p) = p.0 % 64
bit_of (Partial n) = n % 64

-- the mask has the bit of the property
abbrev pub HasBit : ℕ → PropId2 → Type 0
HasBit mask s = bit_at mask (bit_of s) ≡ 1

-- it has the bit of the second property of the chain at the place, if there is one
abbrev pub HasSecondAt : List Form → ℕ → ℕ → Type 0
HasSecondAt forms mask n = (r s t : PropId2) → slice_get forms n ≡ Some (N6 r s t) → HasBit mask s

-- it has the bits of the second properties of the chains that begin with r
abbrev pub HasSecondsFrom : List Form → ℕ → PropId2 → Type 0
HasSecondsFrom forms mask r = (n : ℕ) → IsUnder by_chain forms (property_key r) n → HasSecondAt forms mask n

-- it has the bits of the second properties of the chains that begin with p, or a property above it
abbrev pub HasSeconds : List Form → ℕ → PropId2 → Type 0
HasSeconds forms mask p = (r : PropId2) → IsAtOrBelow forms p r → HasSecondsFrom forms mask r

-- it has the bit of s, if a chain ends with it
abbrev pub HasEnd : List Form → ℕ → PropId2 → Type 0
HasEnd forms mask s = (n : ℕ) → IsUnder by_end forms (property_key s) n → HasBit mask s

-- it has the bits of those of q and the properties above it with which a chain ends
abbrev pub HasEnds : List Form → ℕ → PropId2 → Type 0
HasEnds forms mask q = (s : PropId2) → IsAtOrBelow forms q s → HasEnd forms mask s

-- the fact is an edge, and the mask has the bits of the second properties of the chains that its property may begin
abbrev pub HasSecondsOf : List Form → ℕ → Fact → Type 0
HasSecondsOf forms mask (In a x) = ⊥
HasSecondsOf forms mask (Edge x p y) = HasSeconds forms mask p

-- the fact is an edge, and the mask has the bits of the properties that its property may stand for at the end of a chain
abbrev pub HasEndsOf : List Form → ℕ → Fact → Type 0
HasEndsOf forms mask (In a x) = ⊥
HasEndsOf forms mask (Edge x p y) = HasEnds forms mask p

-- it has the bits of p and of the properties above it
abbrev pub HasAbove : List Form → ℕ → PropId2 → Type 0
HasAbove forms mask p = (r : PropId2) → IsAtOrBelow forms p r → HasBit mask r

-- it has the bit of the property of the restriction at the place, if there is one
abbrev pub HasFilledAt : List Form → ℕ → ℕ → Type 0
HasFilledAt forms mask n = (r : PropId) (a b : Class2) → slice_get forms n ≡ Some (N4 r a b) → HasBit mask (Property r)

-- it has the bits of the properties of the restrictions that the class fills, and all bits where each edge carries the class
pub record HasFilled (forms : List Form) (mask : ℕ) (c : Class2) : Type 0 where
  pub restrictions : (n : ℕ) → IsUnder by_filler forms (class_key c) n → HasFilledAt forms mask n
  pub all : c ≡ nothing → (p : PropId2) → HasBit mask p

-- the fact is an edge, and the mask has the bits of its property and of those above it
abbrev pub HasAboveOf : List Form → ℕ → Fact → Type 0
HasAboveOf forms mask (In a x) = ⊥
HasAboveOf forms mask (Edge x p y) = HasAbove forms mask p

-- the fact puts a class into a context, and the mask has the bits of the properties of the restrictions that the class fills
abbrev pub HasFilledOf : List Form → ℕ → Fact → Type 0
HasFilledOf forms mask (In a x) = HasFilled forms mask a
HasFilledOf forms mask (Edge x p y) = ⊥

-- ---- restrictions by their properties, and what they give from an edge

-- the number of each property that one of the forms is a restriction on is below the bound
abbrev pub AreRestrictionsWithin : List Form → ℕ → Type 0
AreRestrictionsWithin forms bound = (r n : ℕ) → IsUnder by_restricted forms (Whole r) n → r < bound

-- the list of each property has the numbers of those of the first so many forms that are restrictions on it, in order
abbrev pub AreRestrictionsBefore : List Form → ℕ → List (List ℕ) → Type 0
AreRestrictionsBefore forms many lists = (r : ℕ) → list_at lists r ≡ numbers_under by_restricted (slice_get forms) (Whole r) many

-- the list of each property has the numbers of the restrictions on it, in order
abbrev pub AreRestrictions : List Form → List (List ℕ) → Type 0
AreRestrictions forms lists = AreRestrictionsBefore forms (length forms) lists

-- if the form at the place is a restriction, what it gives from the edge and each fact that was there is there
abbrev pub IsFilled : Problem → Fact → List Fact → List Fact → ℕ → Type 0
IsFilled k edge old new n = (r : PropId) (a b : Class2) → slice_get k.forms n ≡ Some (N4 r a b) → (g : Fact) → Contains old g → IsDrawnFrom k (edge ∷ g ∷ []) new n

-- it is so at each of the places
abbrev pub AreFilled : Problem → Fact → List Fact → List Fact → List ℕ → Type 0
AreFilled k edge old new places = (n : ℕ) → Contains places n → IsFilled k edge old new n

-- it is so for each restriction on r
abbrev pub AreFilledOn : Problem → Fact → List Fact → List Fact → PropId2 → Type 0
AreFilledOn k edge old new r = (n : ℕ) → IsUnder by_restricted k.forms (property_key r) n → IsFilled k edge old new n

-- it is so for each restriction
abbrev pub AllFilled : Problem → Fact → List Fact → List Fact → Type 0
AllFilled k edge old new = (n : ℕ) → IsFilled k edge old new n

-- owl:Nothing is at the source of the edge, if it was at its target
abbrev pub IsNothingCarried : Fact → List Fact → List Fact → Type 0
IsNothingCarried edge old new = (g h : Fact) → Contains old g → Carries edge g h → Contains new h

-- what the edge gives as the first of two, with each class in a context that was there as the second, is there or redundant
abbrev pub MeetsClasses : Problem → Fact → List Fact → Derived → Type 0
MeetsClasses k edge old new = (g : Fact) → Contains old g → IsClassFact g → DrawnUpToRedundancy k (edge ∷ g ∷ []) new
