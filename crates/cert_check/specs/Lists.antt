-- Lists of classes: for each class, or for each individual, the classes that lines put above it, and for each element the classes
-- that it is in.
use Rattle.std.specs.Prelude.{◌≡◌, ℕ, ◌<◌, ◌==◌, ◌↔◌, ◌⊎◌, List, Bool, true, length, map, slice_get, Option, Some}
use Rattle.std.specs.List.{Contains, list_any}
use Rattle.axioms.specs.Ontology.{Ontology, IsClassAt}
use Rattle.certificate.specs.Certificate.{Expression, Individual, Conclusion, Sub, Line}
use Rattle.number_sets.specs.Pieces.{list_at}
use Rattle.taxonomy.specs.Relation.{is_listed, is_below}
use Rattle.taxonomy.specs.Texts.{nothing_class}
use Rattle.cert_check.specs.Additions.{SomeRow, IsListedMember, thing_class}

-- whether the number is among these
abbrev pub has_number : List ℕ → ℕ → Bool
has_number numbers n = list_any (λ m. m == n) numbers

-- so many lists, of numbers below a bound
pub record AreLists (count bound : ℕ) (lists : List (List ℕ)) : Type 0 where
  pub long : length lists ≡ count
  pub within : (k n : ℕ) → is_listed lists k n ≡ true → n < bound

-- the new lists have the numbers of the old ones, and those that are added
pub record AddsNumbers (adds : ℕ → ℕ → Type 0) (old new : List (List ℕ)) : Type 0 where
  pub long : length new ≡ length old
  pub each : (k n : ℕ) → k < length old → (is_listed new k n ≡ true) ↔ ((is_listed old k n ≡ true) ⊎ adds k n)

-- ---- what lines put above a class or an individual

-- what the lines say
abbrev pub said_by : List Line → List Conclusion
said_by lines = map (λ l. l.conclusion) lines

-- the conclusion puts the class of number c below that of number d
abbrev pub PutsBelow : Ontology → Conclusion → ℕ → ℕ → Type 0
PutsBelow o conclusion c d = (e : ℕ) × (f : ℕ) × (conclusion ≡ Sub (Expression e) f) × IsClassAt o c e × IsClassAt o d f

-- the conclusion puts the individual of number a into the class of number d
abbrev pub PutsInto : Ontology → Conclusion → ℕ → ℕ → Type 0
PutsInto o conclusion a d = (f : ℕ) × (conclusion ≡ Sub (Individual a) f) × IsClassAt o d f

-- the list of each class has exactly the classes that a conclusion puts above it
pub record AreSuperclasses (o : Ontology) (said : List Conclusion) (lists : List (List ℕ)) : Type 0 where
  pub long : length lists ≡ length o.names.classes
  pub each : (c d : ℕ) → c < length lists → (is_listed lists c d ≡ true) ↔ SomeRow said (λ a. PutsBelow o a c d)

-- the list of each individual has exactly the classes that a conclusion puts it into
pub record AreTypes (o : Ontology) (said : List Conclusion) (lists : List (List ℕ)) : Type 0 where
  pub long : length lists ≡ length o.names.individuals
  pub each : (a d : ℕ) → a < length lists → (is_listed lists a d ≡ true) ↔ SomeRow said (λ b. PutsInto o b a d)

-- the list of each element has owl:Thing and the classes that are listed with the element
pub record AreElementClasses (o : Ontology) (domain : ℕ) (classes : List (ℕ × List ℕ)) (lists : List (List ℕ)) : Type 0 where
  pub long : length lists ≡ domain
  pub each : (x c : ℕ) → x < length lists → (is_listed lists x c ≡ true) ↔ ((c ≡ thing_class) ⊎ IsListedMember o classes c x)

-- ---- claims and elements

-- the element that is claimed for each class, by the number of the class, where there is a claim
pub record AreClaimed (o : Ontology) (claims : List (ℕ × ℕ)) (claimed : List (Option ℕ)) : Type 0 where
  pub long : length claimed ≡ length o.names.classes
  pub each : (c e x : ℕ) → IsClassAt o c e → (slice_get claimed c ≡ Some (Some x)) ↔ Contains claims (e, x)

-- the class, if it is one, has owl:Nothing in its list or a claimed element
abbrev pub IsClaimed : List (List ℕ) → List (Option ℕ) → ℕ → Type 0
IsClaimed above claimed c = c < length above → (is_listed above c nothing_class ≡ true) ⊎ ((x : ℕ) × (slice_get claimed c ≡ Some (Some x)))

-- the element is in exactly these classes
abbrev pub IsInExactly : List (List ℕ) → ℕ → List ℕ → Type 0
IsInExactly holding x classes = (d : ℕ) → is_listed holding x d ≡ has_number classes d

-- the claimed element of the class, if there is one, is in it, and in exactly the classes of its list
abbrev pub ClaimAgrees : List (List ℕ) → List (Option ℕ) → List (List ℕ) → ℕ → Type 0
ClaimAgrees above claimed holding c =
    c < length above → (x : ℕ) → slice_get claimed c ≡ Some (Some x) → (is_listed holding x c ≡ true) × IsInExactly holding x (list_at above c)

-- the element of the individual, if it is one, is in exactly the classes of its list
abbrev pub ElementAgrees : List (List ℕ) → List ℕ → List (List ℕ) → ℕ → Type 0
ElementAgrees types elements holding a = a < length types → (x : ℕ) → slice_get elements a ≡ Some x → IsInExactly holding x (list_at types a)

-- ---- the relation

-- each class lies below itself, and below what lies above a class that it lies below
pub record ArePreorder (lists : List (List ℕ)) : Type 0 where
  pub reflexive : (c : ℕ) → c < length lists → is_below lists c c ≡ true
  pub transitive : (c d e : ℕ) → c < length lists → d < length lists → e < length lists → is_below lists c d ≡ true → is_below lists d e ≡ true → is_below lists c e ≡ true
