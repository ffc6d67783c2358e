-- The classes next to a class or to an individual, in groups of those that are the same.
use Rattle.std.specs.Prelude.{◌≡◌, ◌↔◌, ℕ, ◌<◌, List, Bool, true, false, length, map, slice_get, Some}
use Rattle.std.specs.List.{Contains}
use Rattle.answers.specs.Entailment.{BelongsTo, LiesBelow}
use Rattle.answers.specs.Names.{AreInByteOrder, AreThose, IsMarked}
use Rattle.program.specs.declared.question.Side.{Side}
use Rattle.program.specs.declared.question.Side.TheVariants.{Above, Below}
use Rattle.axioms.specs.Expression.{Iri, owl_nothing}
use Rattle.axioms.specs.Ontology.{Ontology, name_at}
use Rattle.classification.specs.Lists.{PutsBelow}
use Rattle.facts.specs.declared.contexts.Fact.{Fact}
use Rattle.taxonomy.specs.Relation.{is_listed}

-- each of the two classes lies below the other
abbrev pub AreSame : Ontology → Iri → Iri → Type 0
AreSame o c d = LiesBelow o c d × LiesBelow o d c

-- the class lies below the other, and that not below it
abbrev pub LiesStrictlyBelow : Ontology → Iri → Iri → Type 0
LiesStrictlyBelow o c d = LiesBelow o c d × (LiesBelow o d c → ⊥)

-- it lies strictly below the other, and no named class lies strictly between
pub record LiesDirectlyBelow (o : Ontology) (c d : Iri) : Type 0 where
  pub strictly : LiesStrictlyBelow o c d
  pub next : (e : Iri) → Contains o.names.classes e → LiesStrictlyBelow o c e → LiesStrictlyBelow o e d → ⊥

-- the individual belongs to the class, and to no named class that lies strictly below it
pub record IsDirectType (o : Ontology) (individual class : Iri) : Type 0 where
  pub belongs : BelongsTo o individual class
  pub next : (e : Iri) → Contains o.names.classes e → BelongsTo o individual e → LiesStrictlyBelow o e class → ⊥

-- the first of the names
abbrev pub first_of : List Iri → Iri
first_of names = name_at names 0

-- the classes that have the property, by groups: a group has exactly the named classes that are the same as one that has it, in byte order;
-- and the groups are in the order of their first names
pub record AreGroups (o : Ontology) (P : Iri → Type 0) (groups : List (List Iri)) : Type 0 where
  pub ordered : AreInByteOrder (map first_of groups)
  pub each : (group : List Iri) → Contains groups group → (class : Iri) × Contains o.names.classes class × P class × AreThose o.names.classes (AreSame o class) group
  pub all : (class : Iri) → Contains o.names.classes class → P class → (group : List Iri) × Contains groups group × Contains group class

-- ---- by number

-- the marks are on exactly the names that have the property
pub record AreMarksOf (names : List Iri) (P : Iri → Type 0) (marks : List Bool) : Type 0 where
  pub long : length marks ≡ length names
  pub exact : (n : ℕ) → n < length names → IsMarked marks n ↔ P (name_at names n)

-- the others are on exactly those of the marked names that have the property; of names without a mark it says nothing
pub record AreMarksAmong (marks : List Bool) (names : List Iri) (P : Iri → Type 0) (others : List Bool) : Type 0 where
  pub long : length others ≡ length names
  pub exact : (n : ℕ) → IsMarked marks n → IsMarked others n ↔ P (name_at names n)

-- the fact puts a class that is marked below another one
abbrev pub PutsMarked : Ontology → List Bool → Fact → ℕ → ℕ → Type 0
PutsMarked o marks fact c d = IsMarked marks c × PutsBelow o fact c d

-- a fact of one of these numbers puts a class below that of number d
abbrev pub PutsOneBelow : Ontology → List Fact → (numbers : List ℕ) → ℕ → Type 0
PutsOneBelow o facts numbers d = (n : ℕ) × (fact : Fact) × (c : ℕ) × Contains numbers n × (slice_get facts n ≡ Some fact) × PutsBelow o fact c d

-- of two classes that are below one another the one that is farther from what lies on that side of it
abbrev pub farther : Side → (low high : ℕ) → ℕ
farther Above low high = high
farther Below low high = low

-- it is the farther one of a class and of one that is marked and has not the class in its list
abbrev pub IsFartherOf : (lists : List (List ℕ)) → (marks : List Bool) → Side → (low high : ℕ) → ℕ → Type 0
IsFartherOf lists marks side low high n = IsMarked marks high × (is_listed lists high low ≡ false) × (n ≡ farther side low high)

-- it is that of the class and of one in its list
abbrev pub IsFartherFrom : (lists : List (List ℕ)) → (marks : List Bool) → Side → (low : ℕ) → ℕ → Type 0
IsFartherFrom lists marks side low n = (high : ℕ) × (is_listed lists low high ≡ true) × IsFartherOf lists marks side low high n

-- it is that of some class
abbrev pub IsFarther : (lists : List (List ℕ)) → (marks : List Bool) → Side → ℕ → Type 0
IsFarther lists marks side n = (low : ℕ) × IsFartherFrom lists marks side low n

-- a class that is the same as one of the names is one of them
abbrev pub IsClosed : Ontology → List Iri → Type 0
IsClosed o names = (name other : Iri) → Contains names name → Contains o.names.classes other → AreSame o name other → Contains names other

-- the lists have of this class exactly the numbers of the classes that are the same, with both ways
abbrev pub TellsGroup : Ontology → (lists : List (List ℕ)) → Iri → Type 0
TellsGroup o lists name =
    (n d : ℕ) → slice_get o.names.classes n ≡ Some name →
    ((is_listed lists n d ≡ true) × (is_listed lists d n ≡ true)) ↔ ((d < length o.names.classes) × AreSame o name (name_at o.names.classes d))

-- the one is strictly nearer than the other to what lies on that side of both
abbrev pub IsNearer : Ontology → Side → Iri → Iri → Type 0
IsNearer o Above near far = LiesStrictlyBelow o near far
IsNearer o Below near far = LiesStrictlyBelow o far near

-- the class has the property, and no class that has it is strictly nearer
pub record IsNearest (o : Ontology) (P : Iri → Type 0) (side : Side) (name : Iri) : Type 0 where
  pub has : P name
  pub next : (other : Iri) → Contains o.names.classes other → P other → IsNearer o side other name → ⊥

-- the marks are on satisfiable classes, and with a class on all that are the same
pub record AreSatisfiable (o : Ontology) (marks : List Bool) : Type 0 where
  pub satisfiable : (n : ℕ) → IsMarked marks n → LiesBelow o (name_at o.names.classes n) owl_nothing → ⊥
  pub closed : (n m : ℕ) → IsMarked marks n → m < length o.names.classes → AreSame o (name_at o.names.classes n) (name_at o.names.classes m) → IsMarked marks m

-- with a class that is marked exactly those are that are the same
abbrev pub AreOneGroup : Ontology → List Bool → Type 0
AreOneGroup o marks = (n m : ℕ) → IsMarked marks n → m < length o.names.classes → IsMarked marks m ↔ AreSame o (name_at o.names.classes n) (name_at o.names.classes m)
