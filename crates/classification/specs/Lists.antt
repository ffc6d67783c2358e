-- What facts say of named classes and individuals, as lists of classes.
use Rattle.std.specs.Prelude.{◌≡◌, ◌↔◌, ◌⊎◌, ◌<◌, ℕ, List, [], Bool, true, length, slice_get, Some}
use Rattle.axioms.specs.Ontology.{Ontology, IsClassAt, nothing}
use Rattle.axioms.specs.declared.ids.ExprId.{ExprId}
use Rattle.axioms.specs.declared.ids.IndId.{IndId}
use Rattle.closure.specs.Closure.{Expression, IsFact}
use Rattle.closure.specs.Closure as closure
use Rattle.facts.specs.declared.contexts.Context.TheVariants as contexts
use Rattle.facts.specs.declared.contexts.Fact.{Fact}
use Rattle.facts.specs.declared.contexts.Fact.TheVariants.{In}
use Rattle.normal_forms.specs.declared.forms.Class2.TheVariants.{Expr}
use Rattle.normal_forms.specs.Forms.{Whole}
use Rattle.taxonomy.specs.Relation.{is_listed, lies_below}

-- the fact puts the class of number c below that of number d
abbrev pub PutsBelow : Ontology → Fact → ℕ → ℕ → Type 0
PutsBelow o fact c d = (e : ExprId) × (f : ExprId) × (fact ≡ In (Expr f) (contexts.Expr e)) × IsClassAt o c e.0 × IsClassAt o d f.0

-- the fact puts the individual of number a into the class of number d
abbrev pub PutsInto : Ontology → Fact → ℕ → ℕ → Type 0
PutsInto o fact a d = (i : IndId) × (f : ExprId) × (fact ≡ In (Expr f) (contexts.Individual i)) × (i.0 ≡ a) × IsClassAt o d f.0

-- an individual that has a class is there
abbrev pub IsAboutIndividualOf : Ontology → Fact → Type 0
IsAboutIndividualOf o (In class (contexts.Individual i)) = i.0 < length o.names.individuals
IsAboutIndividualOf o _ = Unit {0}

-- some fact does
abbrev pub SomeFact : List Fact → (Fact → Type 0) → Type 0
SomeFact facts P = (n : ℕ) × (fact : Fact) × (slice_get facts n ≡ Some fact) × P fact

-- the new lists are as many as the old ones, and have their numbers and those that are put there
pub record Adds (puts : ℕ → ℕ → Type 0) (old new : List (List ℕ)) : Type 0 where
  pub long : length new ≡ length old
  pub each : (c d : ℕ) → (is_listed new c d ≡ true) ↔ ((is_listed old c d ≡ true) ⊎ puts c d)

-- so many lists, which have exactly the numbers that facts put there
pub record AreListsBy (puts : Fact → ℕ → ℕ → Type 0) (count : ℕ) (facts : List Fact) (lists : List (List ℕ)) : Type 0 where
  pub long : length lists ≡ count
  pub each : (c d : ℕ) → (is_listed lists c d ≡ true) ↔ SomeFact facts (λ fact. puts fact c d)

-- the list of each class has exactly the classes that a fact puts above it
abbrev pub AreClassLists : Ontology → List Fact → List (List ℕ) → Type 0
AreClassLists o facts lists = AreListsBy (PutsBelow o) (length o.names.classes) facts lists

-- the list of each individual has exactly the classes that a fact puts it into
abbrev pub AreTypeLists : Ontology → List Fact → List (List ℕ) → Type 0
AreTypeLists o facts lists = AreListsBy (PutsInto o) (length o.names.individuals) facts lists

-- ---- by the closure

-- a class lies below what is a fact of it, and below all where owl:Nothing is
pub record IsTaxonomyOf (o : Ontology) (rows : List (List Bool)) : Type 0 where
  pub long : length rows ≡ length o.names.classes
  pub below : (c d e f : ℕ) → IsClassAt o c e → IsClassAt o d f → (lies_below rows c d ≡ true) ↔ (IsFact o [] (closure.In (Whole nothing) (Expression e)) ⊎ IsFact o [] (closure.In (Whole f) (Expression e)))

-- an individual belongs to what is a fact of it, and to named classes alone
pub record AreTypesOf (o : Ontology) (lists : List (List ℕ)) : Type 0 where
  pub long : length lists ≡ length o.names.individuals
  pub over : (a d : ℕ) → is_listed lists a d ≡ true → d < length o.names.classes
  pub types : (a d f : ℕ) → a < length o.names.individuals → IsClassAt o d f → (is_listed lists a d ≡ true) ↔ IsFact o [] (closure.In (Whole f) (closure.Individual a))
