-- How an ontology grows by expressions, names and axioms, read in order: what is new comes last, each at its first place.
use Rattle.std.specs.Prelude.{◌≡◌, ℕ, ◌<◌, ◌≤◌, ◌⊎◌, List, [], ◌∷◌, ◌++◌, Bool, length, map, slice_get, Some, Result, Ok, Err, Vec}
use Rattle.std.specs.declared.alloc.Global.{Global}
use Rattle.std.specs.Str.{bytes_eq}
use Rattle.std.specs.List.{filter_map, flat_map}
use Rattle.axioms.specs.Axiom.{Axiom}
use Rattle.axioms.specs.Expression.{Iri, ClassExpression}
use Rattle.axioms.specs.Growth.{most_names}
use Rattle.axioms.specs.Ontology as numbered
use Rattle.axioms.specs.Ontology.{Ontology, trees, axiom_tree, axiom_trees}
use Rattle.axioms.specs.Numbering.{Statement, first_places, same_expression, class_name, parts, properties_in, logical_axiom, statement_expressions, statement_properties, statement_individuals}
use Rattle.axioms.specs.View.{expr_numbers, ind_numbers, prop_numbers}
use Rattle.axioms.specs.declared.fault.BuildFault.{BuildFault}
use Rattle.axioms.specs.declared.fault.BuildFault.TheVariants.{TooManyNames, Memory}
use Rattle.axioms.specs.declared.ids.ExprId.{ExprId}
use Rattle.axioms.specs.declared.ids.IndId.{IndId}
use Rattle.axioms.specs.declared.ids.PropId.{PropId}

-- what was there keeps its place, and of what is added the first places follow
pub record Appends {A : Type 0} (same : A → A → Bool) (old added new : List A) : Type 0 where
  pub places : new ≡ first_places same (old ++ added)
  pub rest : List A
  pub keeps : new ≡ old ++ rest

-- new is old with these expressions, properties, individuals and axioms
pub record Grows (expressions : List ClassExpression) (properties individuals : List Iri) (axioms : List Axiom) (old new : Ontology) : Type 0 where
  pub trees_grow : Appends same_expression (trees old) expressions (trees new)
  pub classes_grow : Appends bytes_eq old.names.classes (filter_map class_name expressions) new.names.classes
  pub properties_grow : Appends bytes_eq old.names.properties properties new.names.properties
  pub individuals_grow : Appends bytes_eq old.names.individuals individuals new.names.individuals
  pub axioms_grow : axiom_trees new ≡ axiom_trees old ++ axioms

-- the first list is the prefix of the second
abbrev pub IsPrefix : {A : Type 0} → List A → List A → Type 0
IsPrefix {A} xs ys = (rest : List A) × (ys ≡ xs ++ rest)

-- old's expressions and axioms, as they are kept, have the same numbers in new
pub record KeepsNumbers (old new : Ontology) : Type 0 where
  pub nodes : IsPrefix old.nodes new.nodes
  pub axioms : IsPrefix old.axioms new.axioms

-- of each kind as many names as there may be
pub record HasFewNames (o : Ontology) : Type 0 where
  pub classes : length o.names.classes ≤ most_names
  pub properties : length o.names.properties ≤ most_names
  pub individuals : length o.names.individuals ≤ most_names

-- new is old with these, what was there keeps its number, and no kind has got too many names
pub record Adds (expressions : List ClassExpression) (properties individuals : List Iri) (axioms : List Axiom) (old new : Ontology) : Type 0 where
  pub grows : Grows expressions properties individuals axioms old new
  pub kept : KeepsNumbers old new
  pub few_names : HasFewNames old → HasFewNames new

-- each of these has the number beside it
abbrev pub AreNumbers : {A : Type 0} → List A → List ℕ → List A → Type 0
AreNumbers all numbers xs = map (slice_get all) numbers ≡ map Some xs

-- the expression is added, and now has this number
pub record HasAdded (old new : Ontology) (number : ℕ) (c : ClassExpression) : Type 0 where
  pub adds : Adds (c ∷ []) [] [] [] old new
  pub at : slice_get (trees new) number ≡ Some c

-- ---- too many names

-- more names than a kind may have
abbrev pub AreTooMany : List Iri → Type 0
AreTooMany names = most_names < length names

-- with these expressions, properties and individuals a kind has too many names
abbrev pub Overflows : List ClassExpression → List Iri → List Iri → Ontology → Type 0
Overflows expressions properties individuals o =
    AreTooMany (first_places bytes_eq (o.names.classes ++ filter_map class_name expressions))
    ⊎ (AreTooMany (first_places bytes_eq (o.names.properties ++ properties))
    ⊎ AreTooMany (first_places bytes_eq (o.names.individuals ++ individuals)))

-- ---- what reading answers

-- the class expression is added with its parts, and has the number
pub record ReadsClass (c : ClassExpression) (old new : Ontology) (number : ℕ) : Type 0 where
  pub adds : Adds (parts c) (properties_in c) [] [] old new
  pub at : slice_get (trees new) number ≡ Some c

abbrev pub ClassRead : Result ExprId BuildFault → ClassExpression → Ontology → Ontology → Type 0
ClassRead (Ok e) c old new = ReadsClass c old new e.0
ClassRead (Err TooManyNames) c old new = Overflows (parts c) (properties_in c) [] old
ClassRead (Err Memory) c old new = Unit {0}

-- the class expressions are added with their parts, in their order, and each has the number beside it
pub record ReadsClasses (cs : List ClassExpression) (old new : Ontology) (numbers : List ℕ) : Type 0 where
  pub adds : Adds (flat_map parts cs) (flat_map properties_in cs) [] [] old new
  pub at : AreNumbers (trees new) numbers cs

abbrev pub ClassesRead : Result (Vec ExprId Global) BuildFault → List ClassExpression → Ontology → Ontology → Type 0
ClassesRead (Ok es) cs old new = ReadsClasses cs old new (expr_numbers es.items)
ClassesRead (Err TooManyNames) cs old new = Overflows (flat_map parts cs) (flat_map properties_in cs) [] old
ClassesRead (Err Memory) cs old new = Unit {0}

-- a property
abbrev pub ReadsProperty : Iri → Ontology → Ontology → ℕ → Type 0
ReadsProperty r old new number = Adds [] (r ∷ []) [] [] old new × (slice_get new.names.properties number ≡ Some r)

abbrev pub PropertyRead : Result PropId BuildFault → Iri → Ontology → Ontology → Type 0
PropertyRead (Ok p) r old new = ReadsProperty r old new p.0
PropertyRead (Err TooManyNames) r old new = Overflows [] (r ∷ []) [] old
PropertyRead (Err Memory) r old new = Unit {0}

-- the properties are added, in their order, and each has the number beside it
pub record ReadsProperties (rs : List Iri) (old new : Ontology) (numbers : List ℕ) : Type 0 where
  pub adds : Adds [] rs [] [] old new
  pub at : AreNumbers new.names.properties numbers rs

abbrev pub PropertiesRead : Result (Vec PropId Global) BuildFault → List Iri → Ontology → Ontology → Type 0
PropertiesRead (Ok ps) rs old new = ReadsProperties rs old new (prop_numbers ps.items)
PropertiesRead (Err TooManyNames) rs old new = Overflows [] rs [] old
PropertiesRead (Err Memory) rs old new = Unit {0}

-- an individual
abbrev pub ReadsIndividual : Iri → Ontology → Ontology → ℕ → Type 0
ReadsIndividual a old new number = Adds [] [] (a ∷ []) [] old new × (slice_get new.names.individuals number ≡ Some a)

abbrev pub IndividualRead : Result IndId BuildFault → Iri → Ontology → Ontology → Type 0
IndividualRead (Ok i) a old new = ReadsIndividual a old new i.0
IndividualRead (Err TooManyNames) a old new = Overflows [] [] (a ∷ []) old
IndividualRead (Err Memory) a old new = Unit {0}

-- the individuals are added, in their order, and each has the number beside it
pub record ReadsIndividuals (individuals : List Iri) (old new : Ontology) (numbers : List ℕ) : Type 0 where
  pub adds : Adds [] [] individuals [] old new
  pub at : AreNumbers new.names.individuals numbers individuals

abbrev pub IndividualsRead : Result (Vec IndId Global) BuildFault → List Iri → Ontology → Ontology → Type 0
IndividualsRead (Ok ids) individuals old new = ReadsIndividuals individuals old new (ind_numbers ids.items)
IndividualsRead (Err TooManyNames) individuals old new = Overflows [] [] individuals old
IndividualsRead (Err Memory) individuals old new = Unit {0}

-- a property, a source and a target are added, and have these numbers
pub record ReadsPair (r a b : Iri) (old new : Ontology) (property source target : ℕ) : Type 0 where
  pub adds : Adds [] (r ∷ []) (a ∷ b ∷ []) [] old new
  pub property_at : slice_get new.names.properties property ≡ Some r
  pub source_at : slice_get new.names.individuals source ≡ Some a
  pub target_at : slice_get new.names.individuals target ≡ Some b

abbrev pub PairRead : Result (PropId × IndId × IndId) BuildFault → Iri → Iri → Iri → Ontology → Ontology → Type 0
PairRead (Ok ids) r a b old new = ReadsPair r a b old new ids.0.0 ids.1.0 ids.2.0
PairRead (Err TooManyNames) r a b old new = Overflows [] (r ∷ []) (a ∷ b ∷ []) old
PairRead (Err Memory) r a b old new = Unit {0}

-- an axiom over what is there
abbrev pub AxiomRead : Result (Unit {0}) BuildFault → numbered.Axiom → Ontology → Ontology → Type 0
AxiomRead (Ok _) a old new = Adds [] [] [] (axiom_tree old a ∷ []) old new
AxiomRead (Err TooManyNames) a old new = ⊥
AxiomRead (Err Memory) a old new = Unit {0}

-- a statement, with all that it brings
abbrev pub StatementRead : Result (Unit {0}) BuildFault → Statement → Ontology → Ontology → Type 0
StatementRead (Ok _) s old new = Adds (statement_expressions s) (statement_properties s) (statement_individuals s) (filter_map logical_axiom (s ∷ [])) old new
StatementRead (Err TooManyNames) s old new = Overflows (statement_expressions s) (statement_properties s) (statement_individuals s) old
StatementRead (Err Memory) s old new = Unit {0}

-- ---- statements, in their order

-- new is old with all that the statements bring
abbrev pub AddsStatements : List Statement → Ontology → Ontology → Type 0
AddsStatements ss old new = Adds (flat_map statement_expressions ss) (flat_map statement_properties ss) (flat_map statement_individuals ss) (filter_map logical_axiom ss) old new

-- with all that they bring a kind has too many names
abbrev pub StatementsOverflow : List Statement → Ontology → Type 0
StatementsOverflow ss old = Overflows (flat_map statement_expressions ss) (flat_map statement_properties ss) (flat_map statement_individuals ss) old

-- all that the statements bring is added; or with it a kind has too many names
abbrev pub StatementsRead : Result (Unit {0}) BuildFault → List Statement → Ontology → Ontology → Type 0
StatementsRead (Ok _) ss old new = AddsStatements ss old new
StatementsRead (Err TooManyNames) ss old new = StatementsOverflow ss old
StatementsRead (Err Memory) ss old new = Unit {0}
