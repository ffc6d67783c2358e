-- The statements that a classification infers, reduced as its texts are: declarations of all names, and the axioms that the lines of
-- the taxonomy and of the instances say (OWL 2 Structural Specification, sections 5.8, 9.1.1, 9.1.2 and 9.6.3).
use Rattle.std.specs.Prelude.{ℕ, List, [], ◌∷◌, ◌++◌, Bool, not, map, nat_lt, length}
use Rattle.std.specs.List.{filter, flat_map}
use Rattle.axioms.specs.Axiom.{ClassAssertion, EquivalentClasses, SubClassOf}
use Rattle.axioms.specs.Expression.{Named, owl_nothing, owl_thing}
use Rattle.axioms.specs.Numbering.{DeclaresClass, DeclaresIndividual, DeclaresProperty, Statement, States}
use Rattle.axioms.specs.Ontology.{Names, name_at}
use Rattle.taxonomy.specs.Following.{class_at}
use Rattle.taxonomy.specs.Relation.{is_listed, lies_below}
use Rattle.taxonomy.specs.Texts.{group, groups, in_byte_order, is_directly_above, is_no_bottom, is_same, least_groups, nothing_class}
use Rattle.taxonomy.specs.declared.outcome.Outcome.{Outcome}
use Rattle.taxonomy.specs.declared.outcome.Outcome.TheVariants.{Consistent, Inconsistent}

-- ---- declarations

-- neither owl:Thing nor owl:Nothing, which are the first two classes
abbrev pub is_own : ℕ → Bool
is_own c = nat_lt nothing_class c

abbrev pub class_declaration : Names → ℕ → Statement
class_declaration names c = DeclaresClass (name_at names.classes c)

abbrev pub property_declaration : Names → ℕ → Statement
property_declaration names r = DeclaresProperty (name_at names.properties r)

abbrev pub individual_declaration : Names → ℕ → Statement
individual_declaration names a = DeclaresIndividual (name_at names.individuals a)

-- each class but these two, each property and each individual: each kind in byte order
abbrev pub declarations : Names → List Statement
declarations names =
    map (class_declaration names) (filter is_own (in_byte_order names.classes))
    ++ (map (property_declaration names) (in_byte_order names.properties)
    ++ map (individual_declaration names) (in_byte_order names.individuals))

-- ---- what a line says

-- the classes are the same, where there are two or more
abbrev pub sameness : Names → List ℕ → List Statement
sameness names [] = []
sameness names (c ∷ []) = []
sameness names (c ∷ d ∷ cs) = States (EquivalentClasses (map (class_at names) (c ∷ d ∷ cs))) ∷ []

-- the number of owl:Thing among the class names
abbrev pub thing_class : ℕ
thing_class = 0

-- not in the group of owl:Thing
abbrev pub is_no_top : (ℕ → ℕ → Bool) → ℕ → Bool
is_no_top lies_below g = not (is_same lies_below g thing_class)

-- the class is below the other
abbrev pub subclass_axiom : Names → ℕ → ℕ → Statement
subclass_axiom names g h = States (SubClassOf (class_at names g) (class_at names h))

-- what a group's line says, where these are all classes in order: its members are the same, and its first is below each that is directly
-- above, but for owl:Thing's group
abbrev pub group_axioms : Names → (ℕ → ℕ → Bool) → List ℕ → ℕ → List Statement
group_axioms names lies_below all g =
    sameness names (group lies_below all g)
    ++ map (subclass_axiom names g) (filter (is_no_top lies_below) (filter (is_directly_above lies_below (length names.classes) g) (groups lies_below all)))

-- what the lines of the taxonomy say, in their order, that of owl:Nothing's group last
abbrev pub axioms_of_order : Names → (ℕ → ℕ → Bool) → List ℕ → List Statement
axioms_of_order names lies_below all =
    flat_map (group_axioms names lies_below all) (filter (is_no_bottom lies_below) (groups lies_below all))
    ++ sameness names (group lies_below all nothing_class)

abbrev pub class_axioms : Names → (ℕ → ℕ → Bool) → List Statement
class_axioms names lies_below = axioms_of_order names lies_below (in_byte_order names.classes)

-- the individual is in the class
abbrev pub type_axiom : Names → ℕ → ℕ → Statement
type_axiom names a c = States (ClassAssertion (class_at names c) (name_at names.individuals a))

-- what an individual's line says: it is in each of the least of its groups, but for owl:Thing's
abbrev pub type_axioms : Names → (ℕ → ℕ → Bool) → (ℕ → ℕ → Bool) → ℕ → List Statement
type_axioms names lies_below belongs a =
    map (type_axiom names a) (filter (is_no_top lies_below) (least_groups names.classes lies_below (belongs a)))

-- what the lines of the instances say, in their order
abbrev pub individual_axioms : Names → (ℕ → ℕ → Bool) → (ℕ → ℕ → Bool) → List Statement
individual_axioms names lies_below belongs = flat_map (type_axioms names lies_below belongs) (in_byte_order names.individuals)

-- ---- the whole

-- everything is nothing
abbrev pub contradiction : Statement
contradiction = States (SubClassOf (Named owl_thing) (Named owl_nothing))

-- the axioms that were found
abbrev pub inferred_axioms : Names → Outcome → List Statement
inferred_axioms names (Consistent taxonomy types) =
    class_axioms names (lies_below taxonomy) ++ individual_axioms names (lies_below taxonomy) (is_listed types)
inferred_axioms names Inconsistent = contradiction ∷ []

-- the declarations, and the axioms that were found
abbrev pub inferred : Names → Outcome → List Statement
inferred names outcome = declarations names ++ inferred_axioms names outcome
