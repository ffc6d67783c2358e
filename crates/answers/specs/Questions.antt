-- Questions by name, and what answers them.
use Rattle.std.specs.Prelude.{◌≡◌, ◌⊎◌, ◌∷◌, List, [], map}
use Rattle.std.specs.List.{All, Contains}
use Rattle.answers.specs.Conditions.{IsLacking}
use Rattle.answers.specs.Entailment.{BelongsTo, IsUnsatisfiable, LiesBelow}
use Rattle.answers.specs.Explanations.{Explains}
use Rattle.answers.specs.Names.{AreThose, groups_in}
use Rattle.answers.specs.Neighbours.{AreGroups, AreSame, IsDirectType, LiesDirectlyBelow}
use Rattle.answers.specs.declared.answer.Answer.{Answer}
use Rattle.answers.specs.declared.answer.Answer.TheVariants as answers
use Rattle.axioms.specs.Expression.{Iri}
use Rattle.axioms.specs.Growth.{names_of}
use Rattle.axioms.specs.Ontology.{Ontology}
use Rattle.axioms.specs.declared.terms.Kind.{Kind}
use Rattle.axioms.specs.declared.terms.Kind.TheVariants as kinds
use Rattle.program.specs.declared.question.Asked.{Asked}
use Rattle.program.specs.declared.question.Asked.TheVariants as subjects
use Rattle.program.specs.declared.question.Question.{Question}
use Rattle.program.specs.declared.question.Question.TheVariants.{Names, Groups, Why, Unsatisfiable, Types, DirectTypes, Lacks}
use Rattle.program.specs.declared.question.Related.{Related}
use Rattle.program.specs.declared.question.Related.TheVariants.{Superclasses, Subclasses, Equivalents, Instances}
use Rattle.program.specs.declared.question.Side.{Side}
use Rattle.program.specs.declared.question.Side.TheVariants.{Above, Below}

-- ---- the names in a question

-- a class by its name
abbrev pub class_name : Iri → Kind × Iri
class_name class = (kinds.Class, class)

-- an individual by its name
abbrev pub individual_name : Iri → Kind × Iri
individual_name individual = (kinds.Individual, individual)

-- what is asked of, by its name
abbrev pub subject_name : Asked → Kind × Iri
subject_name (subjects.Class c) = class_name c.now
subject_name (subjects.Individual a) = individual_name a.now

-- the names in a question, from the left, each with its kind
abbrev pub names_in : Question → List (Kind × Iri)
names_in (Names related class) = class_name class.now ∷ []
names_in (Groups side class) = class_name class.now ∷ []
names_in (Why asked class shown) = subject_name asked ∷ class_name class.now ∷ []
names_in Unsatisfiable = []
names_in (Types individual) = individual_name individual.now ∷ []
names_in (DirectTypes individual) = individual_name individual.now ∷ []
names_in (Lacks asked class) = subject_name asked ∷ class_name class.now ∷ []

-- the ontology has the name, in its kind
abbrev pub HasName : Ontology → Kind × Iri → Type 0
HasName o named = Contains (names_of o.names named.0) named.1

-- it has each name in the question
abbrev pub AreKnown : Ontology → Question → Type 0
AreKnown o question = All (HasName o) (names_in question)

-- it is the first of the names, from the left, that the ontology lacks
abbrev pub IsFirstUnknown : Ontology → (names : List (Kind × Iri)) → Iri → Type 0
IsFirstUnknown o [] unknown = ⊥
IsFirstUnknown o (named ∷ later) unknown = (¬ HasName o named × (unknown ≡ named.1)) ⊎ (HasName o named × IsFirstUnknown o later unknown)

-- ---- what answers a question

-- the names among which those are that are related so to a class
abbrev pub names_related : Ontology → Related → List Iri
names_related o Superclasses = o.names.classes
names_related o Subclasses = o.names.classes
names_related o Equivalents = o.names.classes
names_related o Instances = o.names.individuals

-- in every finite interpretation of the axioms the name is related so to the class
abbrev pub IsRelated : Ontology → Related → (class name : Iri) → Type 0
IsRelated o Superclasses class name = LiesBelow o class name
IsRelated o Subclasses class name = LiesBelow o name class
IsRelated o Equivalents class name = AreSame o class name
IsRelated o Instances class name = BelongsTo o name class

-- these are exactly the names that are related so to the class, each once and in byte order
abbrev pub AreRelated : Ontology → Related → (class : Iri) → (names : List Iri) → Type 0
AreRelated o related class names = AreThose (names_related o related) (IsRelated o related class) names

-- these are the named classes directly on that side of the class, in groups of those that are the same
abbrev pub AreBeside : Ontology → Side → (class : Iri) → (groups : List (List Iri)) → Type 0
AreBeside o Above class groups = AreGroups o (LiesDirectlyBelow o class) groups
AreBeside o Below class groups = AreGroups o (λ name. LiesDirectlyBelow o name class) groups

-- these are exactly the named classes without elements, but for owl:Nothing, each once and in byte order
abbrev pub AreUnsatisfiable : Ontology → (names : List Iri) → Type 0
AreUnsatisfiable o names = AreThose o.names.classes (IsUnsatisfiable o) names

-- these are exactly the named classes that the individual belongs to, each once and in byte order
abbrev pub AreTypes : Ontology → (individual : Iri) → (names : List Iri) → Type 0
AreTypes o individual names = AreThose o.names.classes (BelongsTo o individual) names

-- these are its direct types, in groups of those that are the same
abbrev pub AreDirectTypes : Ontology → (individual : Iri) → (groups : List (List Iri)) → Type 0
AreDirectTypes o individual groups = AreGroups o (IsDirectType o individual) groups

-- the answer is one to such a question, and says what is the case
abbrev pub IsAnswerTo : Ontology → Question → Answer → Type 0
IsAnswerTo o (Names related class) (answers.Names names) = AreRelated o related class.now (map (λ name. name.now) names.items)
IsAnswerTo o (Groups side class) (answers.Groups groups) = AreBeside o side class.now (groups_in groups.items)
IsAnswerTo o (Why asked class shown) (answers.Why explanation) = Explains o asked class.now explanation
IsAnswerTo o Unsatisfiable (answers.Names names) = AreUnsatisfiable o (map (λ name. name.now) names.items)
IsAnswerTo o (Types individual) (answers.Names names) = AreTypes o individual.now (map (λ name. name.now) names.items)
IsAnswerTo o (DirectTypes individual) (answers.Groups groups) = AreDirectTypes o individual.now (groups_in groups.items)
IsAnswerTo o (Lacks asked class) (answers.Lacks lacking) = IsLacking o asked class.now lacking
IsAnswerTo o question answer = ⊥
