-- What facts answer about a class expression or an individual, and what follows about it.
use Rattle.std.specs.Prelude.{◌≡◌, ◌↔◌, ◌⊎◌, ℕ, List, Bool, length, Option, Some}
use Rattle.axioms.specs.Expression.{Iri, Named}
use Rattle.axioms.specs.Ontology.{Ontology, IsClassAt, nothing, expression, individual_name, axiom_trees}
use Rattle.classification.specs.Lists.{SomeFact}
use Rattle.closure.specs.Closure.{Context, Expression, Individual}
use Rattle.engine.specs.Saturations.{Saturated}
use Rattle.exactness.specs.ListedInterpretation.{IsConsistent}
use Rattle.facts.specs.declared.contexts.Context as code
use Rattle.facts.specs.declared.contexts.Context.TheVariants as contexts
use Rattle.facts.specs.declared.contexts.Fact.{Fact}
use Rattle.facts.specs.declared.contexts.Fact.TheVariants.{In}
use Rattle.interpretation_spec.specs.Interpretation.{IsBelow, IsMember}
use Rattle.normal_forms.specs.declared.forms.Class2.TheVariants.{Expr}
use Rattle.answers.specs.Names.{IsMarked}
use Rattle.answers.specs.declared.selection.Selection.{Selection}
use Rattle.answers.specs.declared.selection.Selection.TheVariants.{Above, Below, Members, Types}

-- the expression or the individual that is asked about
abbrev pub context_asked : Selection → Context
context_asked (Above e) = Expression e.0
context_asked (Below e) = Expression e.0
context_asked (Members e) = Expression e.0
context_asked (Types a) = Individual a.0

-- the names among which the answers are
abbrev pub names_asked : Ontology → Selection → List Iri
names_asked o (Above e) = o.names.classes
names_asked o (Below e) = o.names.classes
names_asked o (Members e) = o.names.individuals
names_asked o (Types a) = o.names.classes

-- the name is an answer in every finite interpretation of the axioms
abbrev pub FollowsFor : Ontology → Selection → Iri → Type 0
FollowsFor o (Above e) name = IsBelow (axiom_trees o) (expression o e.0) (Named name)
FollowsFor o (Below e) name = IsBelow (axiom_trees o) (Named name) (expression o e.0)
FollowsFor o (Members e) name = IsMember (axiom_trees o) name (expression o e.0)
FollowsFor o (Types a) name = IsMember (axiom_trees o) (individual_name o a.0) (Named name)

-- ---- by facts

-- the fact puts the context in the expression of number f
abbrev pub PutsContext : Fact → code.Context → ℕ → Type 0
PutsContext fact x f = fact ≡ In (Expr (record { 0 = f })) x

-- the fact puts the expression of number e in that of number f
abbrev pub PutsExpression : Fact → ℕ → ℕ → Type 0
PutsExpression fact e f = PutsContext fact (contexts.Expr (record { 0 = e })) f

-- the fact puts the individual of number a in the expression of number f
abbrev pub PutsIndividual : Fact → ℕ → ℕ → Type 0
PutsIndividual fact a f = PutsContext fact (contexts.Individual (record { 0 = a })) f

-- the fact puts the context in the class of number n
abbrev pub PutsInClass : Ontology → code.Context → Fact → ℕ → Type 0
PutsInClass o x fact n = (f : ℕ) × IsClassAt o n f × PutsContext fact x f

-- the fact puts the class of number n in the expression of number f
abbrev pub PutsClass : Ontology → ℕ → Fact → ℕ → Type 0
PutsClass o f fact n = (e : ℕ) × IsClassAt o n e × PutsExpression fact e f

-- the fact answers the question with this number: of a class that the expression is put in, or that is put in the expression or in
-- owl:Nothing, of an individual that is put in the expression, or of a class that the individual is put in
abbrev pub Answers : Ontology → Selection → Fact → ℕ → Type 0
Answers o (Above e) fact n = PutsInClass o (contexts.Expr e) fact n
Answers o (Below e) fact n = (f : ℕ) × IsClassAt o n f × (PutsExpression fact f e.0 ⊎ PutsExpression fact f nothing)
Answers o (Members e) fact n = PutsIndividual fact n e.0
Answers o (Types a) fact n = PutsInClass o (contexts.Individual a) fact n

-- the number is the only one that is given, or none is
abbrev pub IsOnly : (ℕ → Type 0) → Option ℕ → Type 0
IsOnly gives found = (n : ℕ) → gives n ↔ (found ≡ Some n)

-- the number is the one that the fact answers with, or it answers with none
abbrev pub IsAnswer : Ontology → Selection → Fact → Option ℕ → Type 0
IsAnswer o question fact answer = IsOnly (Answers o question fact) answer

-- every name is an answer: there is no finite interpretation of the axioms, or the expression has no element in any
abbrev pub IsEvery : Ontology → Saturated → Selection → Type 0
IsEvery o s (Above e) = (IsConsistent o s.normal.asked → ⊥) ⊎ SomeFact s.state.facts (λ fact. PutsExpression fact e.0 nothing)
IsEvery o s (Below e) = IsConsistent o s.normal.asked → ⊥
IsEvery o s (Members e) = IsConsistent o s.normal.asked → ⊥
IsEvery o s (Types a) = IsConsistent o s.normal.asked → ⊥

-- of the marked numbers, others are on exactly those that some fact gives; of numbers without a mark it says nothing
pub record AreGiven (gives : Fact → ℕ → Type 0) (facts : List Fact) (marks others : List Bool) : Type 0 where
  pub long : length others ≡ length marks
  pub exact : (n : ℕ) → IsMarked marks n → IsMarked others n ↔ SomeFact facts (λ fact. gives fact n)
