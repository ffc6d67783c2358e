-- The closure has exactly what follows from the axioms, and what it lists meets what a certificate claims.
use Rattle.std.specs.Prelude.{◌≡◌, ℕ, ◌<◌, ◌↔◌, List, length, slice_get, Some}
use Rattle.axioms.specs.Ontology.{Ontology, IsClassAt, thing, nothing, expression, individual_name, axiom_trees}
use Rattle.axioms.specs.WellFormedness.{IsOntology}
use Rattle.interpretation_spec.specs.Interpretation.{IsBelow, Interpretation, IsMember, IsContradictory}
use Rattle.certificate.specs.Certificate.{Sub}
use Rattle.certificate.specs.Certificate as line
use Rattle.certificate.specs.Certificate.{Line}
use Rattle.cert_check.specs.Derivation.{IsDerivation, HasLine}
use Rattle.cert_check.specs.Acceptance.{Agrees, ClaimHolds}
use Rattle.normal_forms.specs.Forms.{Whole}
use Rattle.closure.specs.Closure.{AreAsked, Context, Expression, Individual, In, IsRoot, IsFact}
use Rattle.exactness.specs.ListedInterpretation.{IsListedInterpretation, IsConsistent}
use Rattle.exactness.specs.Derivability.{subject_of}

-- a fact says what holds in every finite interpretation of the axioms
abbrev pub FactsFollow : Type 0
FactsFollow =
    (o : Ontology) (asked : List ℕ) → IsOntology o → (e f : ℕ) → IsFact o asked (In (Whole f) (Expression e)) →
    IsBelow (axiom_trees o) (expression o e) (expression o f)

-- Nothing in a context: it lies below all
abbrev pub NothingIsBelowAll : Type 0
NothingIsBelowAll =
    (o : Ontology) (asked : List ℕ) → IsOntology o → (e f : ℕ) → IsFact o asked (In (Whole nothing) (Expression e)) →
    IsBelow (axiom_trees o) (expression o e) (expression o f)

-- of named classes and asked expressions that are satisfiable, exactly what follows is a fact
abbrev pub ClosureIsExact : Type 0
ClosureIsExact =
    (o : Ontology) (asked : List ℕ) (elements : List Context) (i : Interpretation) →
    IsOntology o → AreAsked o asked → IsListedInterpretation o asked elements i → IsConsistent o asked →
    (e f : ℕ) → IsRoot o asked (Expression e) → IsRoot o asked (Expression f) → (IsFact o asked (In (Whole nothing) (Expression e)) → ⊥) →
    IsBelow (axiom_trees o) (expression o e) (expression o f) ↔ IsFact o asked (In (Whole f) (Expression e))

-- where the closure is without contradiction, exactly what follows of individuals in named classes and asked expressions is a fact
abbrev pub TypesAreExact : Type 0
TypesAreExact =
    (o : Ontology) (asked : List ℕ) (elements : List Context) (i : Interpretation) →
    IsOntology o → AreAsked o asked → IsListedInterpretation o asked elements i → IsConsistent o asked →
    (a f : ℕ) → a < length o.names.individuals → IsRoot o asked (Expression f) →
    IsMember (axiom_trees o) (individual_name o a) (expression o f) ↔ IsFact o asked (In (Whole f) (Individual a))

-- Nothing in all things or in an individual: there is no finite interpretation of the axioms
abbrev pub ContradictionIsSound : Type 0
ContradictionIsSound =
    (o : Ontology) (asked : List ℕ) → IsOntology o →
    (IsFact o asked (In (Whole nothing) (Expression thing)) → IsContradictory (axiom_trees o))
    × ((a : ℕ) → IsFact o asked (In (Whole nothing) (Individual a)) → IsContradictory (axiom_trees o))

-- where there is no finite interpretation of the axioms, the closure puts all things or an individual in Nothing
abbrev pub ContradictionIsComplete : Type 0
ContradictionIsComplete =
    (o : Ontology) (asked : List ℕ) (elements : List Context) (i : Interpretation) →
    IsOntology o → AreAsked o asked → IsListedInterpretation o asked elements i →
    IsContradictory (axiom_trees o) → IsConsistent o asked → ⊥

-- an expression that is asked about changes nothing for what was there before
abbrev pub QuestionsChangeNothing : Type 0
QuestionsChangeNothing =
    (o : Ontology) (asked other : List ℕ) (elements : List Context) (i : Interpretation) →
    IsOntology o → AreAsked o asked → IsListedInterpretation o asked elements i → IsConsistent o asked →
    IsConsistent o other
    × ((e f : ℕ) → IsRoot o asked (Expression e) → IsRoot o asked (Expression f) → (IsFact o asked (In (Whole nothing) (Expression e)) → ⊥) →
    IsFact o other (In (Whole f) (Expression e)) → IsFact o asked (In (Whole f) (Expression e)))

-- the lines have each fact of a named class, an individual or an asked expression
abbrev pub HaveFacts : Ontology → List ℕ → List Line → Type 0
HaveFacts o asked lines =
    (x : Context) (e : ℕ) → IsRoot o asked x → IsRoot o asked (Expression e) → IsFact o asked (In (Whole e) x) → HasLine lines (Sub (subject_of x) e)

-- with such lines, each element of a named class and of an individual is in exactly the classes that lines put above it
abbrev pub ListedMeetsClaims : Type 0
ListedMeetsClaims =
    (o : Ontology) (asked : List ℕ) (elements : List Context) (i : Interpretation) (lines : List Line) →
    IsOntology o → AreAsked o asked → IsListedInterpretation o asked elements i → IsConsistent o asked →
    IsDerivation o lines → HaveFacts o asked lines →
    ((c e m : ℕ) → IsClassAt o c e → slice_get elements m ≡ Some (Expression e) → ClaimHolds o i lines (e, m))
    × ((a : ℕ) → a < length o.names.individuals → Agrees o i lines (line.Individual a) (i.individual (individual_name o a)))
