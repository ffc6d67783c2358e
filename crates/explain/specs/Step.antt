-- What a line says of a fact, and what leads to it.
use Rattle.std.specs.Prelude.{◌≡◌, ℕ, List, [], ◌∷◌, Option, Some, None}
use Rattle.axioms.specs.Ontology.{Ontology}
use Rattle.certificate.specs.Certificate.{Subject, Expression, Individual, Conclusion, Sub, Edge, Line}
use Rattle.certificate.specs.declared.line.Rule.{Rule}
use Rattle.cert_check.specs.Derivation.{IsDerivation, IsDerived}
use Rattle.closure.specs.Denotations.{Prefixes}
use Rattle.explain.specs.LinesOfFacts.{AreShowing}
use Rattle.facts.specs.declared.contexts.Context as code_context
use Rattle.facts.specs.declared.contexts.Context.TheVariants as contexts
use Rattle.facts.specs.declared.contexts.Fact as code
use Rattle.facts.specs.declared.contexts.Fact.TheVariants as facts
use Rattle.normal_forms.specs.declared.forms.Class2.TheVariants as classes
use Rattle.normal_forms.specs.declared.forms.PropId2.TheVariants as properties

-- a context as the subject of lines
abbrev pub subject_in : code_context.Context → Subject
subject_in (contexts.Expr e) = Expression e.0
subject_in (contexts.Individual a) = Individual a.0

-- the line by the rule, with the axiom, from the lines of these numbers
abbrev pub line_by : Conclusion → Rule → Option ℕ → List ℕ → Line
line_by conclusion rule axiom' premises = record { conclusion = conclusion; rule = rule; axiom' = axiom'; premises = premises }

-- what a line says of a fact, where the fact is not of a prefix
abbrev pub said_by : code.Fact → Option Conclusion
said_by (facts.In (classes.Expr e) x) = Some (Sub (subject_in x) e.0)
said_by (facts.In (classes.Partial n) x) = None
said_by (facts.Edge x (properties.Property r) y) = Some (Edge (subject_in x) r.0 (subject_in y))
said_by (facts.Edge x (properties.Partial n) y) = None

-- the lines of these numbers give the fact: a line by the rule, with the axiom, from them; where it is of a prefix, they show it
pub record LeadTo (o : Ontology) (b : Prefixes) (lines : List Line) (rule : Rule) (axiom' : Option ℕ) (numbers : List ℕ) (f : code.Fact) : Type 0 where
  pub line : (c : Conclusion) → said_by f ≡ Some c → IsDerived o lines (record { conclusion = c; rule = rule; axiom' = axiom'; premises = numbers })
  pub prefix : said_by f ≡ None → AreShowing b lines numbers f

-- with lines of these numbers that give the fact, the new lines are a derivation where the old ones are
abbrev pub StaysDerivation : (old new : List Line) → Rule → Option ℕ → List ℕ → code.Fact → Type 0
StaysDerivation old new rule axiom' numbers f = (o : Ontology) (b : Prefixes) → IsDerivation o old → LeadTo o b old rule axiom' numbers f → IsDerivation o new

-- with lines of these numbers that give the fact, those of the shown numbers show it
abbrev pub ShowsLed : (old new : List Line) → Rule → Option ℕ → List ℕ → code.Fact → List ℕ → Type 0
ShowsLed old new rule axiom' numbers f shown = (o : Ontology) (b : Prefixes) → LeadTo o b old rule axiom' numbers f → AreShowing b new shown f

-- where a line follows by the rule from two lines of a derivation, the new lines are one
abbrev pub StaysByTwo : (old new : List Line) → Conclusion → Rule → (first second : ℕ) → Type 0
StaysByTwo old new conclusion rule first second =
    (o : Ontology) → IsDerivation o old → IsDerived o old (record { conclusion = conclusion; rule = rule; axiom' = None; premises = first ∷ second ∷ [] }) → IsDerivation o new
