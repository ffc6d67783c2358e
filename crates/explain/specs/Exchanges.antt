-- Facts in which an individual stands for another that is one with it.
use Rattle.std.specs.Prelude.{◌≡◌, ℕ, ◌<◌, List, ◌∷◌, length, map, slice_get, get_or, Option, Some, MatchOption}
use Rattle.axioms.specs.View.{at_number, expr_numbers, prop_numbers}
use Rattle.axioms.specs.declared.ids.ExprId.{ExprId}
use Rattle.axioms.specs.declared.ids.IndId.{IndId}
use Rattle.axioms.specs.declared.ids.PropId.{PropId}
use Rattle.certificate.specs.Certificate.{Subject, Conclusion, Edge, Line}
use Rattle.cert_check.specs.Derivation.{at_numbers}
use Rattle.cert_check.specs.Lines.{IsWalk}
use Rattle.closure.specs.Denotations.{Prefixes, SaysClass, SaysProperty}
use Rattle.facts.specs.Closure.{HandsOn}
use Rattle.facts.specs.declared.contexts.Context.{Context}
use Rattle.facts.specs.declared.contexts.Context.TheVariants.{Individual}
use Rattle.facts.specs.declared.contexts.Fact as code
use Rattle.facts.specs.declared.contexts.Fact.TheVariants as facts
use Rattle.normal_forms.specs.Forms.{Class2, Property2}
use Rattle.normal_forms.specs.declared.forms.Class2 as code_class
use Rattle.normal_forms.specs.declared.forms.Form.{Form}
use Rattle.normal_forms.specs.declared.forms.PropId2.{PropId2}
use Rattle.explain.specs.LinesOfFacts.{operands_of, steps_of}

-- the form of that number hands the one fact on as the other
abbrev pub HandsOnBy : List Form → ℕ → code.Fact → code.Fact → Type 0
HandsOnBy forms n f g = (form : Form) × (slice_get forms n ≡ Some form) × HandsOn form f g

-- two individuals, of which one context is the first and the other the second; where there are none, an individual for itself at most
abbrev pub IsExchange : Context → Context → Option (IndId × IndId) → Type 0
IsExchange before now found =
    MatchOption found ((i j : IndId) → before ≡ Individual i → now ≡ Individual j → i ≡ j) (λ p. (before ≡ Individual p.0) × (now ≡ Individual p.1) × (p.0 ≡ p.1 → ⊥))

-- an edge is shown by a walk that has edges
abbrev pub HasEdges : code.Fact → List ℕ → Type 0
HasEdges (facts.In a x) walk = Unit {0}
HasEdges (facts.Edge x r y) walk = 0 < length walk

-- these are the class itself or the operands of the prefix
abbrev pub AreOperandsOf : Prefixes → code_class.Class2 → List ExprId → Type 0
AreOperandsOf b a ids = (c : Class2) → SaysClass b a c → expr_numbers ids ≡ operands_of c

-- these are the property itself or the steps of the prefix
abbrev pub AreStepsOf : Prefixes → PropId2 → List PropId → Type 0
AreStepsOf b p ids = (r : Property2) → SaysProperty b p r → prop_numbers ids ≡ steps_of r

-- the lines of these numbers are a walk along the properties
abbrev pub WalksAlong : List Line → List ℕ → Subject → List ℕ → Subject → Type 0
WalksAlong lines walk x rs y = (cs : List Conclusion) × (at_numbers (map (λ l. l.conclusion) lines) walk ≡ Some cs) × IsWalk x rs y cs

-- the first edge of each such walk leads to z
abbrev pub LeadsFirstTo : List Line → List ℕ → Subject → Subject → Type 0
LeadsFirstTo lines walk y z =
    (x : Subject) (r : ℕ) (rs : List ℕ) → WalksAlong lines walk x (r ∷ rs) y → at_number (map (λ l. l.conclusion) lines) (get_or walk 0 0) ≡ Some (Edge x r z)
