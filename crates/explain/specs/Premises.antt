-- What the line of a fact takes: the older facts that it rests on, each edge lifted to the property that the form names.
use Rattle.std.specs.Prelude.{◌≡◌, ℕ, List, [], ◌∷◌, ◌++◌, Option, Some, None, map, slice_get}
use Rattle.certificate.specs.Certificate.{Line}
use Rattle.closure.specs.Denotations.{Prefixes}
use Rattle.engine.specs.Saturations.{Saturated}
use Rattle.explain.specs.LinesOfFacts.{AreShowing}
use Rattle.facts.specs.declared.contexts.Fact.{Fact}
use Rattle.facts.specs.declared.contexts.Fact.TheVariants.{In, Edge}
use Rattle.normal_forms.specs.declared.forms.Form.{Form}
use Rattle.normal_forms.specs.declared.forms.Form.TheVariants.{N4, N6, N10, N12}
use Rattle.normal_forms.specs.declared.forms.PropId2.{PropId2}
use Rattle.normal_forms.specs.declared.forms.PropId2.TheVariants.{Property}
use Rattle.normal_forms.specs.Properties.{IsAtOrBelow}
use Rattle.normalise.specs.Problem.{prefixes_of}

-- the line of what such a form gives takes no line that individuals are one
abbrev pub TakesNoSame : Form → Type 0
TakesNoSame (N10 _ _) = ⊥
TakesNoSame _ = Unit {0}

-- the property that the form names for the first fact that it takes, and for the second, where that is an edge
abbrev pub first_property : Form → Option PropId2
first_property (N4 r _ _) = Some (Property r)
first_property (N6 r _ _) = Some r
first_property (N12 _ r _) = Some (Property r)
first_property _ = None

abbrev pub second_property : Form → Option PropId2
second_property (N6 _ s _) = Some s
second_property _ = None

-- an edge between the same contexts by that property
abbrev pub lifted_to : Option PropId2 → Fact → Fact
lifted_to None f = f
lifted_to (Some s) (In a x) = In a x
lifted_to (Some s) (Edge x r y) = Edge x s y

-- the property of the edge is at that one or below it
abbrev pub LiftsTo : List Form → Option PropId2 → Fact → Type 0
LiftsTo forms None f = Unit {0}
LiftsTo forms (Some s) (In a x) = Unit {0}
LiftsTo forms (Some s) (Edge x r y) = IsAtOrBelow forms r s

-- what the line takes from these facts
abbrev pub taken : Form → List Fact → List Fact
taken form [] = []
taken form (f ∷ []) = lifted_to (first_property form) f ∷ []
taken form (f ∷ g ∷ more) = lifted_to (first_property form) f ∷ lifted_to (second_property form) g ∷ more

-- the lines of these numbers, one behind the other, show the facts
abbrev pub AreShowingEach : Prefixes → List Line → List ℕ → List Fact → Type 0
AreShowingEach b lines numbers [] = numbers ≡ []
AreShowingEach b lines numbers (f ∷ fs) =
    (first : List ℕ) × (rest : List ℕ) × (numbers ≡ first ++ rest) × AreShowing b lines first f × AreShowingEach b lines rest fs

-- each edge is of a property at or below the one that the form names for it
abbrev pub LiftTo : List Form → Form → List Fact → Type 0
LiftTo forms form [] = Unit {0}
LiftTo forms form (f ∷ []) = LiftsTo forms (first_property form) f
LiftTo forms form (f ∷ g ∷ more) = LiftsTo forms (first_property form) f × LiftsTo forms (second_property form) g

-- ---- of the facts of a saturation

-- the property of the fact of that number, if it is an edge, is at that one or below it
abbrev pub LeadsUpAt : Saturated → Option PropId2 → ℕ → Type 0
LeadsUpAt s property n = (f : Fact) → slice_get s.state.facts n ≡ Some f → LiftsTo s.state.problem.forms property f

-- the lines of these numbers show the fact of that number, lifted
abbrev pub ShowsLedUp : Saturated → List Line → Option PropId2 → ℕ → List ℕ → Type 0
ShowsLedUp s lines property n numbers = (f : Fact) → slice_get s.state.facts n ≡ Some f → AreShowing (prefixes_of s.normal) lines numbers (lifted_to property f)

-- the facts of these numbers lift to what the form names
abbrev pub LeadUpAt : Saturated → Form → List ℕ → Type 0
LeadUpAt s form older = (fs : List Fact) → map (slice_get s.state.facts) older ≡ map Some fs → LiftTo s.state.problem.forms form fs

-- the lines of these numbers show what the line takes from the older facts
abbrev pub ShowsTaken : Saturated → List Line → Form → (older numbers : List ℕ) → Type 0
ShowsTaken s lines form older numbers =
    (fs : List Fact) → map (slice_get s.state.facts) older ≡ map Some fs → AreShowingEach (prefixes_of s.normal) lines numbers (taken form fs)
