-- Which facts forms and lists of disjoint classes that are added ask for: what they give with others has to be drawn again.
use Rattle.std.specs.Prelude.{◌≡◌, ◌⊎◌, ◌↔◌, ◌+◌, ◌<◌, ℕ, List, [], slice_get, Some}
use Rattle.std.specs.List.{Contains}
use Rattle.axioms.specs.declared.ids.ExprId.{ExprId}
use Rattle.axioms.specs.declared.ids.IndId.{IndId}
use Rattle.axioms.specs.declared.ids.PropId.{PropId}
use Rattle.normal_forms.specs.declared.apart.ApartLists.{ApartLists}
use Rattle.normal_forms.specs.declared.forms.Form.{Form}
use Rattle.normal_forms.specs.declared.forms.Form.TheVariants.{N1, N2, N3, N4, N5, N6, N7, N10, N12}
use Rattle.normal_forms.specs.declared.forms.Class2.{Class2}
use Rattle.normal_forms.specs.declared.forms.Class2.TheVariants.{Expr}
use Rattle.normal_forms.specs.declared.forms.PropId2.{PropId2}
use Rattle.normal_forms.specs.declared.forms.PropId2.TheVariants.{Property, Partial}
use Rattle.normal_forms.specs.Properties.{IsAtOrBelow}
use Rattle.property_closure.specs.PropertyClosures.{Known, Has}
use Rattle.facts.specs.declared.contexts.Context.{Context}
use Rattle.facts.specs.declared.contexts.Context.TheVariants.{Individual}
use Rattle.facts.specs.declared.contexts.Fact.{Fact}
use Rattle.facts.specs.declared.contexts.Fact.TheVariants.{In, Edge}
use Rattle.facts.specs.Closure.{Problem, thing}
use Rattle.inference.specs.PropertyClosures.{IsClosureOf}
use Rattle.inference.specs.Visits.{HasProperty, IsBy}

-- one of the two individuals
abbrev pub IsOneOf : IndId → IndId → Context → Type 0
IsOneOf a b x = (x ≡ Individual a) ⊎ (x ≡ Individual b)

-- the form names the class of the fact, or a property at or above that of the edge, or makes one of its individuals one with another, or denies
-- the edge: of two facts that a form needs one is enough. One that makes a property reflexive asks for owl:Thing in a context: where that is
-- its entry, it draws the loops there when it is served
abbrev pub Asks : List Form → Form → Fact → Type 0
Asks forms (N1 a b) (In c x) = c ≡ a
Asks forms (N2 a b c) (In d x) = d ≡ a
Asks forms (N3 a r b) (In c x) = c ≡ a
Asks forms (N4 r a b) (In c x) = c ≡ a
Asks forms (N5 r s) (Edge x p y) = IsAtOrBelow forms p (Property r)
Asks forms (N6 r s t) (Edge x p y) = IsAtOrBelow forms p r
Asks forms (N7 r) (In c x) = c ≡ thing
Asks forms (N10 a b) (In c x) = IsOneOf a b x
Asks forms (N10 a b) (Edge x p y) = IsOneOf a b x ⊎ IsOneOf a b y
Asks forms (N12 a r b) (Edge x p y) = (x ≡ Individual a) × (y ≡ Individual b) × IsAtOrBelow forms p (Property r)
Asks forms _ _ = ⊥

-- the list of disjoint classes has the class of the fact: of two facts of its classes one is enough
abbrev pub ListAsks : List ExprId → Fact → Type 0
ListAsks cs (In a x) = (c : ExprId) × (a ≡ Expr c) × Contains cs c
ListAsks cs (Edge x p y) = ⊥

-- the form names the class, as one that makes a property reflexive names owl:Thing
abbrev pub NamesClass : Form → Class2 → Type 0
NamesClass (N1 a b) c = c ≡ a
NamesClass (N2 a b d) c = c ≡ a
NamesClass (N3 a r b) c = c ≡ a
NamesClass (N4 r a b) c = c ≡ a
NamesClass (N7 r) c = c ≡ thing
NamesClass _ c = ⊥

-- the form names the property, or one above it, as the lower of two or the first of a chain
abbrev pub NamesAbove : List Form → Form → PropId2 → Type 0
NamesAbove forms (N5 r s) p = IsAtOrBelow forms p (Property r)
NamesAbove forms (N6 r s t) p = IsAtOrBelow forms p r
NamesAbove forms _ p = ⊥

-- the fact is an edge, and the form names its property so
abbrev pub NamesEdge : List Form → Form → Fact → Type 0
NamesEdge forms form (In a x) = ⊥
NamesEdge forms form (Edge x p y) = NamesAbove forms form p

-- the form denies the edge
abbrev pub Denies : List Form → Form → Fact → Type 0
Denies forms (N12 a r b) (Edge x p y) = (x ≡ Individual a) × (y ≡ Individual b) × IsAtOrBelow forms p (Property r)
Denies forms _ _ = ⊥

-- the form asks for no fact
abbrev pub AsksNothing : Form → Type 0
AsksNothing form = (forms : List Form) (f : Fact) → ¬ Asks forms form f

-- the fact puts something into a class that the form names
abbrev pub IsOfNamed : Form → Fact → Type 0
IsOfNamed form (In a x) = NamesClass form a
IsOfNamed form (Edge x p y) = ⊥

-- the form asks for such facts alone
abbrev pub AsksByClass : Form → Type 0
AsksByClass form = (forms : List Form) (f : Fact) → Asks forms form f → IsOfNamed form f

-- the form puts a property that the closure does not have below another, or is a chain that begins with such a property
abbrev pub BeginsFresh : Known → Form → Type 0
BeginsFresh closure (N5 r s) = ¬ Has closure (Property r)
BeginsFresh closure (N6 r s t) = ¬ Has closure r
BeginsFresh closure _ = ⊥

-- the form puts the property below another, or is a chain that begins with it
abbrev pub BeginsWith : Form → PropId2 → Type 0
BeginsWith (N5 r s) p = p ≡ Property r
BeginsWith (N6 r s t) p = p ≡ r
BeginsWith _ p = ⊥

-- what is there now, and to which nothing was equal before
abbrev pub IsNew : {X : Type 0} → List X → List X → X → Type 0
IsNew before now x = Contains now x × ¬ Contains before x

-- one of the forms is such
abbrev pub HasForm : (Form → Type 0) → List Form → Type 0
HasForm P forms = (form : Form) × Contains forms form × P form

-- the fact puts something into a class that one of the forms names
abbrev pub IsOfNamedClass : List Form → Fact → Type 0
IsOfNamedClass forms f = HasForm (λ form. IsOfNamed form f) forms

-- one of the forms asks for the fact, by all forms
abbrev pub IsAskedByForm : List Form → List Form → Fact → Type 0
IsAskedByForm all forms f = HasForm (λ form. Asks all form f) forms

-- one of the lists asks for the fact
abbrev pub IsAskedByList : List (List ExprId) → Fact → Type 0
IsAskedByList lists f = (cs : List ExprId) × Contains lists cs × ListAsks cs f

-- the problem of forms and lists, with no contexts
abbrev pub problem_of : List Form → ApartLists → Problem
problem_of forms apart = record { forms = forms; apart = apart; roots = [] }

-- one of the added forms asks for the fact, by all forms, or one of the added lists does
abbrev pub IsAsked : List Form → Problem → Fact → Type 0
IsAsked all added f = IsAskedByForm all added.forms f ⊎ IsAskedByList added.apart.classes f

-- each new form that puts a property below another is one of the added
abbrev pub HasNewBelow : List Form → List Form → List Form → Type 0
HasNewBelow before now added = (r s : PropId) → IsNew before now (N5 r s) → Contains added (N5 r s)

-- of the facts whose edges are by properties that the closure of the earlier forms has, those that the added ask for are those of the classes
-- that the added forms name
abbrev pub AskByClass : Known → Problem → Type 0
AskByClass closure added = (before now : List Form) → IsClosureOf before closure → HasNewBelow before now added.forms → (f : Fact) → HasProperty closure f → IsOfNamedClass added.forms f ↔ IsAsked now added f

-- a new form asks for the fact, by all that are there now
abbrev pub NewFormAsks : List Form → List Form → Fact → Type 0
NewFormAsks before now f = (form : Form) × IsNew before now form × Asks now form f

-- a new list asks for the fact
abbrev pub NewListAsks : List (List ExprId) → List (List ExprId) → Fact → Type 0
NewListAsks before now f = (cs : List ExprId) × IsNew before now cs × ListAsks cs f

-- a new form asks for the fact, or a new list of disjoint classes does
abbrev pub IsAskedAnew : Problem → Problem → Fact → Type 0
IsAskedAnew before now f = NewFormAsks before.forms now.forms f ⊎ NewListAsks before.apart.classes now.apart.classes f

-- what has that number is such
abbrev pub IsSuchAt : {X : Type 0} → (X → Type 0) → List X → ℕ → Type 0
IsSuchAt {X} P xs n = (x : X) × (slice_get xs n ≡ Some x) × P x

-- a new form or a new list asks for the fact of that number
abbrev pub IsAskedAt : Problem → Problem → List Fact → ℕ → Type 0
IsAskedAt before now facts n = IsSuchAt (IsAskedAnew before now) facts n

-- the fact is an edge by the property, for which one of the forms asks
abbrev pub NamesEdgeBy : List Form → List Form → PropId2 → Fact → Type 0
NamesEdgeBy all forms p f = IsBy p f × HasForm (λ form. NamesAbove all form p) forms

-- the property has that number, where the prefixes of chains come behind the properties
abbrev pub IsNumbered : Known → ℕ → PropId2 → Type 0
IsNumbered closure n (Property p) = (n ≡ p.0) × (n < closure.properties)
IsNumbered closure n (Partial m) = n ≡ closure.properties + m

-- one of the added forms is such, or none is, by all forms, if the closure is that of all
abbrev pub HasUnder : Known → (List Form → Form → Type 0) → List Form → Type 0
HasUnder closure P added = (all : List Form) → IsClosureOf all closure → HasForm (P all) added

abbrev pub LacksUnder : Known → (List Form → Form → Type 0) → List Form → Type 0
LacksUnder closure P added = (all : List Form) → IsClosureOf all closure → HasForm (P all) added → ⊥
