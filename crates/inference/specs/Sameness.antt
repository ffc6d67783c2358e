-- What is there of individuals that forms make one, and that lists make differ.
use Rattle.std.specs.Prelude.{◌≡◌, ℕ, List}
use denote.Struct.Props as logic
use Rattle.std.specs.List.{Contains}
use Rattle.axioms.specs.declared.ids.IndId.{IndId}
use Rattle.normal_forms.specs.declared.forms.Form.{Form}
use Rattle.normal_forms.specs.Apart.{AreListedAt}
use Rattle.facts.specs.declared.contexts.Context.{Context}
use Rattle.facts.specs.declared.contexts.Context.TheVariants.{Individual}
use Rattle.facts.specs.declared.contexts.Fact.{Fact}
use Rattle.facts.specs.declared.contexts.Fact.TheVariants.{In, Edge}
use Rattle.facts.specs.Closure.{Problem, AreSame, HandsOn, Links, nothing}
use Rattle.indexes.specs.Groups.{links}
use Rattle.indexes.specs.Keys.{individual_key, by_linked_first, by_linked_second}
use Rattle.indexes.specs.FormsUnderKeys.{IsUnder}
use Rattle.inference.specs.Completeness.{AllDrawn, DrawnAt}

-- the forms of which individuals are one
abbrev pub AreGroupsOf : List Form → List Form → Type 0
AreGroupsOf forms groups = groups ≡ links forms

-- that has one proof at most, so rules may keep it
pub AreGroupsOf-prop : (forms groups : List Form) → IsProp (AreGroupsOf forms groups)
AreGroupsOf-prop forms groups = Prim.hlevel logic.props

-- the contexts are those of two individuals that the form makes one
abbrev pub AreLinked : Form → Context → Context → Type 0
AreLinked form (Individual i) (Individual j) = Links form i j
AreLinked form _ _ = ⊥

-- one stands for the other in the context of a class, or at the source of an edge
abbrev pub IsAtSource : Form → Fact → Fact → Type 0
IsAtSource form (In c x) f = (y : Context) × AreLinked form x y × (f ≡ In c y)
IsAtSource form (Edge x r y) f = (z : Context) × AreLinked form x z × (f ≡ Edge z r y)

-- one stands for the other at the target of an edge
abbrev pub IsAtTarget : Form → Fact → Fact → Type 0
IsAtTarget form (In c x) f = ⊥
IsAtTarget form (Edge x r y) f = (z : Context) × AreLinked form y z × (f ≡ Edge x r z)

-- what forms that make two individuals one hand on of the fact is there
abbrev pub IsHandedOn : Problem → Fact → List Fact → Type 0
IsHandedOn k fact facts = AllDrawn (λ form f. HandsOn form fact f) k.forms facts

-- what the form at the place hands on of it is there
abbrev pub IsHandedOnBy : Problem → Fact → List Fact → ℕ → Type 0
IsHandedOnBy k fact facts n = DrawnAt (λ form f. HandsOn form fact f) k.forms facts n

-- what the forms hand on of it that make the individual of the context one with another is there
pub record IsHandedOnAt (k : Problem) (x : Context) (fact : Fact) (facts : List Fact) : Type 0 where
  pub first : (i : IndId) → x ≡ Individual i → (n : ℕ) → IsUnder by_linked_first k.forms (individual_key i) n → IsHandedOnBy k fact facts n
  pub second : (i : IndId) → x ≡ Individual i → (n : ℕ) → IsUnder by_linked_second k.forms (individual_key i) n → IsHandedOnBy k fact facts n

-- owl:Nothing is in the first of two individuals that the list of that number makes differ, where they are one
abbrev pub IsDifferenceDrawn : Problem → List Fact → ℕ → Type 0
IsDifferenceDrawn k facts l = (a b : IndId) → AreListedAt k.apart.individuals l a b → AreSame k.forms a b → Contains facts (In nothing (Individual a))

-- .. for each list
abbrev pub AreDifferencesDrawn : Problem → List Fact → Type 0
AreDifferencesDrawn k facts = (l : ℕ) → IsDifferenceDrawn k facts l
