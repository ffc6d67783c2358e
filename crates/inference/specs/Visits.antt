-- Which forms are visited for facts.
use Rattle.std.specs.Prelude.{◌≡◌, ℕ, ◌<◌, Bool, true, false, List, [], ◌∷◌, length, slice_get, Option, Some, None}
use Rattle.std.specs.List.{Contains}
use Rattle.indexes.specs.declared.keys.Key.{Key}
use Rattle.normal_forms.specs.declared.forms.Form.{Form}
use Rattle.normal_forms.specs.declared.forms.Class2.{Class2}
use Rattle.normal_forms.specs.declared.forms.PropId2.{PropId2}
use Rattle.normal_forms.specs.Properties.{IsAtOrBelow}
use Rattle.facts.specs.declared.contexts.Context.{Context}
use Rattle.facts.specs.declared.contexts.Context.TheVariants.{Individual}
use Rattle.facts.specs.declared.contexts.Fact.{Fact}
use Rattle.facts.specs.declared.contexts.Fact.TheVariants.{In, Edge}
use Rattle.facts.specs.Closure.{Problem, Concludes, Gives}
use Rattle.indexes.specs.Keys.{by_chain, by_denied, by_end, by_filler, by_first, by_restricted, by_second, by_target, class_key, individual_key, property_key}
use Rattle.indexes.specs.Apart.{IsInList}
use Rattle.indexes.specs.FormsUnderKeys.{IsUnder}
use Rattle.property_closure.specs.PropertyClosures.{Known, Has}
use Rattle.inference.specs.Completeness.{AreJoined, IsDrawnFrom, IsGivenBy}
use Rattle.inference.specs.Derivations.{Derived}
use Rattle.inference.specs.declared.pairing.Operand.{Operand}
use Rattle.number_sets.specs.Members.{has}
use Rattle.normal_forms.specs.declared.forms.Form.TheVariants.{N6}

-- the two facts, in this order, give nothing
abbrev pub GiveNothing : Problem → Fact → Fact → Type 0
GiveNothing k f g = (condition : ℕ) (form : Option ℕ) (h : Fact) → Gives k condition form (f ∷ g ∷ []) h → ⊥

-- the form of that number is an intersection of the two classes, in this order
abbrev pub IsOfClasses : List Form → Class2 → Class2 → ℕ → Type 0
IsOfClasses forms a b n = IsUnder by_first forms (class_key a) n × IsUnder by_second forms (class_key b) n

-- the form of that number denies a pair of individuals of which these are the contexts, in this order
abbrev pub IsDeniedBetween : List Form → Context → Context → ℕ → Type 0
IsDeniedBetween forms (Individual a) (Individual b) n = IsUnder by_denied forms (individual_key a) n × IsUnder by_target forms (individual_key b) n
IsDeniedBetween forms x y n = ⊥

-- no form of that kind has the key
abbrev pub NoneUnder : (Form → Option Key) → List Form → Key → Type 0
NoneUnder key forms at = (n : ℕ) → IsUnder key forms at n → ⊥

-- what is said of the class is so where it is said to be in nothing
pub record IsOperandBy (k : Problem) (o : Operand) : Type 0 where
  pub begins : o.begins ≡ false → NoneUnder by_first k.forms (class_key o.class)
  pub ends : o.ends ≡ false → NoneUnder by_second k.forms (class_key o.class)
  pub listed : o.is_listed ≡ false → IsInList k o.class → ⊥

-- the fact puts that class into a context
abbrev pub IsOfClass : Class2 → Fact → Type 0
IsOfClass a (In b x) = b ≡ a
IsOfClass a (Edge x r y) = ⊥

-- each of the numbers is that of a fact of that kind
abbrev pub AreAll : (Fact → Type 0) → List Fact → List ℕ → Type 0
AreAll P facts numbers = (n : ℕ) → Contains numbers n → (f : Fact) × (slice_get facts n ≡ Some f) × P f

-- each of the numbers is that of a fact
abbrev pub AreWithin : List Fact → List ℕ → Type 0
AreWithin facts numbers = (n : ℕ) → Contains numbers n → n < length facts

-- a class in a context
abbrev pub IsClassFact : Fact → Type 0
IsClassFact (In a x) = Unit {0}
IsClassFact (Edge x r y) = ⊥

-- an edge
abbrev pub IsEdge : Fact → Type 0
IsEdge (In a x) = ⊥
IsEdge (Edge x r y) = Unit {0}

-- an edge by the property
abbrev pub IsBy : PropId2 → Fact → Type 0
IsBy p (In a x) = ⊥
IsBy p (Edge x r y) = r ≡ p

-- no edge carries anything to its source for the fact at its target
abbrev pub IsNotCarried : Problem → Fact → Type 0
IsNotCarried k g = (f : Fact) → IsEdge f → GiveNothing k f g

-- the closure has the property of an edge
abbrev pub HasProperty : Known → Fact → Type 0
HasProperty c (In a x) = Unit {0}
HasProperty c (Edge x r y) = Has c r

-- the second of two facts is an edge by the property
abbrev pub IsBehind : PropId2 → List Fact → Type 0
IsBehind q (f ∷ g ∷ []) = IsBy q g
IsBehind q _ = ⊥

-- the properties of two edges
abbrev pub chained_pair : Fact → Fact → Option (PropId2 × PropId2)
chained_pair (Edge x p y) (Edge z q w) = Some (p, q)
chained_pair _ _ = None

abbrev pub chained_properties : List Fact → Option (PropId2 × PropId2)
chained_properties (f ∷ g ∷ []) = chained_pair f g
chained_properties _ = None

-- the property of an edge, and the class that is put into a context behind it
abbrev pub filled_pair : Fact → Fact → Option (PropId2 × Class2)
filled_pair (Edge x p y) (In c z) = Some (p, c)
filled_pair _ _ = None

abbrev pub filled_property : List Fact → Option (PropId2 × Class2)
filled_property (f ∷ g ∷ []) = filled_pair f g
filled_property _ = None

-- what the restrictions of r that need c at the target of an edge give from these facts is there
abbrev pub AreRestrictionsDrawn : Problem → List Fact → List Fact → Class2 → PropId2 → Type 0
AreRestrictionsDrawn k older facts c r = (n : ℕ) → IsUnder by_filler k.forms (class_key c) n → IsUnder by_restricted k.forms (property_key r) n → IsDrawnFrom k older facts n

-- what all restrictions that need c at the target of an edge give from these facts is there
abbrev pub AllRestrictionsDrawn : Problem → List Fact → List Fact → Class2 → Type 0
AllRestrictionsDrawn k older facts c = (n : ℕ) → IsUnder by_filler k.forms (class_key c) n → IsDrawnFrom k older facts n

-- what the chains of r and s give from these facts is there
abbrev pub AreChainsDrawn : Problem → List Fact → List Fact → PropId2 → PropId2 → Type 0
AreChainsDrawn k older facts r s = (n : ℕ) → IsUnder by_chain k.forms (property_key r) n → IsUnder by_end k.forms (property_key s) n → IsDrawnFrom k older facts n

-- what the chains that begin with r give from these facts is there
abbrev pub ChainsDrawn : Problem → List Fact → List Fact → PropId2 → Type 0
ChainsDrawn k older facts r = (n : ℕ) → IsUnder by_chain k.forms (property_key r) n → IsDrawnFrom k older facts n

-- what the chains that begin with p, or a property above it, give from these facts is there
abbrev pub AllChainsDrawn : Problem → List Fact → List Fact → PropId2 → Type 0
AllChainsDrawn k older facts p = (r : PropId2) → IsAtOrBelow k.forms p r → ChainsDrawn k older facts r

-- what restrictions give from these facts is there, where they are an edge and a class
abbrev pub IsFillingDrawn : Problem → List Fact → List Fact → Type 0
IsFillingDrawn k older facts = (p : PropId2) (c : Class2) → filled_property older ≡ Some (p, c) → AllRestrictionsDrawn k older facts c

-- what chains give from these facts is there, where they are two edges
abbrev pub IsChainingDrawn : Problem → List Fact → List Fact → Type 0
IsChainingDrawn k older facts = (p q : PropId2) → chained_properties older ≡ Some (p, q) → AllChainsDrawn k older facts p

-- each form, but chains and restrictions, that gives something from these facts has one of the numbers
abbrev pub HaveAllVisited : Problem → List Fact → List ℕ → Type 0
HaveAllVisited k older numbers = (n : ℕ) (form : Form) (f : Fact) → slice_get k.forms n ≡ Some form → by_chain form ≡ None → by_filler form ≡ None → Concludes k form older f → Contains numbers n

-- what the forms, but chains and restrictions, give from these facts is there
abbrev pub AreOthersDrawn : Problem → List Fact → List Fact → Type 0
AreOthersDrawn k older facts = (n : ℕ) (form : Form) (f : Fact) → slice_get k.forms n ≡ Some form → by_chain form ≡ None → by_filler form ≡ None → Concludes k form older f → Contains facts f

-- no chain that ends with s needs what another chain gave from edges by a and b as its second premise
abbrev pub NoneNeeds : List Form → PropId2 → PropId2 → PropId2 → Type 0
NoneNeeds forms a b s = (n : ℕ) (r t : PropId2) → slice_get forms n ≡ Some (N6 r s t) → ∥ AreJoined forms r a b t ∥₁

-- no chain needs what another chain gave, by the whole from edges by a and b, as its second premise
abbrev pub NoneNeedsWhole : List Form → PropId2 → PropId2 → PropId2 → Type 0
NoneNeedsWhole forms a b whole = (s : PropId2) → IsAtOrBelow forms whole s → NoneNeeds forms a b s

-- no chain needs what those at the places that the row has give as its second premise
abbrev pub AreSpared : List Form → List Bool → Type 0
AreSpared forms row = (n : ℕ) (a b c : PropId2) → has row n ≡ true → slice_get forms n ≡ Some (N6 a b c) → NoneNeedsWhole forms a b c

-- a chain, whose whole is the property, gave the fact, and no chain needs what it gives as its second premise
abbrev pub IsGivenBySpared : Problem → Derived → PropId2 → Fact → Type 0
IsGivenBySpared k d property f = (a b : PropId2) × IsGivenBy k d (N6 a b property) f × NoneNeedsWhole k.forms a b property
