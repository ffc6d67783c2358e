-- What single steps of the code give.
use Rattle.std.specs.Prelude.{◌≡◌, ℕ, ◌+◌, ◌<◌, ◌≤◌, ◌⊎◌, Bool, true, List, ◌++◌, length, take, slice_get, Some}
use Rattle.axioms.specs.Ontology.{Axiom, Node, Class, And, Exists, EquivalentClasses, DisjointClasses, EquivalentProperties, SameIndividuals, DifferentIndividuals}
use Rattle.axioms.specs.Growth.{Numbers}
use Rattle.axioms.specs.WellFormedness.{AreDistinct}
use Rattle.axioms.specs.declared.ids.ExprId.{ExprId}
use Rattle.normal_forms.specs.declared.forms.Class2 as code_class
use Rattle.normal_forms.specs.declared.forms.PropId2 as code_property
use Rattle.normal_forms.specs.declared.forms.Origin.{Origin}
use Rattle.normal_forms.specs.declared.forms.Origin.TheVariants as origins
use Rattle.normal_forms.specs.Forms.{Form, Whole, Property, N1, first_of, first_steps}
use Rattle.normal_forms.specs.Origins.{AndGives, AxiomGives, ChainGives, LeftGives, RightGives}
use Rattle.normalise.specs.declared.made.Made.{Made}
use Rattle.normalise.specs.FreshNames.{AreNumberedByFirstPlace, NameChains, prefixes_below, prefixes_of}
use Rattle.normalise.specs.View.{Adds, From, Lengthens, Lists, SaysClass, SaysProperty, StartsClass, StartsProperty}

abbrev pub BelowOperand : List ℕ → ℕ → ℕ → Form → Type 0
BelowOperand ds e n g = (d : ℕ) × (slice_get ds n ≡ Some d) × (g ≡ N1 (Whole e) (Whole d))

-- no operand stands twice
abbrev pub OperandsDiffer : Axiom → Type 0
OperandsDiffer (EquivalentClasses cs) = AreDistinct cs
OperandsDiffer (DisjointClasses cs) = AreDistinct cs
OperandsDiffer (EquivalentProperties rs) = AreDistinct rs
OperandsDiffer (SameIndividuals xs) = AreDistinct xs
OperandsDiffer (DifferentIndividuals xs) = AreDistinct xs
OperandsDiffer _ = Unit {0}

abbrev pub PartsDiffer : Node → Type 0
PartsDiffer (Class c) = Unit {0}
PartsDiffer (And ds) = AreDistinct ds
PartsDiffer (Exists r c) = Unit {0}

-- the first k + 1 members have a number among the lists, where they are not all
pub record Names (old new : Lists) (list : List ℕ) (k : ℕ) : Type 0 where
  pub some : k + 1 < length list → (n : ℕ) × Numbers old (take (k + 1) list) new n
  pub all : k + 1 ≡ length list → new ≡ old

-- where the old lists are numbered by places, the new ones are by these places and the further ones behind them
abbrev pub NumbersBehind : Lists → Lists → Lists → Type 0
NumbersBehind old further new = (places : Lists) → AreNumberedByFirstPlace places old → AreNumberedByFirstPlace (places ++ further) new

-- where the old lists are numbered by places, the new ones are by these and behind them the prefixes of the list with at most k members
pub record NamesTo (old new : Lists) (list : List ℕ) (k : ℕ) : Type 0 where
  pub some : k < length list → NumbersBehind old (prefixes_below (k + 1) list) new
  pub all : length list ≤ k → NumbersBehind old (prefixes_of list) new

-- c is the class of the first k + 1 operands; t is s with that in its lists
pub record MoreOperands (s t : Made) (ds : List ℕ) (e k : ℕ) (c : code_class.Class2) : Type 0 where
  pub entries : t.entries ≡ s.entries
  pub apart : t.apart ≡ s.apart
  pub steps : t.steps ≡ s.steps
  pub operands : Lengthens s.operands t.operands
  pub names : Names s.operands t.operands ds k
  pub starts : k + 1 < length ds → StartsClass t.operands c (take (k + 1) ds)
  pub says : SaysClass t.operands c (first_of ds e (k + 1))

-- c is the class of the first k + 1 operands, where they are not all; t is s with what the k-th operand gives, of that origin
pub record OperandStep (s t : Made) (ds : List ℕ) (e k : ℕ) (origin : Origin) (c : code_class.Class2) : Type 0 where
  pub starts : k + 1 < length ds → StartsClass t.operands c (take (k + 1) ds)
  pub adds : Adds s t (From origin (AndGives ds e k))

-- likewise of a chain
pub record MoreSteps (s t : Made) (rs : List ℕ) (whole k : ℕ) (q : code_property.PropId2) : Type 0 where
  pub entries : t.entries ≡ s.entries
  pub apart : t.apart ≡ s.apart
  pub operands : t.operands ≡ s.operands
  pub steps : Lengthens s.steps t.steps
  pub names : Names s.steps t.steps rs k
  pub starts : k + 1 < length rs → StartsProperty t.steps q (take (k + 1) rs)
  pub says : SaysProperty t.steps q (first_steps rs (Property whole) (k + 1))

pub record ChainStep (s t : Made) (rs : List ℕ) (whole k : ℕ) (origin : Origin) (q : code_property.PropId2) : Type 0 where
  pub names : Names s.steps t.steps rs k
  pub starts : k + 1 < length rs → StartsProperty t.steps q (take (k + 1) rs)
  pub adds : Adds s t (From origin (ChainGives rs whole k))

-- what the expression gives right, where it occurs there
abbrev pub RightGivesIf : Bool → ExprId → Node → Origin → Form → Type 0
RightGivesIf occurs whole node = From (origins.Expr whole) (λ g. (occurs ≡ true) × RightGives whole.0 node g)

-- likewise left
abbrev pub LeftGivesIf : Bool → ExprId → Node → Origin → Form → Type 0
LeftGivesIf occurs whole node = From (origins.Expr whole) (λ g. (occurs ≡ true) × LeftGives whole.0 node g)

-- what the expression gives on these sides
abbrev pub SideGives : Node → ExprId → Bool → Bool → Origin → Form → Type 0
SideGives node whole right left = From (origins.Expr whole) (λ g. ((right ≡ true) × RightGives whole.0 node g) ⊎ ((left ≡ true) × LeftGives whole.0 node g))

-- what F says of a place from one on and below another
abbrev pub Within : (ℕ → Origin → Form → Type 0) → ℕ → ℕ → Origin → Form → Type 0
Within F from k o g = (n : ℕ) × (from ≤ n) × (n < k) × F n o g

-- what the n-th expression gives, right where R says so and left where L does
abbrev pub ExpressedAt : List Node → (ℕ → Type 0) → (ℕ → Type 0) → ℕ → Origin → Form → Type 0
ExpressedAt nodes R L n o g = (node : Node) × (slice_get nodes n ≡ Some node) × (o ≡ origins.Expr (record { 0 = n })) × ((R n × RightGives n node g) ⊎ (L n × LeftGives n node g))

-- what the expression gives whose number stands at that place
abbrev pub ExpressedBy : List Node → (ℕ → Type 0) → (ℕ → Type 0) → List ℕ → ℕ → Origin → Form → Type 0
ExpressedBy nodes R L numbers place o g = (n : ℕ) × (slice_get numbers place ≡ Some n) × ExpressedAt nodes R L n o g

abbrev pub ExpressedTo : List Node → (ℕ → Type 0) → (ℕ → Type 0) → List ℕ → ℕ → Origin → Form → Type 0
ExpressedTo nodes R L numbers k = Within (ExpressedBy nodes R L numbers) 0 k

-- what the axiom gives that stands at that place
abbrev pub StatedAt : List Axiom → ℕ → Origin → Form → Type 0
StatedAt axioms n o g = (a : Axiom) × (slice_get axioms n ≡ Some a) × (o ≡ origins.Axiom (n + 1)) × AxiomGives a g

abbrev pub StatedFrom : List Axiom → ℕ → ℕ → Origin → Form → Type 0
StatedFrom axioms from k = Within (StatedAt axioms) from k

-- where the old lists stand for the prefixes of the chains of the axioms before that place, the new ones do for those of all
abbrev pub NameMoreChains : List Axiom → ℕ → Lists → Lists → Type 0
NameMoreChains axioms from old new = NameChains (take from axioms) old → NameChains axioms new
