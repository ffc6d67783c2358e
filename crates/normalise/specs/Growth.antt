-- Normal forms of an ontology, which may grow at its end.
use Rattle.std.specs.Prelude.{◌≡◌, ℕ, ◌⊎◌, ◌<◌, Bool, List, [], length, map, slice_get, Some, take}
use Rattle.std.specs.List.{All, Contains}
use Rattle.axioms.specs.Ontology.{Ontology, Axiom}
use Rattle.axioms.specs.WellFormedness.{AreDistinct, IsOntology}
use Rattle.axioms.specs.declared.ids.ExprId.{ExprId}
use Rattle.axioms.specs.declared.ids.IndId.{IndId}
use Rattle.normal_forms.specs.declared.forms.Origin.{Origin}
use Rattle.normal_forms.specs.declared.forms.Origin.TheVariants as origins
use Rattle.normal_forms.specs.Apart.{AreContinuedBy, AreListedAt}
use Rattle.normal_forms.specs.Forms.{Form, IsForm}
use Rattle.normal_forms.specs.Origins.{GivenBy}
use Rattle.normal_forms.specs.Occurrences.{AtLeft, AtRight, AtSome}
use Rattle.normal_forms.specs.Properties.{IsPropertyFormOf}
use Rattle.normalise.specs.Apart.{AreNumbered, different_individuals, disjoint_classes, no_apartness}
use Rattle.normalise.specs.Entries.{form_in}
use Rattle.normalise.specs.Listing.{Listing}
use Rattle.normalise.specs.Marks.{IsMarked, MarksOccurring}
use Rattle.normalise.specs.FreshNames.{BeginsIntersection, NameChains}
use Rattle.normalise.specs.Steps.{ExpressedTo, StatedFrom}
use Rattle.normalise.specs.View.{Adds, IsAt, Keeps, Listed, Place}
use Rattle.normalise.specs.declared.made.Made.{Made}
use Rattle.normalise.specs.declared.marks.Marked.{Marked}

-- the n-th form is g, of that origin
abbrev pub Has : Listing → ℕ → Origin → Form → Type 0
Has v n by g = IsAt v.entries v.operands v.steps n by g

-- what callers see, as what is made
abbrev pub made_of : Listing → Made
made_of v = record {
  entries = v.entries;
  apart = record { lists = v.apart; disjoint_axioms = v.disjoint_axioms; different_axioms = v.different_axioms };
  operands = v.operands;
  steps = v.steps;
}

-- at that place, by an entry or by a list of what is apart, g is held, of that origin
abbrev pub IsHeldAt : Listing → Place → Origin → Form → Type 0
IsHeldAt v p by g = Listed (made_of v) p by g

abbrev pub IsHeld : Listing → Origin → Form → Type 0
IsHeld v by g = (p : Place) × IsHeldAt v p by g

-- the forms that are held are those of the ontology and of what is asked about: each is given by its origin, all that is given is held,
-- at one place; each list has an axiom; no two fresh names stand for one list; each stands for a prefix of an intersection or of a chain,
-- those of chains in the order of their first places; and the marks are on what occurs
pub record IsNormalFor (o : Ontology) (v : Listing) : Type 0 where
  pub each : (n : ℕ) → n < length v.entries → (by : Origin) × ((g : Form) × Has v n by g × GivenBy o v.asked by g)
  pub each_disjoint : (l : ℕ) (c d : ExprId) → AreListedAt v.apart.classes l c d → (n : ℕ) × (slice_get v.disjoint_axioms l ≡ Some n) × GivenBy o v.asked (origins.Axiom n) (disjoint_classes c d)
  pub each_different : (l : ℕ) (i j : IndId) → AreListedAt v.apart.individuals l i j → (n : ℕ) × (slice_get v.different_axioms l ≡ Some n) × GivenBy o v.asked (origins.Axiom n) (different_individuals i j)
  pub all : (by : Origin) (g : Form) → GivenBy o v.asked by g → IsHeld v by g
  pub once : (p q : Place) (by : Origin) (g : Form) → IsHeldAt v p by g → IsHeldAt v q by g → p ≡ q
  pub numbered : AreNumbered v.apart v.disjoint_axioms v.different_axioms
  pub operands : AreDistinct v.operands
  pub steps : AreDistinct v.steps
  pub intersections : (n : ℕ) (ds : List ℕ) → slice_get v.operands n ≡ Some ds → BeginsIntersection o v.asked ds
  pub chains : NameChains o.axioms v.steps
  pub right : MarksOccurring AtRight o v.asked v.right
  pub left : MarksOccurring AtLeft o v.asked v.left

-- each form that is listed, or that a list of what is apart holds, is one of the definition, and each of the definition is held
abbrev pub NormalFormsAreListed : Type 0
NormalFormsAreListed = (o : Ontology) (v : Listing) → IsNormalFor o v →
    ((n : ℕ) → n < length v.entries → (by : Origin) × ((g : Form) × Has v n by g × IsForm o v.asked g))
    × ((l : ℕ) (c d : ExprId) → AreListedAt v.apart.classes l c d → IsForm o v.asked (disjoint_classes c d))
    × ((l : ℕ) (i j : IndId) → AreListedAt v.apart.individuals l i j → IsForm o v.asked (different_individuals i j))
    × ((g : Form) → IsForm o v.asked g → (by : Origin) × IsHeld v by g)

-- what the listed forms of properties name is there
abbrev pub PropertyFormsAreNamed : Type 0
PropertyFormsAreNamed = (o : Ontology) → IsOntology o → (v : Listing) → IsNormalFor o v → All (IsPropertyFormOf (length o.names.properties) (length v.steps)) (map form_in v.entries)

-- p is o with more expressions, and more axioms from that place on
pub record Grows (o p : Ontology) (from : ℕ) : Type 0 where
  pub nodes : Keeps o.nodes p.nodes
  pub axioms : Keeps o.axioms p.axioms
  pub new_from : from ≡ length o.axioms

-- where the old forms are those of an ontology, the new ones are those of p, which it has become with more axioms from that place on
abbrev pub AreNormalAgain : Ontology → ℕ → Listing → Listing → Type 0
AreNormalAgain p from old new = (o : Ontology) → IsNormalFor o old → Grows o p from → IsNormalFor p new

-- what the old value has, the new one has with the same numbers
pub record Grown (old new : Listing) : Type 0 where
  pub entries : Keeps old.entries new.entries
  pub apart : AreContinuedBy old.apart new.apart
  pub disjoint_axioms : Keeps old.disjoint_axioms new.disjoint_axioms
  pub different_axioms : Keeps old.different_axioms new.different_axioms
  pub operands : Keeps old.operands new.operands
  pub steps : Keeps old.steps new.steps

-- marked now and not before
abbrev pub IsFreshAt : List Bool → List Bool → ℕ → Type 0
IsFreshAt now before e = IsMarked now e × (IsMarked before e → ⊥)

-- each expression that an axiom of o has on the side is there
abbrev pub AreThere : (Axiom → ℕ → Type 0) → Ontology → Type 0
AreThere At o = (e : ℕ) → AtSome At o.axioms e → e < length o.nodes

-- where the old marks are those of an ontology, the new ones are those of p, which it has become with more axioms from that place on
abbrev pub AreMarkedAgain : (Axiom → ℕ → Type 0) → Ontology → ℕ → List ℕ → List Bool → List Bool → Type 0
AreMarkedAgain At p from asked old new = (o : Ontology) (before : List ℕ) → MarksOccurring At o before old → AreThere At o → Grows o p from → ((e : ℕ) → Contains before e → Contains asked e) → MarksOccurring At p asked new

-- what is marked and was not before is noted
abbrev pub AreNoted : List Bool → Marked → Type 0
AreNoted before m = (e : ℕ) → IsMarked m.marks e → IsMarked before e ⊎ Contains m.noted.items e

-- behind the fresh names of v: the forms of the axioms of p from that place on, and then of what is marked now and was not before
pub record MakesMore (p : Ontology) (from : ℕ) (v : Listing) (right left : List Bool) (new : Made) : Type 0 where
  pub begun : Made
  pub no_entries : begun.entries ≡ []
  pub no_apart : begun.apart ≡ no_apartness
  pub operands : begun.operands ≡ v.operands
  pub steps : begun.steps ≡ v.steps
  pub stated : Made
  pub states : Adds begun stated (StatedFrom p.axioms from (length p.axioms))
  pub chains : NameChains (take from p.axioms) begun.steps → NameChains p.axioms stated.steps
  pub numbers : List ℕ
  pub fresh : (e : ℕ) → IsFreshAt right v.right e ⊎ IsFreshAt left v.left e → Contains numbers e
  pub expresses : Adds stated new (ExpressedTo p.nodes (IsFreshAt right v.right) (IsFreshAt left v.left) numbers (length numbers))
