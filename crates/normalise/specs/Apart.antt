-- Lists of what is apart, each with the number of its axiom, and the forms that they hold.
use Rattle.std.specs.Prelude.{◌≡◌, ℕ, ◌<◌, List, [], ◌∷◌, ◌++◌, length, slice_get, Some}
use Rattle.axioms.specs.Ontology.{nothing}
use Rattle.axioms.specs.declared.ids.ExprId.{ExprId}
use Rattle.axioms.specs.declared.ids.IndId.{IndId}
use Rattle.normal_forms.specs.Apart.{joined_lists, no_lists}
use Rattle.normal_forms.specs.declared.apart.ApartLists.{ApartLists}
use Rattle.normal_forms.specs.declared.forms.Origin.{Origin}
use Rattle.normal_forms.specs.declared.forms.Origin.TheVariants as origins
use Rattle.normal_forms.specs.Forms.{Form, Whole, N2, N11}

-- lists of what is apart, and for each list of a kind the number of its axiom, from 1
pub record Apartness : Type 0 where
  pub lists : ApartLists
  pub disjoint_axioms : List ℕ
  pub different_axioms : List ℕ

abbrev pub no_apartness : Apartness
no_apartness = record { lists = no_lists; disjoint_axioms = []; different_axioms = [] }

-- lists of both kinds with their axioms, and behind them others
abbrev pub joined_apartness : Apartness → Apartness → Apartness
joined_apartness first second = record {
  lists = joined_lists first.lists second.lists;
  disjoint_axioms = first.disjoint_axioms ++ second.disjoint_axioms;
  different_axioms = first.different_axioms ++ second.different_axioms;
}

-- there are as many numbers of axioms as lists, of either kind
abbrev pub AreNumbered : ApartLists → List ℕ → List ℕ → Type 0
AreNumbered lists disjoint_axioms different_axioms = (length disjoint_axioms ≡ length lists.classes) × (length different_axioms ≡ length lists.individuals)

-- a list of classes behind the others, of the axiom of that number
abbrev pub with_classes : Apartness → List ExprId → ℕ → Apartness
with_classes a classes number = record {
  lists = record { classes = a.lists.classes ++ classes ∷ []; individuals = a.lists.individuals };
  disjoint_axioms = a.disjoint_axioms ++ number ∷ [];
  different_axioms = a.different_axioms;
}

-- likewise of individuals
abbrev pub with_individuals : Apartness → List IndId → ℕ → Apartness
with_individuals a individuals number = record {
  lists = record { classes = a.lists.classes; individuals = a.lists.individuals ++ individuals ∷ [] };
  disjoint_axioms = a.disjoint_axioms;
  different_axioms = a.different_axioms ++ number ∷ [];
}

-- ---- the forms that lists hold

-- two classes have nothing in common
abbrev pub disjoint_classes : ExprId → ExprId → Form
disjoint_classes c d = N2 (Whole c.0) (Whole d.0) (Whole nothing)

-- two individuals differ
abbrev pub different_individuals : IndId → IndId → Form
different_individuals i j = N11 i.0 j.0

-- the list of that number has two members at these places, the second behind the first; g is their form, and the axiom of the list is its origin
pub record IsOfList {X : Type 0} (make : X → X → Form) (lists : List (List X)) (axioms : List ℕ) (list first second : ℕ) (by : Origin) (g : Form) : Type 0 where
  pub members : List X
  pub there : slice_get lists list ≡ Some members
  pub number : ℕ
  pub numbered : slice_get axioms list ≡ Some number
  pub one : X
  pub other : X
  pub later : first < second
  pub at_first : slice_get members first ≡ Some one
  pub at_second : slice_get members second ≡ Some other
  pub origin : by ≡ origins.Axiom number
  pub form : g ≡ make one other
