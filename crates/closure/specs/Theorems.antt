-- What is proved of the closure.
use Rattle.std.specs.Prelude.{◌≡◌, ◌↔◌, ℕ, List, Bool, true}
use Rattle.std.specs.List.{All, Contains}
use Rattle.axioms.specs.Ontology.{Ontology, AtTwoPlaces, DisjointClasses, nothing}
use Rattle.normal_forms.specs.Forms.{Whole}
use Rattle.closure.specs.Closure.{Context, Fact, In, AreSame, IsLink, Gives, IsFact}
use Rattle.closure.specs.Groups.{IsLeast, least_same}

-- the closure has what its facts give
abbrev pub ClosureIsClosed : Type 0
ClosureIsClosed =
    (o : Ontology) (asked : List ℕ) (older : List Fact) (fact : Fact) →
    Gives o asked older fact → All (IsFact o asked) older → IsFact o asked fact

-- the closure lies in every set that has what its members give
abbrev pub ClosureIsLeast : Type 0
ClosureIsLeast =
    (o : Ontology) (asked : List ℕ) (is_there : Fact → Bool) →
    ((older : List Fact) (fact : Fact) → Gives o asked older fact → All (λ f. is_there f ≡ true) older → is_there fact ≡ true) →
    (fact : Fact) → IsFact o asked fact → is_there fact ≡ true

-- disjoint classes have a form for each two places once: the form for the other order would give nothing more
abbrev pub OrderOfDisjointClassesDoesNotMatter : Type 0
OrderOfDisjointClassesDoesNotMatter =
    (o : Ontology) (asked : List ℕ) (cs : List ℕ) (c d : ℕ) (x : Context) →
    Contains o.axioms (DisjointClasses cs) → AtTwoPlaces cs c d →
    IsFact o asked (In (Whole c) x) → IsFact o asked (In (Whole d) x) → IsFact o asked (In (Whole nothing) x)

-- each group of individuals has a least one ..
abbrev pub GroupsHaveLeast : Type 0
GroupsHaveLeast =
    (o : Ontology) (asked : List ℕ) (a : ℕ) → AreSame o asked a (least_same o a) × IsLeast o asked (least_same o a)

-- .. which decides who is in it
abbrev pub GroupsAreDecided : Type 0
GroupsAreDecided = (o : Ontology) (asked : List ℕ) (a b : ℕ) → AreSame o asked a b ↔ (least_same o a ≡ least_same o b)

-- what goes from each individual to its neighbours goes through its group
abbrev pub LinksSuffice : Type 0
LinksSuffice =
    (o : Ontology) (asked : List ℕ) (has : ℕ → Bool) → ((a b : ℕ) → IsLink o asked a b → has a ≡ true → has b ≡ true) →
    (a b : ℕ) → AreSame o asked a b → has a ≡ true → has b ≡ true
