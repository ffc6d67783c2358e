-- Lists of what is apart: classes of which each two have nothing in common, and individuals of which each two differ (OWL 2 structural
-- specification, 9.1.3 DisjointClasses and 9.6.2 DifferentIndividuals).
use Rattle.std.specs.Prelude.{◌≡◌, ℕ, List, [], ◌++◌, slice_get, Some}
use Rattle.normal_forms.specs.declared.apart.ApartLists.{ApartLists}
use Rattle.normal_forms.specs.Forms.{AtOrderedPlaces}

-- the list of that number has the two, the first at an earlier place
abbrev pub AreListedAt : {X : Type 0} → List (List X) → ℕ → X → X → Type 0
AreListedAt {X} lists number a b = (xs : List X) × (slice_get lists number ≡ Some xs) × AtOrderedPlaces xs a b

abbrev pub no_lists : ApartLists
no_lists = record { classes = []; individuals = [] }

-- lists of both kinds, and behind them others
abbrev pub joined_lists : ApartLists → ApartLists → ApartLists
joined_lists first second = record { classes = first.classes ++ second.classes; individuals = first.individuals ++ second.individuals }

-- the lists of the first are there in the second too, with the same numbers
abbrev pub AreContinuedBy : ApartLists → ApartLists → Type 0
AreContinuedBy old new = (more : ApartLists) × (new ≡ joined_lists old more)
