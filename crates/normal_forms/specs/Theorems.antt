-- What is proved of the forms.
use Rattle.std.specs.Prelude.{ℕ, ◌↔◌, List}
use Rattle.axioms.specs.Ontology.{Ontology}
use Rattle.normal_forms.specs.declared.forms.Form as code
use Rattle.normal_forms.specs.declared.forms.Origin.{Origin}
use Rattle.normal_forms.specs.declared.forms.PropId2.{PropId2}
use Rattle.normal_forms.specs.Occurrences.{Occurs, OccursRight, OccursLeft, AtRight, AtLeft}
use Rattle.normal_forms.specs.Forms.{Form, IsForm}
use Rattle.normal_forms.specs.Origins.{GivenBy}
use Rattle.normal_forms.specs.Properties.{IsAtOrBelow, IsReflexive, IsChainFrom, property_forms}

-- the forms that something gives are those of the definition
abbrev pub FormsAreGiven : Type 0
FormsAreGiven = (o : Ontology) (asked : List ℕ) (g : Form) → IsForm o asked g ↔ ((by : Origin) × GivenBy o asked by g)

-- what is reached on a side is what occurs there
abbrev pub SidesAreReached : Type 0
SidesAreReached = (o : Ontology) (asked : List ℕ) (e : ℕ) → (OccursRight o asked e ↔ Occurs AtRight o asked e) × (OccursLeft o asked e ↔ Occurs AtLeft o asked e)

-- other forms say nothing of properties
abbrev pub PropertyFormsSuffice : Type 0
PropertyFormsSuffice =
    (forms : List code.Form) (p q : PropId2) (chain : PropId2 × PropId2) →
    (IsAtOrBelow (property_forms forms) p q ↔ IsAtOrBelow forms p q)
    × (IsReflexive (property_forms forms) p ↔ IsReflexive forms p)
    × (IsChainFrom (property_forms forms) p chain ↔ IsChainFrom forms p chain)
