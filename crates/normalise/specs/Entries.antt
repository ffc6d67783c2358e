-- Forms in a row, each with what gave it.
use Rattle.std.specs.Prelude.{List, [], ◌∷◌}
use Rattle.normal_forms.specs.declared.forms.Form.{Form}
use Rattle.normal_forms.specs.declared.forms.Origin.{Origin}
use Rattle.normalise.specs.declared.entries.Entry.{Entry}

-- each form with the origin at its place
abbrev pub paired : List Form → List Origin → List Entry
paired [] origins = []
paired (f ∷ forms) [] = []
paired (f ∷ forms) (o ∷ origins) = record { form = f; origin = o } ∷ paired forms origins

abbrev pub form_in : Entry → Form
form_in e = e.form

abbrev pub origin_in : Entry → Origin
origin_in e = e.origin
