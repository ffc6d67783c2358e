-- Facts for which forms are listed with what they lead to.
use Rattle.std.specs.Prelude.{◌≡◌, List, [], ◌∷◌, slice_get, Some}
use Rattle.std.specs.List.{Contains}
use Rattle.normal_forms.specs.declared.forms.Form.{Form}
use Rattle.facts.specs.declared.contexts.Fact.{Fact}
use Rattle.facts.specs.declared.contexts.Fact.TheVariants.{In, Edge}
use Rattle.facts.specs.Closure.{Problem}
use Rattle.indexes.specs.declared.listed_forms.ListedForm.{ListedForm}
use Rattle.indexes.specs.Keys.{by_alone, by_filler, class_key}
use Rattle.inference.specs.Completeness.{IsDrawnFrom}

-- the form needs the class alone that the fact puts into a context
abbrev pub IsLedForOne : Form → Fact → Type 0
IsLedForOne form (In a x) = by_alone form ≡ Some (class_key a)
IsLedForOne form (Edge x r y) = ⊥

-- the form is a restriction, and of the two facts, an edge and a class in a context, the second has its filler
abbrev pub IsLedForTwo : Form → Fact → Fact → Type 0
IsLedForTwo form (Edge x r y) (In c z) = by_filler form ≡ Some (class_key c)
IsLedForTwo form _ g = ⊥

-- the form is listed for the facts
abbrev pub IsLed : Form → List Fact → Type 0
IsLed form (f ∷ []) = IsLedForOne form f
IsLed form (f ∷ g ∷ []) = IsLedForTwo form f g
IsLed form _ = ⊥

-- the form of that number is
abbrev pub IsLedAt : List Form → List Fact → ListedForm → Type 0
IsLedAt forms older l = (form : Form) × (slice_get forms l.number ≡ Some form) × IsLed form older

-- .. and so is each
abbrev pub AreLed : List Form → List Fact → List ListedForm → Type 0
AreLed forms older listed = (l : ListedForm) → Contains listed l → IsLedAt forms older l

-- what the listed forms give from these facts is there
abbrev pub AreLedDrawn : Problem → List Fact → List Fact → List ListedForm → Type 0
AreLedDrawn k older facts listed = (l : ListedForm) → Contains listed l → IsDrawnFrom k older facts l.number
