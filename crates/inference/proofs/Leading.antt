-- What forms give that are listed with what they lead to.
use Rattle.std.proofs.Common.{◌≡◌, ℕ, List, [], ◌∷◌, map, Option, Some, sym, ap, subst, ◌∙◌}
use Rattle.std.proofs.lemmas.Option.{none-some, same_Some}
use Rattle.lemmas.proofs.Mapped.{Contains-map, slice_get_map_from}
use Rattle.normal_forms.specs.declared.forms.Form.{Form}
use Rattle.normal_forms.specs.declared.forms.Class2.{Class2}
use Rattle.normal_forms.specs.declared.forms.PropId2.{PropId2}
use Rattle.facts.specs.declared.contexts.Context.{Context}
use Rattle.facts.specs.declared.contexts.Fact.{Fact}
use Rattle.facts.specs.declared.contexts.Fact.TheVariants.{In, Edge}
use Rattle.facts.specs.Closure.{Problem, Concludes}
use Rattle.indexes.specs.declared.keys.Key.{Key}
use Rattle.indexes.specs.declared.listed_forms.ListedForm.{ListedForm}
use Rattle.indexes.specs.FormsUnderKeys.{IsUnder}
use Rattle.indexes.specs.Keys.{by_alone, by_filler, class_key}
use Rattle.indexes.specs.ListedForms.{number_of, AreLedBy}
use Rattle.inference.specs.Completeness.{IsDrawnFrom}
use Rattle.inference.specs.Led.{AreLed, AreLedDrawn, IsLed}
use Rattle.inference.specs.Visits.{filled_property}
use Rattle.inference.proofs.Visiting.{for_one}
use Rattle.inference.proofs.Lists.{Contains-from_slice_get, slice_get-from_Contains}

-- each form of the list by a class alone is listed for the class in a context
pub alone_led : (forms : List Form) (a : Class2) (x : Context) (older : List Fact) (listed : List ListedForm) → older ≡ In a x ∷ [] → AreLedBy by_alone forms (class_key a) listed → AreLed forms older listed
alone_led forms a x older listed is by l c =
    let w : IsUnder by_alone forms (class_key a) l.number = (by.numbers l.number).0 (Contains-map number_of listed l c) in
    (w.0, w.1, subst (IsLed w.0) (sym is) w.2)

-- a form that gives something from a class in a context needs it alone
pub needs_alone : (k : Problem) (form : Form) (a : Class2) (x : Context) (older : List Fact) (f : Fact) → older ≡ In a x ∷ [] → Concludes k form older f → by_alone form ≡ Some (class_key a)
needs_alone k form a x older f is gives = for_one k form (In a x) f (subst (λ (fs : List Fact). Concludes k form fs f) is gives)

-- each form of the list by a filler is listed for an edge and the class in a context
for_two : (form : Form) (older : List Fact) (p : PropId2) (c : Class2) → filled_property older ≡ Some (p, c) → by_filler form ≡ Some (class_key c) → IsLed form older
for_two form [] p c e key = absurd (none-some _ e)
for_two form (f ∷ []) p c e key = absurd (none-some _ e)
for_two form (In _ _ ∷ g ∷ []) p c e key = absurd (none-some _ e)
for_two form (Edge _ _ _ ∷ Edge _ _ _ ∷ []) p c e key = absurd (none-some _ e)
for_two form (Edge x q y ∷ In d z ∷ []) p c e key = key ∙ ap (λ (pair : PropId2 × Class2). Some (class_key pair.1)) (sym (same_Some _ _ e))
for_two form (f ∷ g ∷ h ∷ more) p c e key = absurd (none-some _ e)

pub fillers_led : (forms : List Form) (older : List Fact) (p : PropId2) (c : Class2) (listed : List ListedForm) → filled_property older ≡ Some (p, c) → AreLedBy by_filler forms (class_key c) listed → AreLed forms older listed
fillers_led forms older p c listed is by l there =
    let w : IsUnder by_filler forms (class_key c) l.number = (by.numbers l.number).0 (Contains-map number_of listed l there) in
    (w.0, w.1, for_two w.0 older p c is w.2)

-- so what all of them give is drawn
pub led_drawn : (k : Problem) (older facts : List Fact) (listed : List ListedForm) (key : Form → Option Key) (at : Key) → AreLedBy key k.forms at listed → AreLedDrawn k older facts listed → (n : ℕ) → IsUnder key k.forms at n → IsDrawnFrom k older facts n
led_drawn k older facts listed key at by drawn n under =
    let p = slice_get-from_Contains (map number_of listed) n ((by.numbers n).1 under) in
    let w = slice_get_map_from number_of listed p.0 n p.1 in
    subst (IsDrawnFrom k older facts) w.2 (drawn w.0 (Contains-from_slice_get listed p.0 w.0 w.1))
