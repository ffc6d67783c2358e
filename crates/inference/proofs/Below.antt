-- A property that is not there lies below none but itself.
use Rattle.std.proofs.Common.{◌≡◌, ◌↔◌, ◌⊎◌, inl, inr, ⊎_elim, Bool, List, IsTrue, Contains, refl, sym, subst}
use Rattle.std.specs.List.{All}
use Rattle.std.proofs.lemmas.List.Elements.{All-contains}
use Rattle.normal_forms.specs.declared.forms.PropId2.{PropId2}
use Rattle.normal_forms.specs.declared.forms.PropId2.TheVariants.{Property}
use Rattle.normal_forms.specs.declared.forms.Form.{Form}
use Rattle.normal_forms.specs.declared.forms.Form.TheVariants.{N5}
use Rattle.normal_forms.specs.Properties.{IsAtOrBelow, IsPropertyFormOf, property_forms, same, step}
use Rattle.normal_forms.proofs.Suffice.{suffice}
use Rattle.property_closure.specs.PropertyClosures.{Known, Has}

itself_or_there : (k : Known) → All (IsPropertyFormOf k.properties k.partials) k.forms → (p q : PropId2) → IsAtOrBelow k.forms p q → (p ≡ q) ⊎ Has k p
itself_or_there k all p _ same = inl refl
itself_or_there k all p _ (step s t h c) = ⊎_elim
    (λ (e : p ≡ Property s). inr (subst (Has k) (sym e) (All-contains (IsPropertyFormOf k.properties k.partials) k.forms (N5 s t) all c).0))
    (λ (there : Has k p). inr there)
    (itself_or_there k all p (Property s) h)

pub at_once : (forms : List Form) (p q : PropId2) (there : Bool) → IsTrue there → p ≡ q → IsTrue there ↔ IsAtOrBelow forms p q
at_once forms p q there h e = (λ _. subst (λ (r : PropId2). IsAtOrBelow forms p r) e same, λ _. h)

-- what is told of the forms of properties is told of all forms
pub if_listed : (k : Known) (forms : List Form) → k.forms ≡ property_forms forms → (p q : PropId2) (list : List PropId2) (there : Bool)
    → All (IsPropertyFormOf k.properties k.partials) k.forms → ((r : PropId2) → Contains list r ↔ (Has k p × IsAtOrBelow k.forms p r))
    → (IsTrue there ↔ Contains list q) → ((p ≡ q) → ⊥) → IsTrue there ↔ IsAtOrBelow forms p q
if_listed k forms e p q list there all exact tells apart = (
  λ h. let w = (exact q).0 (tells.0 h) in (suffice forms p q (p, q)).0.0 (subst (λ (fs : List Form). IsAtOrBelow fs p q) e w.1),
  λ h.
      let low = subst (λ (fs : List Form). IsAtOrBelow fs p q) (sym e) ((suffice forms p q (p, q)).0.1 h) in
      tells.1 ((exact q).1 (⊎_elim (λ (i : p ≡ q). absurd (apart i)) (λ (has : Has k p). has) (itself_or_there k all p q low), low)),
)
