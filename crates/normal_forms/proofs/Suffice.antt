-- What forms say of properties is said by the forms of properties alone.
use Rattle.std.proofs.Common.{◌↔◌, List, refl}
use Rattle.normal_forms.specs.declared.forms.PropId2.{PropId2}
use Rattle.normal_forms.specs.declared.forms.Form.{Form}
use Rattle.normal_forms.specs.declared.forms.Form.TheVariants.{N5, N6, N7}
use Rattle.normal_forms.proofs.Filters.{kept, from_kept}
use Rattle.normal_forms.specs.Properties.{IsAtOrBelow, IsReflexive, IsChainFrom, is_property_form, property_forms, same, step}

to_all : (forms : List Form) (p q : PropId2) → IsAtOrBelow (property_forms forms) p q → IsAtOrBelow forms p q
to_all forms p _ same = same
to_all forms p _ (step s t h c) = step s t (to_all forms p _ h) (from_kept is_property_form forms (N5 s t) c)

from_all : (forms : List Form) (p q : PropId2) → IsAtOrBelow forms p q → IsAtOrBelow (property_forms forms) p q
from_all forms p _ same = same
from_all forms p _ (step s t h c) = step s t (from_all forms p _ h) (kept is_property_form forms (N5 s t) c refl)

pub suffice : (forms : List Form) (p q : PropId2) (chain : PropId2 × PropId2) →
    (IsAtOrBelow (property_forms forms) p q ↔ IsAtOrBelow forms p q)
    × (IsReflexive (property_forms forms) p ↔ IsReflexive forms p)
    × (IsChainFrom (property_forms forms) p chain ↔ IsChainFrom forms p chain)
suffice forms p q chain = (
  (to_all forms p q, from_all forms p q),
  ((λ h. (h.0, (from_kept is_property_form forms (N7 h.0) h.1), to_all forms _ p h.2)), (λ h. (h.0, kept is_property_form forms (N7 h.0) h.1 refl, from_all forms _ p h.2))),
  ((λ c. (from_kept is_property_form forms (N6 p chain.0 chain.1) c)), (λ c. kept is_property_form forms (N6 p chain.0 chain.1) c refl)),
)
