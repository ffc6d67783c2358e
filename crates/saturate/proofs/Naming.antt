-- What is named is still there where there is more.
use Rattle.std.proofs.Common.{◌≡◌, ℕ, ◌+◌, ◌<◌, ◌≤◌, List, length, slice_get, get_or, Some, Contains, refl, subst, sym, ◌∙◌, arith, below_more}
use Rattle.std.specs.List.{All}
use Rattle.std.proofs.lemmas.Option.{same_Some, slice_get-get_or, slice_get_within}
use Rattle.inference.proofs.Lists.{Contains-from_slice_get, slice_get-from_Contains}
use Rattle.normal_forms.specs.declared.forms.PropId2.{PropId2}
use Rattle.normal_forms.specs.declared.forms.PropId2.TheVariants.{Property, Partial}
use Rattle.normal_forms.specs.declared.forms.Form.{Form}
use Rattle.normal_forms.specs.declared.forms.Form.TheVariants.{N1, N2, N3, N4, N5, N6, N7, N8, N9, N10, N12}
use Rattle.normal_forms.specs.Properties.{IsPropertyFormOf, property_forms}
use Rattle.property_closure.specs.PropertyClosures.{Known}
use Rattle.inference.specs.PropertyClosures.{IsClosureOf}
use Rattle.saturate.specs.declared.counts.Counts.{Counts}
use Rattle.saturate.specs.Counts.{HasNames, HasNamesBelow, HasProperty, IsMore}

pub property_stays : (c d : Counts) → IsMore c d → (p : PropId2) → HasProperty c p → HasProperty d p
property_stays c d m (Property r) h = omega (arith, h, m.properties)
property_stays c d m (Partial n) h = omega (arith, h, m.partials)

form_stays : (c d : Counts) → IsMore c d → (form : Form) → IsPropertyFormOf c.properties c.partials form → IsPropertyFormOf d.properties d.partials form
form_stays c d m (N1 _ _) h = tt
form_stays c d m (N2 _ _ _) h = tt
form_stays c d m (N3 _ _ _) h = tt
form_stays c d m (N4 _ _ _) h = tt
form_stays c d m (N5 r s) h = (property_stays c d m (Property r) h.0, property_stays c d m (Property s) h.1)
form_stays c d m (N6 r s t) h = (property_stays c d m r h.0, property_stays c d m s h.1, property_stays c d m t h.2)
form_stays c d m (N7 r) h = property_stays c d m (Property r) h
form_stays c d m (N8 _ _) h = tt
form_stays c d m (N9 _ _ _) h = tt
form_stays c d m (N10 _ _) h = tt
form_stays c d m (N12 _ _ _) h = tt

pub names_stay : (c d : Counts) → IsMore c d → (form : Form) → HasNames c form → HasNames d form
names_stay c d m form h = record {
  named = form_stays c d m form h.named;
  edges = λ p puts. property_stays c d m p (h.edges p puts);
}

pub one_form_more : (c d : Counts) (forms : List Form) (k : ℕ) (form : Form) → IsMore c d → HasNamesBelow c forms k → slice_get forms k ≡ Some form → HasNames d form → HasNamesBelow d forms (k + 1)
one_form_more c d forms k form m before at has = below_more NamedAt k (λ n low f is. names_stay c d m f (before n low f is)) (λ f is. subst (HasNames d) (same_Some form f (sym at ∙ is)) has)
  where
    NamedAt : ℕ → Type 0
    NamedAt n = (f : Form) → slice_get forms n ≡ Some f → HasNames d f

pub all_named : (c : Counts) (forms : List Form) → ((form : Form) → Contains forms form → HasNames c form) → All (IsPropertyFormOf c.properties c.partials) forms
all_named c forms has k d low = (has (get_or forms k d) (Contains-from_slice_get forms k (get_or forms k d) (slice_get-get_or forms k d low))).named

-- after all of them
pub all_have_names : (c : Counts) (forms : List Form) (k : ℕ) → length forms ≤ k → HasNamesBelow c forms k → (form : Form) → Contains forms form → HasNames c form
all_have_names c forms k all below form there =
    let (n, at) = slice_get-from_Contains forms form there in
    let low : n < length forms = slice_get_within forms n form at in
    below n (omega (arith, low, all)) form at

pub is_closure : (c : Counts) (forms : List Form) (known : Known) → ((form : Form) → Contains forms form → HasNames c form)
    → known ≡ record { properties = c.properties; partials = c.partials; forms = property_forms forms } → IsClosureOf forms known
is_closure c forms known has is = subst (IsClosureOf forms) (sym is) (record { same = refl; has = λ form there p puts. (has form there).edges p puts })
