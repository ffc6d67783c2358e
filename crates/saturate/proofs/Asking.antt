-- Which forms ask for a fact, by the keys of forms.
use Rattle.std.proofs.Common.{◌≡◌, ◌↔◌, ℕ, ◌⊎◌, inl, inr, ⊎_elim, Bool, true, false, not, eqb, Option, List, [], ◌∷◌, length, arith, Some, Contains, refl, sym, ap, subst, ◌∙◌}
use Rattle.std.proofs.lemmas.Bool.{false≢true}
use Rattle.std.proofs.lemmas.Option.{none-some, same_Some}
use Rattle.normal_forms.specs.declared.forms.Form.{Form}
use Rattle.normal_forms.specs.declared.forms.Form.TheVariants.{N1, N2, N3, N4, N5, N6, N7, N8, N9, N10, N12}
use Rattle.normal_forms.specs.declared.forms.PropId2.{PropId2}
use Rattle.normal_forms.specs.declared.forms.PropId2.TheVariants as property
use Rattle.normal_forms.specs.Properties.{IsAtOrBelow}
use Rattle.indexes.specs.declared.keys.Key.{Key}
use Rattle.facts.specs.declared.contexts.Context.{Context}
use Rattle.facts.specs.declared.contexts.Fact.{Fact}
use Rattle.facts.specs.declared.contexts.Fact.TheVariants.{In, Edge}
use Rattle.facts.specs.Closure.{Problem}
use Rattle.indexes.specs.Keys.{property_key, by_kind, by_chain, by_plain}
use Rattle.indexes.specs.FormsUnderKeys.{IsUnder}
use Rattle.saturate.specs.Requests.{Asks, BeginsWith, HasForm, IsAsked, IsAskedByForm, IsAskedByList, IsOfNamed, IsOfNamedClass, NamesAbove}
use Rattle.inference.proofs.Lists.{Contains-from_slice_get, slice_get-from_Contains}

-- a list that is not empty has some number
pub some_there : (xs : List ℕ) (empty : Bool) → empty ≡ eqb (length xs) 0 → not empty ≡ true → (n : ℕ) × Contains xs n
some_there [] empty e h = let k : false ≡ true = sym (ap not e) ∙ h in absurd (false≢true k)
some_there (x ∷ xs) empty e h = (x, (0, omega arith, refl))

-- ---- keys are different for different properties

one_property : (p q : PropId2) → property_key p ≡ property_key q → p ≡ q
one_property (property.Property m) (property.Property n) e = let k : m.0 ≡ n.0 = cc in ap (λ v. property.Property (record { 0 = v })) k
one_property (property.Property _) (property.Partial n) e = absurd (cc)
one_property (property.Partial m) (property.Property _) e = absurd (cc)
one_property (property.Partial m) (property.Partial n) e = cc

property_of : (p q : PropId2) → Some (property_key p) ≡ Some (property_key q) → q ≡ p
property_of p q e = sym (one_property p q (same_Some (property_key p) (property_key q) e))

-- a form under the key is such
pub under_has : (by_kind : Form → Option Key) (P : Form → Type 0) (at : Key) (added : List Form) → ((form : Form) → by_kind form ≡ Some at → P form) → (n : ℕ) → IsUnder by_kind added at n → HasForm P added
under_has by_kind P at added is n under = (under.0, Contains-from_slice_get added n under.0 under.1, is under.0 under.2)

-- where none is under the key, none that is there has it
none_under : (by_kind : Form → Option Key) (at : Key) (added : List Form) → ((n : ℕ) → IsUnder by_kind added at n → ⊥) → (form : Form) → Contains added form → by_kind form ≡ Some at → ⊥
none_under by_kind at added none form there e = let place = slice_get-from_Contains added form there in none place.0 (form, place.1, e)

-- ---- properties

pub plain : (p : PropId2) (form : Form) → by_plain form ≡ Some (property_key p) → BeginsWith form p
plain p (N5 r s) e = property_of (property.Property r) p e
plain p (N1 _ _) e = absurd (none-some _ e)
plain p (N2 _ _ _) e = absurd (none-some _ e)
plain p (N3 _ _ _) e = absurd (none-some _ e)
plain p (N4 _ _ _) e = absurd (none-some _ e)
plain p (N6 _ _ _) e = absurd (none-some _ e)
plain p (N7 _) e = absurd (none-some _ e)
plain p (N8 _ _) e = absurd (none-some _ e)
plain p (N9 _ _ _) e = absurd (none-some _ e)
plain p (N10 _ _) e = absurd (none-some _ e)
plain p (N12 _ _ _) e = absurd (none-some _ e)

pub chain : (p : PropId2) (form : Form) → by_chain form ≡ Some (property_key p) → BeginsWith form p
chain p (N6 r s t) e = property_of r p e
chain p (N1 _ _) e = absurd (none-some _ e)
chain p (N2 _ _ _) e = absurd (none-some _ e)
chain p (N3 _ _ _) e = absurd (none-some _ e)
chain p (N4 _ _ _) e = absurd (none-some _ e)
chain p (N5 _ _) e = absurd (none-some _ e)
chain p (N7 _) e = absurd (none-some _ e)
chain p (N8 _ _) e = absurd (none-some _ e)
chain p (N9 _ _ _) e = absurd (none-some _ e)
chain p (N10 _ _) e = absurd (none-some _ e)
chain p (N12 _ _ _) e = absurd (none-some _ e)

prefix : (p : PropId2) (form : Form) → BeginsWith form p → (by_plain form ≡ Some (property_key p)) ⊎ (by_chain form ≡ Some (property_key p))
prefix p (N5 r s) h = inl (ap (λ q. Some (property_key q)) (sym h))
prefix p (N6 r s t) h = inr (ap (λ q. Some (property_key q)) (sym h))
prefix p (N1 _ _) h = absurd h
prefix p (N2 _ _ _) h = absurd h
prefix p (N3 _ _ _) h = absurd h
prefix p (N4 _ _ _) h = absurd h
prefix p (N7 _) h = absurd h
prefix p (N8 _ _) h = absurd h
prefix p (N9 _ _ _) h = absurd h
prefix p (N10 _ _) h = absurd h
prefix p (N12 _ _ _) h = absurd h

pub not_begun : (added : List Form) (p : PropId2) → ((n : ℕ) → IsUnder by_plain added (property_key p) n → ⊥) → ((n : ℕ) → IsUnder by_chain added (property_key p) n → ⊥) → HasForm (λ form. BeginsWith form p) added → ⊥
not_begun added p no_plain no_chain begun =
    ⊎_elim
    (none_under by_plain (property_key p) added no_plain begun.0 begun.1)
    (none_under by_chain (property_key p) added no_chain begun.0 begun.1)
    (prefix p begun.0 begun.2)

-- a form that begins with a property at or above another names one above it
pub begins_above : (all : List Form) (p r : PropId2) → IsAtOrBelow all p r → (form : Form) → BeginsWith form r → NamesAbove all form p
begins_above all p r low (N5 s t) begins = subst (λ (q : PropId2). IsAtOrBelow all p q) begins low
begins_above all p r low (N6 s t u) begins = subst (λ (q : PropId2). IsAtOrBelow all p q) begins low
begins_above all p r low (N1 _ _) begins = absurd begins
begins_above all p r low (N2 _ _ _) begins = absurd begins
begins_above all p r low (N3 _ _ _) begins = absurd begins
begins_above all p r low (N4 _ _ _) begins = absurd begins
begins_above all p r low (N7 _) begins = absurd begins
begins_above all p r low (N8 _ _) begins = absurd begins
begins_above all p r low (N9 _ _ _) begins = absurd begins
begins_above all p r low (N10 _ _) begins = absurd begins
begins_above all p r low (N12 _ _ _) begins = absurd begins

-- a form that names one above it begins with a property at or above it
pub names_above : (all : List Form) (p : PropId2) (form : Form) → NamesAbove all form p → (r : PropId2) × IsAtOrBelow all p r × BeginsWith form r
names_above all p (N5 s t) h = (property.Property s, h, refl)
names_above all p (N6 s t u) h = (s, h, refl)
names_above all p (N1 _ _) h = absurd h
names_above all p (N2 _ _ _) h = absurd h
names_above all p (N3 _ _ _) h = absurd h
names_above all p (N4 _ _ _) h = absurd h
names_above all p (N7 _) h = absurd h
names_above all p (N8 _ _) h = absurd h
names_above all p (N9 _ _ _) h = absurd h
names_above all p (N10 _ _) h = absurd h
names_above all p (N12 _ _ _) h = absurd h

-- what is such is so in another way
pub asked_as : (P Q : Form → Type 0) (added : List Form) → ((form : Form) → P form → Q form) → HasForm P added → HasForm Q added
asked_as P Q added is has = (has.0, has.1, is has.0 has.2)

-- ---- what names, asks

-- one that names a property at or above that of an edge asks for it
pub above_asks : (all : List Form) (x : Context) (p : PropId2) (y : Context) (form : Form) → NamesAbove all form p → Asks all form (Edge x p y)
above_asks all x p y (N1 _ _) h = absurd h
above_asks all x p y (N2 _ _ _) h = absurd h
above_asks all x p y (N3 _ _ _) h = absurd h
above_asks all x p y (N4 _ _ _) h = absurd h
above_asks all x p y (N5 r s) h = h
above_asks all x p y (N6 r s t) h = h
above_asks all x p y (N7 _) h = absurd h
above_asks all x p y (N8 _ _) h = absurd h
above_asks all x p y (N9 _ _ _) h = absurd h
above_asks all x p y (N10 _ _) h = absurd h
above_asks all x p y (N12 _ _ _) h = absurd h

-- a form asks for the facts of a class that it names
pub asks_named : (forms : List Form) (form : Form) (f : Fact) → IsOfNamed form f → Asks forms form f
asks_named forms (N1 _ _) (In c x) names = names
asks_named forms (N1 _ _) (Edge x p y) names = absurd names
asks_named forms (N2 _ _ _) (In c x) names = names
asks_named forms (N2 _ _ _) (Edge x p y) names = absurd names
asks_named forms (N3 _ _ _) (In c x) names = names
asks_named forms (N3 _ _ _) (Edge x p y) names = absurd names
asks_named forms (N4 _ _ _) (In c x) names = names
asks_named forms (N4 _ _ _) (Edge x p y) names = absurd names
asks_named forms (N5 _ _) (In c x) names = absurd names
asks_named forms (N5 _ _) (Edge x p y) names = absurd names
asks_named forms (N6 _ _ _) (In c x) names = absurd names
asks_named forms (N6 _ _ _) (Edge x p y) names = absurd names
asks_named forms (N7 _) (In c x) names = names
asks_named forms (N7 _) (Edge x p y) names = absurd names
asks_named forms (N8 _ _) (In c x) names = absurd names
asks_named forms (N8 _ _) (Edge x p y) names = absurd names
asks_named forms (N9 _ _ _) (In c x) names = absurd names
asks_named forms (N9 _ _ _) (Edge x p y) names = absurd names
asks_named forms (N10 _ _) (In c x) names = absurd names
asks_named forms (N10 _ _) (Edge x p y) names = absurd names
asks_named forms (N12 _ _ _) (In c x) names = absurd names
asks_named forms (N12 _ _ _) (Edge x p y) names = absurd names

-- where there is no list, and each form that asks for the fact names its class
pub asked_by_class : (all : List Form) (added : Problem) (f : Fact) → ((form : Form) → Contains added.forms form → Asks all form f → IsOfNamed form f) → length added.apart.classes ≡ 0 → IsOfNamedClass added.forms f ↔ IsAsked all added f
asked_by_class all added f each lists = (
  λ named. inl (asked_as (λ form. IsOfNamed form f) (λ form. Asks all form f) added.forms (λ form is. asks_named all form f is) named),
  λ asked. ⊎_elim
      (λ (w : IsAskedByForm all added.forms f). (w.0, w.1, each w.0 w.1 w.2))
      (λ (w : IsAskedByList added.apart.classes f). absurd (omega (arith, w.1.1, lists)))
      asked,
)
