-- Classes in a context that lists of disjoint classes put apart from one.
use Rattle.std.specs.Prelude.{◌≡◌, ℕ, List, slice_get, Some}
use Rattle.std.specs.List.{Contains}
use Rattle.normal_forms.specs.declared.forms.Class2.{Class2}
use Rattle.facts.specs.declared.contexts.Context.{Context}
use Rattle.facts.specs.declared.contexts.Fact.{Fact}
use Rattle.facts.specs.declared.contexts.Fact.TheVariants.{In}
use Rattle.facts.specs.Closure.{Problem, AreDisjointAt, nothing}
use Rattle.indexes.specs.declared.apart.Apart.{Apart}
use Rattle.indexes.specs.Apart.{IsApart}

-- owl:Nothing is in the context into which the facts put two classes, where a list of disjoint classes has both, that of the first fact at an
-- earlier place
abbrev pub IsPartingDrawn : Problem → Fact → Fact → List Fact → Type 0
IsPartingDrawn k f g facts = (l : ℕ) (a b : Class2) (x : Context) → AreDisjointAt k l a b → f ≡ In a x → g ≡ In b x → Contains facts (In nothing x)

-- the fact of that number puts one of the classes that are apart into the context
abbrev pub IsApartIn : Apart → Context → List Fact → ℕ → Type 0
IsApartIn apart x facts n = (b : Class2) × IsApart apart b × (slice_get facts n ≡ Some (In b x))

-- none of the facts with these numbers does
abbrev pub NoneIsApart : Apart → Context → List Fact → List ℕ → Type 0
NoneIsApart apart x facts numbers = (n : ℕ) → Contains numbers n → IsApartIn apart x facts n → ⊥

-- owl:Nothing is in the context, if one of the facts with these numbers does
abbrev pub AreApartMet : Apart → Context → List Fact → List ℕ → List Fact → Type 0
AreApartMet apart x old numbers new = (n : ℕ) → Contains numbers n → IsApartIn apart x old n → Contains new (In nothing x)
