-- Paths of plain property forms, and of forms that make individuals one.
use Rattle.std.specs.Prelude.{◌≡◌, ℕ, List, [], ◌∷◌, slice_get, Some}
use Rattle.axioms.specs.declared.ids.IndId.{IndId}
use Rattle.axioms.specs.declared.ids.PropId.{PropId}
use Rattle.normal_forms.specs.declared.forms.Form.{Form}
use Rattle.normal_forms.specs.declared.forms.Form.TheVariants.{N5}
use Rattle.explain.specs.Search.{LinksBy}

-- the forms of these numbers lead from r to s, each from where the one before it ends
abbrev pub IsPath : List Form → PropId → List ℕ → PropId → Type 0
IsPath forms r [] s = r ≡ s
IsPath forms r (n ∷ ns) s = (t : PropId) × (slice_get forms n ≡ Some (N5 r t)) × IsPath forms t ns s

-- the forms of these numbers make i and j one, each the individual that the one before it ends at and another
abbrev pub IsChain : List Form → IndId → List ℕ → IndId → Type 0
IsChain forms i [] j = i ≡ j
IsChain forms i (n ∷ ns) j = (h : IndId) × LinksBy forms n i h × IsChain forms h ns j
