-- Which expressions the forms name that axioms gave.
use Rattle.std.specs.Prelude.{◌≡◌, ℕ, ◌<◌, List, length, slice_get, Some}
use Rattle.axioms.specs.declared.ids.ExprId.{ExprId}
use Rattle.normal_forms.specs.Apart.{AreListedAt}
use Rattle.normal_forms.specs.declared.forms.Class2 as code_class
use Rattle.normal_forms.specs.declared.forms.Class2.TheVariants as classes
use Rattle.normal_forms.specs.declared.forms.Form as code_form
use Rattle.normal_forms.specs.declared.forms.Form.TheVariants as forms
use Rattle.normal_forms.specs.declared.forms.Origin.TheVariants as origins
use Rattle.normalise.specs.declared.entries.Entry.{Entry}
use Rattle.normalise.specs.Listing.{Listing}

-- an expression has a number below the bound
abbrev pub IsClassBelow : ℕ → code_class.Class2 → Type 0
IsClassBelow bound (classes.Expr e) = e.0 < bound
IsClassBelow bound (classes.Partial n) = Unit {0}

-- the expressions of an axiom, as they stand in a form that it gives, have numbers below the bound
abbrev pub IsFormBelow : ℕ → code_form.Form → Type 0
IsFormBelow bound (forms.N1 c d) = IsClassBelow bound c × IsClassBelow bound d
IsFormBelow bound (forms.N2 c d e) = IsClassBelow bound c × IsClassBelow bound d
IsFormBelow bound (forms.N4 r c d) = IsClassBelow bound d
IsFormBelow bound (forms.N8 i c) = IsClassBelow bound c
IsFormBelow bound _ = Unit {0}

-- the forms that axioms gave name expressions below the bound, and so do the lists of disjoint classes
pub record AreNamedBelow (bound : ℕ) (entries : List Entry) (lists : List (List ExprId)) : Type 0 where
  pub forms : (n : ℕ) (entry : Entry) → slice_get entries n ≡ Some entry → (k : ℕ) → entry.origin ≡ origins.Axiom k → IsFormBelow bound entry.form
  pub classes : (l : ℕ) (c d : ExprId) → AreListedAt lists l c d → (c.0 < bound) × (d.0 < bound)

-- each expression that they name may be marked
abbrev pub AreNamedBelowMarks : Listing → Type 0
AreNamedBelowMarks v = AreNamedBelow (length v.right) v.entries v.apart.classes
