-- Edges lifted by plain property forms.
use Rattle.std.specs.Prelude.{◌≡◌, ℕ, List, Option, MatchOption, slice_get, Some}
use Rattle.axioms.specs.declared.ids.PropId.{PropId}
use Rattle.certificate.specs.Certificate.{Line}
use Rattle.engine.specs.Saturations.{Saturated}
use Rattle.explain.specs.LinesOfFacts.{AreShowing}
use Rattle.facts.specs.declared.contexts.Context.{Context}
use Rattle.facts.specs.declared.contexts.Fact.TheVariants.{Edge}
use Rattle.normal_forms.specs.declared.forms.Form.TheVariants.{N5}
use Rattle.normal_forms.specs.declared.forms.Origin.TheVariants.{Axiom}
use Rattle.normal_forms.specs.declared.forms.PropId2.TheVariants.{Property}
use Rattle.normalise.specs.Listing.{Listing}
use Rattle.normalise.specs.Problem.{prefixes_of}

-- the form of that number puts r below s, and the axiom of number n gave it
abbrev pub GivesStep : Listing → ℕ → PropId → PropId → ℕ → Type 0
GivesStep v form r s n = slice_get v.entries form ≡ Some (record { form = N5 r s; origin = Axiom n })

-- the form of that number puts one property below another, and the lines of these numbers show an edge of the one below
pub record LiftsEdgeTo (s : Saturated) (lines : List Line) (numbers : List ℕ) (source target : Context) (form : ℕ) (below above : PropId) : Type 0 where
  pub leads : slice_get s.state.problem.forms form ≡ Some (N5 below above)
  pub shown : AreShowing (prefixes_of s.normal) lines numbers (Edge source (Property below) target)

-- the property that the form of that number leads to, and the number of the axiom that gave it, where it leads from one property to another
abbrev pub IsStepOf : Listing → ℕ → Option (PropId × ℕ) → Type 0
IsStepOf v form found = MatchOption found ((r s : PropId) (n : ℕ) → GivesStep v form r s n → ⊥) (λ step. (r : PropId) × GivesStep v form r step.0 step.1)

-- the new lines of the shown numbers show the edge lifted by the form, where the old lines of these numbers show it
abbrev pub ShowsLedOn : Saturated → (old new : List Line) → List ℕ → (source target : Context) → ℕ → List ℕ → Type 0
ShowsLedOn s old new numbers source target form shown =
    (below above : PropId) → LiftsEdgeTo s old numbers source target form below above → AreShowing (prefixes_of s.normal) new shown (Edge source (Property above) target)
