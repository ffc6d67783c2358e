-- Lines that show the marked facts, one fact after the other.
use Rattle.std.specs.Prelude.{◌≡◌, ℕ, suc, ◌<◌, ◌≤◌, ◌⊎◌, List, Bool, length, slice_get, Some}
use Rattle.std.specs.List.{Contains}
use Rattle.axioms.specs.Ontology.{Ontology}
use Rattle.certificate.specs.Certificate.{Line}
use Rattle.cert_check.specs.Derivation.{IsDerivation}
use Rattle.engine.specs.Saturations.{Saturated}
use Rattle.explain.specs.Marks.{IsMarked, AreClosed}
use Rattle.explain.specs.Uses.{IsPremise, RestsOn}
use Rattle.explain.specs.LinesOfFacts.{AreShowing}
use Rattle.facts.specs.declared.contexts.Fact.{Fact}
use Rattle.normal_forms.specs.declared.forms.Form.{Form}
use Rattle.number_sets.specs.Pieces.{list_at}
use Rattle.normalise.specs.Problem.{prefixes_of}

-- the facts, the paths by their forms, and marks that are handed on, which may end before the facts
pub record AreReady (s : Saturated) (forms : List Form) (marks : List Bool) : Type 0 where
  pub paths : forms ≡ s.state.problem.forms
  pub within : length marks ≤ length s.state.facts
  pub closed : AreClosed s marks

-- the n-th line shows a marked fact that serves none of the facts so far
pub record IsOpen (s : Saturated) (marks : List Bool) (shown : List (List ℕ)) (n : ℕ) : Type 0 where
  pub fact : ℕ
  pub marked : IsMarked marks fact
  pub shows : Contains (list_at shown fact) (suc n)
  pub serves_none : (m : ℕ) → m < length shown → IsMarked marks m → RestsOn s m fact → ⊥

-- the lines show each marked fact so far by those whose numbers stand in its list, and each line is a premise of a later one, or open
pub record IsShowing (o : Ontology) (s : Saturated) (marks : List Bool) (lines : List Line) (shown : List (List ℕ)) : Type 0 where
  pub derivation : IsDerivation o lines
  pub each : (n : ℕ) (f : Fact) → n < length shown → IsMarked marks n → slice_get s.state.facts n ≡ Some f → AreShowing (prefixes_of s.normal) lines (list_at shown n) f
  pub needed : (n : ℕ) → n < length lines → IsPremise lines n ⊎ IsOpen s marks shown n
