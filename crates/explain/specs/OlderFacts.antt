-- Which older facts the line of a fact rests on.
use Rattle.std.specs.Prelude.{◌≡◌, ℕ, List, [], Bool, true, false, ◌&&◌, ◌||◌, ◌==◌, if◌then◌else◌, slice_get, take, Option, Some, None}
use Rattle.std.specs.List.{Contains}
use Rattle.certificate.specs.Certificate.{Line}
use Rattle.engine.specs.Saturations.{Saturated}
use Rattle.explain.specs.Conditions.{by_edge, by_loop, of_context}
use Rattle.explain.specs.LinesOfFacts.{AreShowing}
use Rattle.facts.specs.Births.{Reason}
use Rattle.facts.specs.declared.contexts.Fact.{Fact}
use Rattle.normal_forms.specs.declared.forms.Origin.{Origin}
use Rattle.normal_forms.specs.declared.forms.Origin.TheVariants.{Axiom, Expr}
use Rattle.normalise.specs.declared.entries.Entry.{Entry}
use Rattle.number_sets.specs.Pieces.{list_at}
use Rattle.normalise.specs.Problem.{prefixes_of}

abbrev pub is_axiom : Origin → Bool
is_axiom (Axiom n) = true
is_axiom (Expr e) = false

abbrev pub is_by_axiom : Option Entry → Bool
is_by_axiom None = false
is_by_axiom (Some e) = is_axiom e.origin

-- whether an axiom gave the form of that number, and not an expression
abbrev pub by_axiom : List Entry → Option ℕ → Bool
by_axiom entries None = false
by_axiom entries (Some n) = is_by_axiom (slice_get entries n)

-- a line for a context itself and for a loop rests on none, one by a domain on the edge alone, and any other on all that gave it
abbrev pub rests_on : List Entry → Reason → List ℕ
rests_on entries r =
    if (r.condition == of_context) || (r.condition == by_loop) then []
    else (if (r.condition == by_edge) && by_axiom entries r.form then take 1 r.older else r.older)

-- each older fact that the line of the n-th fact rests on is shown by the lines whose numbers stand in its list
abbrev pub AreOlderShown : Saturated → List Line → List (List ℕ) → ℕ → Type 0
AreOlderShown s lines shown n =
    (r : Reason) → slice_get s.state.births n ≡ Some r → (m : ℕ) → Contains (rests_on s.normal.entries r) m →
    (f : Fact) → slice_get s.state.facts m ≡ Some f → AreShowing (prefixes_of s.normal) lines (list_at shown m) f
