-- What facts and forms over numbers say of contexts and properties.
use Rattle.std.proofs.Common.{◌≡◌, ℕ, List, refl, ap}
use Rattle.axioms.specs.Ontology.{Ontology}
use Rattle.axioms.specs.declared.ids.PropId.{PropId}
use Rattle.normal_forms.specs.declared.forms.PropId2.TheVariants as properties
use Rattle.normal_forms.specs.declared.forms.Form as code_form
use Rattle.normal_forms.specs.Forms.{Property2, Property, Steps}
use Rattle.normal_forms.specs.Properties as code_below
use Rattle.facts.specs.declared.contexts.Context as code_context
use Rattle.closure.specs.Closure.{Context, Expression, Individual, IsAtOrBelow}
use Rattle.closure.specs.Denotations.{Prefixes, SaysProperty, property, SaysContext, expression, individual, context_of}
use Rattle.closure.proofs.Names.{prop_id}
use Rattle.closure.proofs.Said.{below_as, below_by}
use Rattle.engine.specs.Saturations.{IsSaturated, Saturated}
use Rattle.normalise.specs.Problem.{prefixes_of}

pub said_context : {x : code_context.Context} {y : Context} → SaysContext x y → context_of x ≡ y
said_context (expression h) = ap Expression h
said_context (individual h) = ap Individual h

-- ---- properties

abbrev pub IsPlain : Property2 → Type 0
IsPlain (Property r) = Unit {0}
IsPlain (Steps rs) = ⊥

-- what is above a prefix of a chain is no property
pub plain_below : {o : Ontology} {asked : List ℕ} {p q : Property2} → IsAtOrBelow o asked p q → IsPlain q → IsPlain p
plain_below IsAtOrBelow.same h = h
plain_below (IsAtOrBelow.step s t below form) h = plain_below below tt

module _ (o : Ontology) (s : Saturated) (saturated : IsSaturated o s) where
  abbrev begun : Prefixes
  begun = prefixes_of s.normal

  abbrev all_forms : List code_form.Form
  all_forms = s.state.problem.forms

  pub said_property : (id : PropId) {q : Property2} → SaysProperty begun (properties.Property id) q → Property id.0 ≡ q
  said_property id (property h) = ap Property h

  -- a property is at or below another for the ontology where it is so by the forms of the saturation, and the other way
  pub below_said : (a b : PropId) → code_below.IsAtOrBelow all_forms (properties.Property a) (properties.Property b) → IsAtOrBelow o s.normal.asked (Property a.0) (Property b.0)
  below_said a b below = below_as o s.normal.asked begun s.state.problem saturated.problem below (property refl) (property refl)

  pub below_sayer : (a : PropId) (r : ℕ) → IsAtOrBelow o s.normal.asked (Property a.0) (Property r) → code_below.IsAtOrBelow all_forms (properties.Property a) (properties.Property (prop_id r))
  below_sayer a r below = below_by o s.normal.asked begun s.state.problem saturated.problem below (property refl) (property refl)
