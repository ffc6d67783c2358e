-- Which individuals are members of what is asked about, by facts.
use Rattle.std.proofs.Common.{◌≡◌, ◌↔◌, ◌⊎◌, inl, inr, ⊎_elim, ◌<◌, Bool, true, false, not, IsTrue, Contains, length, refl}
use Rattle.std.proofs.lemmas.Bool.{false≢true}
use Rattle.axioms.specs.Ontology.{axiom_trees, expression, individual_name}
use Rattle.axioms.specs.WellFormedness.{IsOntology}
use Rattle.axioms.specs.declared.ids.ExprId.{ExprId}
use Rattle.axioms.specs.declared.ids.IndId.{IndId}
use Rattle.classification.proofs.Following.{members_by_facts}
use Rattle.closure.specs.Closure.{Expression, Individual, In, IsFact, IsRoot}
use Rattle.countermodel.proofs.Facts.{whole_said}
use Rattle.engine.specs.Closed.{Closed}
use Rattle.engine.specs.Saturations.{IsSaturated}
use Rattle.entailment.specs.Testers.{puts}
use Rattle.exactness.specs.ListedInterpretation.{IsConsistent}
use Rattle.interpretation_spec.specs.Interpretation.{IsMember}
use Rattle.normal_forms.specs.Forms.{Whole}
use Rattle.normalise.specs.Problem.{prefixes_of}

module _ (all : Closed) (w : IsOntology all.ontology) (h : IsSaturated all.ontology all.saturation) (a : IndId) (e : ExprId) (there : a.0 < length all.ontology.names.individuals) (root : IsRoot all.ontology all.saturation.normal.asked (Expression e.0)) where
  abbrev pub IsThere : Type 0
  IsThere = Contains all.saturation.state.facts (puts a e)

  abbrev pub IsIt : Type 0
  IsIt = IsMember (axiom_trees all.ontology) (individual_name all.ontology a.0) (expression all.ontology e.0)

  said : IsThere ↔ IsFact all.ontology all.saturation.normal.asked (In (Whole e.0) (Individual a.0))
  said = whole_said all.ontology all.saturation.normal.asked (prefixes_of all.saturation.normal) all.saturation.state.facts h.facts e (Individual a.0)

  by : IsIt ↔ ((IsConsistent all.ontology all.saturation.normal.asked → ⊥) ⊎ IsFact all.ontology all.saturation.normal.asked (In (Whole e.0) (Individual a.0)))
  by = members_by_facts all.ontology w all.saturation h a.0 e.0 there root

  pub by_fact : IsThere → IsIt
  by_fact is = by.1 (inr (said.0 is))

  pub without_fact : (IsThere → ⊥) → (consistent : Bool) → IsTrue consistent ↔ IsConsistent all.ontology all.saturation.normal.asked → (not consistent ≡ true) ↔ IsIt
  without_fact none true told = (λ k. absurd (false≢true k), λ is. ⊎_elim (λ c. absurd (c (told.0 refl))) (λ f. absurd (none (said.1 f))) (by.0 is))
  without_fact none false told = (λ k. by.1 (inl (λ c. false≢true (told.1 c))), λ is. refl)
