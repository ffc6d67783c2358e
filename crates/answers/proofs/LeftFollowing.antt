-- What occurs on a left side follows exactly where it is a fact.
use Rattle.std.proofs.Common.{◌↔◌, ◌⊎◌, inl, inr, ⊎_elim, ℕ, ◌<◌, List, [], length, refl}
use Rattle.axioms.specs.Ontology.{Ontology, nothing, expression, individual_name, axiom_trees}
use Rattle.axioms.specs.WellFormedness.{IsOntology}
use Rattle.cert_check.proofs.Derivations.{line_true}
use Rattle.certificate.specs.Certificate as line
use Rattle.certificate.specs.Certificate.{Sub}
use Rattle.classification.proofs.Deciding.{Decided}
use Rattle.classification.proofs.Existing.{has_fact, listed}
use Rattle.classification.proofs.Following.{consistent, contradictory}
use Rattle.classification.proofs.Leading.{fact_of_leader}
use Rattle.closure.specs.Closure.{Context, Expression, Individual, In, IsContextBy, AreFacts, IsFact, IsRoot}
use Rattle.closure.specs.Groups.{least_same}
use Rattle.engine.specs.Saturations.{Saturated, IsSaturated}
use Rattle.exactness.specs.ListedInterpretation.{IsConsistent, IsListedInterpretation, IsSatisfiable}
use Rattle.exactness.proofs.Complete.{individual_at, listed_agrees, listed_is_model}
use Rattle.exactness.proofs.Derivable.{HasLine-from_derivable}
use Rattle.exactness.proofs.Exact.{sound_below, sound_nothing}
use Rattle.exactness.proofs.Facts.{below_derivable}
use Rattle.interpretation_spec.specs.Interpretation.{Interpretation, IsBelow, IsMember}
use Rattle.normal_forms.specs.Forms.{Whole}
use Rattle.normal_forms.specs.Occurrences.{OccursLeft}
use Rattle.normalise.specs.Problem.{prefixes_of}

module _ (o : Ontology) (w : IsOntology o) (s : Saturated) (h : IsSaturated o s) where
  abbrev asked : List ℕ
  asked = s.normal.asked

  exists : IsConsistent o asked → (xs : List Context) × (i : Interpretation) × IsListedInterpretation o asked xs i
  exists = listed o asked w (prefixes_of s.normal) s.state.problem h.problem s.state.facts h.facts

  pub fact_of : (x : Context) (e : ℕ) → Decided (IsFact o asked (In (Whole e) x))
  fact_of = has_fact o asked w (prefixes_of s.normal) s.state.problem h.problem s.state.facts h.facts

  -- what a fact says of an individual holds in each interpretation of the axioms
  member_sound : (a f : ℕ) → IsFact o asked (In (Whole f) (Individual a)) → IsMember (axiom_trees o) (individual_name o a) (expression o f)
  member_sound a f fact i m =
      let (lines, d, there) = HasLine-from_derivable (below_derivable o asked w (Individual a) f fact) in
      line_true o w lines d i m (Sub (line.Individual a) f) there (i.individual (individual_name o a)) (m.interpretation.individuals (individual_name o a)) refl

  module _ (f : ℕ) (occurs : OccursLeft o asked f) where
    -- the context's own element is in the expression, so this is a fact
    below_complete : IsConsistent o asked → (e : ℕ) → IsRoot o asked (Expression e) → (IsFact o asked (In (Whole nothing) (Expression e)) → ⊥)
        → IsBelow (axiom_trees o) (expression o e) (expression o f) → IsFact o asked (In (Whole f) (Expression e))
    below_complete k e root without follows =
        let (xs, i, l) = exists k in
        let agrees = listed_agrees o asked xs i w h.asked l in
        let own : IsSatisfiable o asked (Expression e) = record { context = ([], IsContextBy.root root, AreFacts.none); without_nothing = without } in
        let (m, low, at) = agrees.element (Expression e) own tt in
        agrees.left f m (Expression e) occurs at
        (follows i (listed_is_model o asked xs i w h.asked l k) m low (agrees.claimed e m root at))

    member_complete : IsConsistent o asked → (a : ℕ) → a < length o.names.individuals
        → IsMember (axiom_trees o) (individual_name o a) (expression o f) → IsFact o asked (In (Whole f) (Individual a))
    member_complete k a low follows =
        let (xs, i, l) = exists k in
        let agrees = listed_agrees o asked xs i w h.asked l in
        fact_of_leader o asked (Individual a) (Whole f)
        (agrees.left f (i.individual (individual_name o a)) (Individual (least_same o a)) occurs (individual_at o asked xs i w h.asked l k a low)
        (follows i (listed_is_model o asked xs i w h.asked l k)))

    pub below_by_left : (e : ℕ) → IsRoot o asked (Expression e) → IsBelow (axiom_trees o) (expression o e) (expression o f)
        ↔ ((IsConsistent o asked → ⊥) ⊎ (IsFact o asked (In (Whole nothing) (Expression e)) ⊎ IsFact o asked (In (Whole f) (Expression e))))
    below_by_left e root = (
      λ follows. ⊎_elim
          (λ k. ⊎_elim (λ none. inr (inl none)) (λ without. inr (inr (below_complete k e root without follows))) (fact_of (Expression e) nothing))
          (λ none. inl none) (consistent o w s h),
      λ facts. ⊎_elim
          (λ none i m. absurd ((contradictory o w s h).1 none i m))
          (λ fact. ⊎_elim (sound_nothing o asked w e f) (sound_below o asked w e f) fact) facts,
    )

    pub member_by_left : (a : ℕ) → a < length o.names.individuals → IsMember (axiom_trees o) (individual_name o a) (expression o f)
        ↔ ((IsConsistent o asked → ⊥) ⊎ IsFact o asked (In (Whole f) (Individual a)))
    member_by_left a low = (
      λ follows. ⊎_elim (λ k. inr (member_complete k a low follows)) (λ none. inl none) (consistent o w s h),
      λ facts. ⊎_elim (λ none i m. absurd ((contradictory o w s h).1 none i m)) (member_sound a f) facts,
    )
