-- What follows from the axioms, by the facts of a saturation.
use Rattle.std.proofs.Common.{◌≡◌, ◌↔◌, ℕ, ◌<◌, ◌⊎◌, inl, inr, ⊎_elim, Bool, true, IsTrue, List, length, get_or, arith}
use Rattle.std.proofs.lemmas.Bool.{cases_eq, cases_lt}
use Rattle.std.proofs.lemmas.Option.{slice_get-get_or}
use Rattle.std.proofs.lemmas.List.Elements.{All-contains}
use Rattle.lemmas.proofs.Members.{Contains-from_slice_get}
use Rattle.axioms.specs.Ontology.{Ontology, thing, nothing, expression, individual_name, axiom_trees}
use Rattle.axioms.specs.WellFormedness.{IsOntology}
use Rattle.facts.specs.declared.contexts.Context.TheVariants as contexts
use Rattle.facts.specs.declared.contexts.Fact as code_fact
use Rattle.facts.specs.declared.contexts.Fact.TheVariants as facts
use Rattle.normal_forms.specs.declared.forms.Class2.TheVariants as classes
use Rattle.normal_forms.specs.Forms.{Whole}
use Rattle.closure.specs.Closure.{Context, Expression, Individual, In, IsFact, IsRoot}
use Rattle.exactness.specs.ListedInterpretation.{IsConsistent, IsListedInterpretation}
use Rattle.exactness.proofs.Complete.{complete_contradictory}
use Rattle.exactness.proofs.Exact.{sound_below, sound_nothing, contradiction_sound, exact_below, exact_types}
use Rattle.interpretation_spec.specs.Interpretation.{Interpretation, IsBelow, IsMember, IsContradictory}
use Rattle.normalise.specs.Problem.{prefixes_of}
use Rattle.engine.specs.Saturations.{Saturated, IsSaturated}
use Rattle.explain.specs.Marks.{IsContradictoryFact}
use Rattle.classification.proofs.Saying.{consistent_by_facts}
use Rattle.classification.proofs.Deciding.{Decided, some_of}
use Rattle.classification.proofs.Existing.{has_fact, listed}

is_contradictory : (o : Ontology) (f : code_fact.Fact) → Decided (IsContradictoryFact o f)
is_contradictory o (facts.In (classes.Expr c) (contexts.Expr e)) = ⊎_elim
    (λ h. ⊎_elim (λ l. inl (h, l)) (λ n. inr (λ b. n b.1)) (cases_eq e.0 thing))
    (λ n. inr (λ b. n b.0))
    (cases_eq c.0 nothing)
is_contradictory o (facts.In (classes.Expr c) (contexts.Individual i)) = ⊎_elim
    (λ h. ⊎_elim (λ l. inl (h, l)) (λ n. inr (λ b. absurd (omega (arith, n, b.1)))) (cases_lt i.0 (length o.names.individuals)))
    (λ n. inr (λ b. n b.0))
    (cases_eq c.0 nothing)
is_contradictory o (facts.In (classes.Partial n) x) = inr (λ b. b)
is_contradictory o (facts.Edge x r y) = inr (λ b. b)

module _ (o : Ontology) (w : IsOntology o) (s : Saturated) (h : IsSaturated o s) where
  abbrev asked : List ℕ
  asked = s.normal.asked

  exists : IsConsistent o asked → (xs : List Context) × (i : Interpretation) × IsListedInterpretation o asked xs i
  exists = listed o asked w (prefixes_of s.normal) s.state.problem h.problem s.state.facts h.facts

  pub consistent : Decided (IsConsistent o asked)
  consistent =
      let by = consistent_by_facts o s w h in
      ⊎_elim
      (λ v. inr (λ c. All-contains (λ f. IsContradictoryFact o f → ⊥) s.state.facts v.1 (by.1 c) (Contains-from_slice_get s.state.facts v.0 v.1 v.2) v.3))
      (λ n. inl (by.0 (λ k d l bad. n (k, get_or s.state.facts k d, slice_get-get_or s.state.facts k d l, bad))))
      (some_of (IsContradictoryFact o) (is_contradictory o) s.state.facts)

  -- there is no interpretation exactly where the closure is contradictory
  pub contradictory : IsContradictory (axiom_trees o) ↔ (IsConsistent o asked → ⊥)
  contradictory = (
    λ none c. (let (xs, i, l) = exists c in complete_contradictory o asked xs i w h.asked l none c),
    λ none i m. none (record { things = λ f. (contradiction_sound o asked w).0 f i m; individuals = λ a l f. (contradiction_sound o asked w).1 a f i m }),
  )

  -- what tells whether the closure is consistent tells whether there is an interpretation
  pub consistent_where : (told : Bool) → IsTrue told ↔ IsConsistent o asked → (told ≡ true) ↔ (IsContradictory (axiom_trees o) → ⊥)
  consistent_where told is = (
    λ t none. contradictory.0 none (is.0 t),
    λ some. ⊎_elim is.1 (λ n. absurd (some (contradictory.1 n))) consistent,
  )

  fact_of : (x : Context) (e : ℕ) → Decided (IsFact o asked (In (Whole e) x))
  fact_of = has_fact o asked w (prefixes_of s.normal) s.state.problem h.problem s.state.facts h.facts

  module _ (e f : ℕ) (root : IsRoot o asked (Expression e)) (above : IsRoot o asked (Expression f)) where
    abbrev ByFacts : Type 0
    ByFacts = (IsConsistent o asked → ⊥) ⊎ (IsFact o asked (In (Whole nothing) (Expression e)) ⊎ IsFact o asked (In (Whole f) (Expression e)))

    where_consistent : IsConsistent o asked → IsBelow (axiom_trees o) (expression o e) (expression o f) → Decided (IsFact o asked (In (Whole nothing) (Expression e))) → ByFacts
    where_consistent k follows (inl n) = inr (inl n)
    where_consistent k follows (inr other) =
        let (xs, i, l) = exists k in
        inr (inr ((exact_below o asked xs i w h.asked l k e f root above other).0 follows))

    pub below_by_facts : IsBelow (axiom_trees o) (expression o e) (expression o f) ↔ ByFacts
    below_by_facts = (
      λ follows. ⊎_elim (λ k. where_consistent k follows (fact_of (Expression e) nothing)) (λ none. inl none) consistent,
      λ facts. ⊎_elim (λ none i m. absurd (contradictory.1 none i m)) (λ fact. ⊎_elim (sound_nothing o asked w e f) (sound_below o asked w e f) fact) facts,
    )

  module _ (a f : ℕ) (within : a < length o.names.individuals) (root : IsRoot o asked (Expression f)) where
    pub members_by_facts : IsMember (axiom_trees o) (individual_name o a) (expression o f) ↔ ((IsConsistent o asked → ⊥) ⊎ IsFact o asked (In (Whole f) (Individual a)))
    members_by_facts = (
      λ follows. ⊎_elim (λ k. (let (xs, i, l) = exists k in inr ((exact_types o asked xs i w h.asked l k a f within root).0 follows))) (λ none. inl none) consistent,
      λ by. ⊎_elim (λ none i m. absurd (contradictory.1 none i m))
          (λ fact. ⊎_elim (λ k. (let (xs, i, l) = exists k in (exact_types o asked xs i w h.asked l k a f within root).1 fact)) (λ none i m. absurd (contradictory.1 none i m)) consistent) by,
    )
