-- What conditions for a class are, and that what has all parts of one is in the class.
use Rattle.std.proofs.Common.{◌≡◌, ◌==◌, ⊎_elim, not, ℕ, ◌+◌, ◌<◌, Bool, true, false, List, [], ◌∷◌, if◌then◌else◌, get_or, length, map, slice_get, Option, Some, All, Contains, refl, sym, subst, arith}
use Rattle.std.specs.List.{enumerate_from, flat_map, list_any}
use Rattle.std.proofs.lemmas.Bool.{eqb-true}
use Rattle.std.proofs.lemmas.List.{length-map}
use Rattle.std.proofs.lemmas.List.Elements.{All-append, All-cons, All-contains, All-head, All-map, All-nil, All-weaker, Contains-get_or}
use Rattle.lemmas.proofs.Mapped.{All-from_map}
use Rattle.lemmas.proofs.Members.{Contains-cons_cases, Contains-first, Contains-later, Contains-none, Contains-one}
use Rattle.lemmas.proofs.Pairs.{AllPairs-from_map}
use Rattle.axioms.specs.Expression.{ClassExpression, Iri}
use Rattle.axioms.specs.Ontology.{Ontology, Axiom, SubClass, EquivalentClasses, Node, Class, And, axiom_tree, axiom_trees, expression, expressions}
use Rattle.axioms.specs.WellFormedness.{IsAxiomOf, IsOntology}
use Rattle.axioms.proofs.Trees.{and_tree}
use Rattle.cert_check.proofs.Places.{of_elements}
use Rattle.interpretation_spec.specs.Interpretation.{Interpretation, IsIn, IsModel, IsSame, IsWithin, Satisfies}
use Rattle.interpretation_spec.proofs.Extensions.{in_intersection}
use Rattle.normal_forms.specs.Occurrences.{OccursLeft, AtLeft}
use Rattle.program.specs.declared.question.Asked.{Asked}
use Rattle.program.specs.declared.question.Asked.TheVariants as asked
use Rattle.answers.specs.Conditions.{conditions_of, conditions_in, numbered_conditions, others, parts_by, parts_of, numbers_of, AreConditions, IsInExpression}
use Rattle.answers.specs.declared.condition.Condition.{Condition}
use Rattle.answers.specs.declared.condition.Part.{Part}
use Rattle.answers.specs.Explanations.{FollowsFor, IsClassNamed}
use Rattle.answers.proofs.Deriving.{named_tree}
use Rattle.answers.proofs.Grouping.{listed_is}

-- ---- what an axiom states

-- the axiom says that f lies below e
abbrev pub IsStatedBelow : Axiom → (f e : ℕ) → Type 0
IsStatedBelow (SubClass c d) f e = (f ≡ c) × (d ≡ e)
IsStatedBelow (EquivalentClasses ds) f e = Contains ds f × Contains ds e
IsStatedBelow axiom' f e = ⊥

among_cases : (e d : ℕ) (ds : List ℕ) (f : ℕ) → (Contains (others e ds) f → Contains ds f) → (b : Bool) → Contains (if not b then d ∷ others e ds else others e ds) f → Contains (d ∷ ds) f
among_cases e d ds f before true there = Contains-later d f ds (before there)
among_cases e d ds f before false there = ⊎_elim
    (λ same. subst (Contains (d ∷ ds)) same (Contains-first d ds))
    (λ later. Contains-later d f ds (before later))
    (Contains-cons_cases d f (others e ds) there)

among_others : (e : ℕ) (ds : List ℕ) (f : ℕ) → Contains (others e ds) f → Contains ds f
among_others e [] f there = absurd (Contains-none f there)
among_others e (d ∷ ds) f there = among_cases e d ds f (among_others e ds f) (d == e) there

pub stated_below : (a : Axiom) (e f : ℕ) → Contains (conditions_in e a) f → IsStatedBelow a f e
stated_below (SubClass c d) e f there = go (d == e) refl there
  where
    go : (b : Bool) → (d == e) ≡ b → Contains (if b then others e (c ∷ []) else []) f → IsStatedBelow (SubClass c d) f e
    go true same there = (sym (Contains-one c f (among_others e (c ∷ []) f there)), eqb-true d e same)
    go false other there = absurd (Contains-none f there)
stated_below (EquivalentClasses ds) e f there = go (list_any (λ d. d == e) ds) refl there
  where
    go : (b : Bool) → list_any (λ d. d == e) ds ≡ b → Contains (if b then others e ds else []) f → IsStatedBelow (EquivalentClasses ds) f e
    go true some there = (among_others e ds f there, (listed_is ds e).0 some)
    go false none there = absurd (Contains-none f there)
stated_below _ e f there = absurd (Contains-none f there)

-- ---- conditions that axioms state

module _ (e : ℕ) (P : ℕ × ℕ → Type 0) where
  of_axioms : (n : ℕ) (axioms : List Axiom) → ((a : Axiom) → Contains axioms a → (number f : ℕ) → IsStatedBelow a f e → P (number, f))
      → All P (flat_map (numbered_conditions e) (enumerate_from n axioms))
  of_axioms n [] each = All-nil P
  of_axioms n (a ∷ axioms) each =
      All-append P (numbered_conditions e (n, a)) (flat_map (numbered_conditions e) (enumerate_from (n + 1) axioms))
      (All-map P (λ f. (n, f)) (conditions_in e a)
      (λ k d l. each a (Contains-first a axioms) n (get_or (conditions_in e a) k d) (stated_below a e (get_or (conditions_in e a) k d) (Contains-get_or (conditions_in e a) k d l))))
      (of_axioms (n + 1) axioms (λ b there number f stated. each b (Contains-later a b axioms there) number f stated))

-- what holds of each expression that an axiom states to lie below the one of number e, holds of each condition
pub each_condition : (o : Ontology) (e : ℕ) (P : ℕ × ℕ → Type 0) → ((a : Axiom) → Contains o.axioms a → (number f : ℕ) → IsStatedBelow a f e → P (number, f)) → All P (conditions_of o e)
each_condition o e P each = of_axioms e P 1 o.axioms each

-- ---- where conditions and their parts are

module _ (o : Ontology) (questions : List ℕ) where
  at_left : (a : Axiom) (f e : ℕ) → IsStatedBelow a f e → AtLeft a f
  at_left (SubClass c d) f e stated = stated.0
  at_left (EquivalentClasses ds) f e stated = stated.0
  at_left _ f e stated = absurd stated

  parts_left : (f : ℕ) (node : Option Node) → slice_get o.nodes f ≡ node → OccursLeft o questions f → All (OccursLeft o questions) (parts_by node f)
  parts_left f (Some (And ds)) at occurs = λ k d l. OccursLeft.by_part f (And ds) occurs at (Contains-get_or ds k d l)
  parts_left f _ at occurs = All-cons (OccursLeft o questions) f [] occurs (All-nil (OccursLeft o questions))

  -- the parts of conditions occur on left sides
  pub parts_occur : (e : ℕ) → All (λ (q : ℕ × ℕ). All (OccursLeft o questions) (parts_of o q.1)) (conditions_of o e)
  parts_occur e = each_condition o e (λ (q : ℕ × ℕ). All (OccursLeft o questions) (parts_of o q.1))
      (λ a there number f stated. parts_left f (slice_get o.nodes f) refl (OccursLeft.by_axiom a there (at_left a f e stated)))

module _ (o : Ontology) (w : IsOntology o) where
  within : (a : Axiom) → IsAxiomOf o a → (f e : ℕ) → IsStatedBelow a f e → f < length o.nodes
  within (SubClass c d) ok f e stated = subst (λ (n : ℕ). n < length o.nodes) (sym stated.0) ok.0
  within (EquivalentClasses ds) ok f e stated = All-contains (λ d. d < length o.nodes) ds f ok.within stated.0
  within _ ok f e stated = absurd stated

  parts_there : (f : ℕ) (node : Option Node) → slice_get o.nodes f ≡ node → f < length o.nodes → All (λ d. d < length o.nodes) (parts_by node f)
  parts_there f (Some (And ds)) at low = λ k d l. (let less : get_or ds k d < f = (w.nodes f (And ds) at).within k d l in omega (arith, less, low))
  parts_there f _ at low = All-cons (λ d. d < length o.nodes) f [] low (All-nil (λ d. d < length o.nodes))

  -- the parts of conditions are there
  pub parts_within : (e : ℕ) → All (λ (q : ℕ × ℕ). All (λ d. d < length o.nodes) (parts_of o q.1)) (conditions_of o e)
  parts_within e = each_condition o e (λ (q : ℕ × ℕ). All (λ d. d < length o.nodes) (parts_of o q.1))
      (λ a there number f stated. parts_there f (slice_get o.nodes f) refl (within a (All-contains (IsAxiomOf o) o.axioms a w.axioms there) f e stated))

  -- ---- what they give

  -- what the axioms say of extensions
  below_by : (i : Interpretation) (a : Axiom) → Satisfies i (axiom_tree o a) → (f e : ℕ) → IsStatedBelow a f e → IsWithin i (expression o f) (expression o e)
  below_by i (SubClass c d) holds f e (same_f, same_e) = λ x low is.
      subst (λ (k : ℕ). IsIn i (expression o k) x) same_e (holds x low (subst (λ (k : ℕ). IsIn i (expression o k) x) same_f is))
  below_by i (EquivalentClasses ds) holds f e (there_f, there_e) =
      (of_elements (λ a b. IsSame i (expression o a) (expression o b)) (λ a. (λ x l m. m, λ x l m. m)) (λ a b s. (s.1, s.0)) ds
      (AllPairs-from_map (IsSame i) (expression o) ds holds) f e there_f there_e).0
  below_by i _ holds f e stated = absurd stated

  holds_at : (i : Interpretation) → IsModel i (axiom_trees o) → (a : Axiom) → Contains o.axioms a → Satisfies i (axiom_tree o a)
  holds_at i m a there = All-contains (λ b. Satisfies i (axiom_tree o b)) o.axioms a (All-from_map (Satisfies i) (axiom_tree o) o.axioms m.satisfied) there

  condition_below : (e : ℕ) (i : Interpretation) → IsModel i (axiom_trees o) → All (λ (q : ℕ × ℕ). IsWithin i (expression o q.1) (expression o e)) (conditions_of o e)
  condition_below e i m = each_condition o e (λ (q : ℕ × ℕ). IsWithin i (expression o q.1) (expression o e))
      (λ a there number f stated. below_by i a (holds_at i m a there) f e stated)

  -- an element of each part is one of the whole
  in_whole : (i : Interpretation) (x f : ℕ) (node : Option Node) → slice_get o.nodes f ≡ node → All (λ d. IsIn i (expression o d) x) (parts_by node f) → IsIn i (expression o f) x
  in_whole i x f (Some (And ds)) at each =
      subst (λ (t : ClassExpression). IsIn i t x) (sym (and_tree o w f ds at))
      (in_intersection i x (expressions o ds) (omega (arith, (w.nodes f (And ds) at).many, length-map ds (expression o))) (All-map (λ t. IsIn i t x) (expression o) ds each))
  in_whole i x f _ at each = All-head (λ d. IsIn i (expression o d) x) f [] each

  pub condition_gives : (a : Asked) (class : Iri) (e : ℕ) → IsClassNamed o class e → (number f : ℕ) → Contains (conditions_of o e) (number, f)
      → All (IsInExpression o a) (parts_of o f) → FollowsFor o a class
  condition_gives (asked.Class c) class e named number f there each = λ i m x low is.
      subst (λ (t : ClassExpression). IsIn i t x) (named_tree o class e named)
      (All-contains (λ (q : ℕ × ℕ). IsWithin i (expression o q.1) (expression o e)) (conditions_of o e) (number, f) (condition_below e i m) there x low
      (in_whole i x f (slice_get o.nodes f) refl (λ k d l. each k d l i m x low is)))
  condition_gives (asked.Individual b) class e named number f there each = λ i m.
      let x = i.individual b.now in
      subst (λ (t : ClassExpression). IsIn i t x) (named_tree o class e named)
      (All-contains (λ (q : ℕ × ℕ). IsWithin i (expression o q.1) (expression o e)) (conditions_of o e) (number, f) (condition_below e i m) there x (m.interpretation.individuals b.now)
      (in_whole i x f (slice_get o.nodes f) refl (λ k d l. each k d l i m)))

-- ---- conditions that were found

-- what holds of the parts of all conditions that axioms state holds of the parts of those that were found
pub each_part : (o : Ontology) (e : ℕ) (P : ℕ → Type 0) (found : List Condition) → map numbers_of found ≡ map (λ (number, f). (number, parts_of o f)) (conditions_of o e)
    → All (λ (q : ℕ × ℕ). All P (parts_of o q.1)) (conditions_of o e) → All (λ condition. All (λ part. P part.expression.0) condition.parts.items) found
each_part o e P found stated each =
    let Whole : ℕ × List ℕ → Type 0 = λ q. All P q.1 in
    let all : All Whole (map numbers_of found) = subst (All Whole) (sym stated) (All-map Whole (λ (number, f). (number, parts_of o f)) (conditions_of o e) each) in
    All-weaker (λ condition. Whole (numbers_of condition)) (λ condition. All (λ part. P part.expression.0) condition.parts.items)
    (λ condition h. All-from_map P (λ (part : Part). part.expression.0) condition.parts.items h) found (All-from_map Whole numbers_of found all)

-- the parts that were found are there
pub found_within : (o : Ontology) → IsOntology o → (e : ℕ) (Has : ℕ → Type 0) (found : List Condition) → AreConditions o e Has found
    → All (λ condition. All (λ part. part.expression.0 < length o.nodes) condition.parts.items) found
found_within o w e Has found are = each_part o e (λ d. d < length o.nodes) found are.stated (parts_within o w e)
