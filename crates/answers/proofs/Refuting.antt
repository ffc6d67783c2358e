-- The part that is made refutes what is asked.
use Rattle.std.proofs.Common.{◌≡◌, ◌↔◌, ℕ, ◌<◌, List, [], length, slice_get, Some, Option, unwrap_or, refl, sym, ap, ◌∙◌, subst}
use Rattle.std.proofs.lemmas.Option.{slice_get_within}
use Rattle.axioms.specs.Expression.{Iri, ClassExpression, Named}
use Rattle.axioms.specs.Ontology.{Ontology, Class, expression, individual_name, axiom_trees}
use Rattle.axioms.specs.WellFormedness.{IsOntology}
use Rattle.axioms.proofs.Trees.{class_tree}
use Rattle.closure.specs.Closure.{Context, Expression, IsRoot}
use Rattle.closure.specs.Closure as closure
use Rattle.closure.specs.Groups.{least_same}
use Rattle.closure.proofs.Groups.{same_as_least}
use Rattle.exactness.specs.ListedInterpretation.{IsListedInterpretation}
use Rattle.generated_part.specs.GeneratedPart.{IsGenerated}
use Rattle.generated_part.proofs.Keeping.{same, model_kept, one_place}
use Rattle.interpretation_spec.specs.NamedInterpretation.{interpretation_of}
use Rattle.interpretation_spec.specs.Interpretation.{Interpretation, IsInterpretation, IsIn, IsModel}
use Rattle.interpretation_spec.specs.NumberedInterpretation.{NumberedInterpretation, IsNumberedInterpretation}
use Rattle.interpretation_spec.proofs.Names.{stands_well, size_of}
use Rattle.normal_forms.specs.Forms.{Whole}
use Rattle.answers.specs.Explanations.{IsAbout, IsClassNamed, IsOf, Refutes}
use Rattle.countermodel.specs.Elements.{leader}
use Rattle.answers.specs.Findings.{IsPartFor, IsRefutable}
use Rattle.program.specs.declared.question.Asked.{Asked}
use Rattle.program.specs.declared.question.Asked.TheVariants as asked
use Rattle.answers.proofs.Deriving.{named_tree}
use Rattle.classification.proofs.Leading.{fact_of_leader}

module _ (o : Ontology) (questions : List ℕ) (w : IsOntology o) (x : Context) (p : NumberedInterpretation) (new : ℕ) (valid : IsNumberedInterpretation p) (part : IsPartFor o questions x p new) where
  i : Interpretation
  i = interpretation_of o.names p

  v : IsInterpretation i
  unfolding i
  v = stands_well o w p valid

  g : IsGenerated o part.whole part.from i new
  unfolding i
  g = part.generated

  model : IsModel i (axiom_trees o)
  model = model_kept o w part.whole i part.from new g v part.model

  holds : (e : ℕ) → e < length o.nodes → IsIn i (expression o e) new ↔ IsIn part.whole (expression o e) part.from
  holds e l = same o w part.whole i part.from new part.model.interpretation g e l new part.from g.from_at

  within : new < i.size
  within = subst (λ (n : ℕ). new < n) (sym g.size) (slice_get_within g.elements new part.from g.from_at)

  inside : (a : Asked) → (y : Context) → x ≡ y → IsAbout o a y → IsOf i a new
  inside (asked.Class c) (Expression e) same_x about =
      let low = slice_get_within o.nodes e (Class about.0) about.1 in
      let own : slice_get part.elements part.from ≡ Some (Expression e) = part.own ∙ ap (λ z. Some (leader o z)) same_x in
      subst (λ (t : ClassExpression). IsIn i t new) (named_tree o c.now e about)
      ((holds e low).1 (part.agrees.claimed e part.from (IsRoot.named about.0 e about.1) own))
  inside (asked.Class c) (closure.Individual n) same_x about = absurd about
  inside (asked.Individual a) (Expression e) same_x about = absurd about
  inside (asked.Individual a) (closure.Individual n) same_x about =
      let low = slice_get_within o.names.individuals n a.now about in
      let own : slice_get part.elements part.from ≡ Some (closure.Individual (least_same o n)) = part.own ∙ ap (λ z. Some (leader o z)) same_x in
      let there = g.individuals n low ∙ ap Some (part.listed.individuals n (least_same o n) part.from low (same_as_least o questions n) own) in
      let name : individual_name o n ≡ a.now = ap (λ (k : Option Iri). unwrap_or k []) about in
      ap i.individual (sym name) ∙ one_place g.elements g.ascend (i.individual (individual_name o n)) new part.from there g.from_at

  outside : (name : Iri) (f : ℕ) → IsClassNamed o name f → IsRefutable o questions x f → IsIn i (Named name) new → ⊥
  outside name f (c, at, named) refutable h =
      let low = slice_get_within o.nodes f (Class c) at in
      let tree = named_tree o name f (c, at, named) in
      let whole = (holds f low).0 (subst (λ (t : ClassExpression). IsIn i t new) (sym tree) h) in
      refutable.1 (fact_of_leader o questions x (Whole f)
      ((part.agrees.named c f part.from (leader o x) at part.own).0 (subst (λ (t : ClassExpression). IsIn part.whole t part.from) (class_tree o c f at) whole)))

  pub refutes : questions ≡ [] → (a : Asked) → IsAbout o a x → (name : Iri) (f : ℕ) → IsClassNamed o name f → IsRefutable o questions x f → Refutes o a name p new
  unfolding i
  refutes unasked a about name f named refutable = record {
    made = part.made;
    model = model;
    within = subst (λ (n : ℕ). new < n) size_same within;
    inside = inside a x refl about;
    outside = outside name f named refutable;
    elements = part.elements;
    whole = part.whole;
    listed = subst (λ (es : List ℕ). IsListedInterpretation o es part.elements part.whole) unasked part.listed;
    subject = x;
    about = about;
    from = part.from;
    own = part.own;
    generated = part.generated;
  }
    where
      size_same : (interpretation_of o.names p).size ≡ p.size
      size_same = size_of o.names p
