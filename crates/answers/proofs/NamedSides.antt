-- Marks on the classes above and below a class, by its name.
use Rattle.std.proofs.Common.{◌≡◌, ◌↔◌, ℕ, Bool, ◌&&◌, not, List, length, sym, subst}
use Rattle.axioms.specs.Expression.{ClassExpression, Iri, Named, owl_nothing}
use Rattle.axioms.specs.Ontology.{Ontology, axiom_trees, expression, nothing}
use Rattle.axioms.specs.WellFormedness.{IsOntology}
use Rattle.axioms.specs.declared.ids.ExprId.{ExprId}
use Rattle.interpretation_spec.specs.Interpretation.{IsBelow}
use Rattle.number_sets.specs.Members.{has}
use Rattle.answers.specs.Entailment.{LiesBelow}
use Rattle.answers.specs.Explanations.{IsClassNamed}
use Rattle.answers.specs.Neighbours.{AreMarksAmong, AreMarksOf, AreSame, IsNearer}
use Rattle.answers.specs.Selections.{FollowsFor}
use Rattle.program.specs.declared.question.Side.TheVariants as sides
use Rattle.answers.specs.declared.selection.Selection.TheVariants.{Above, Below}
use Rattle.answers.proofs.Deriving.{named_tree}
use Rattle.answers.proofs.Neighbouring.{among_same, marks_apart, marks_both, marks_same}

module _ (o : Ontology) (class : Iri) (e : ExprId) (named : IsClassNamed o class e.0) where
  here : expression o e.0 ≡ Named class
  here = named_tree o class e.0 named

  pub above_is : (name : Iri) → FollowsFor o (Above e) name ↔ LiesBelow o class name
  above_is name = (
    λ k. subst (λ (t : ClassExpression). IsBelow (axiom_trees o) t (Named name)) here k,
    λ k. subst (λ (t : ClassExpression). IsBelow (axiom_trees o) t (Named name)) (sym here) k,
  )

  pub below_is : (name : Iri) → FollowsFor o (Below e) name ↔ LiesBelow o name class
  below_is name = (
    λ k. subst (λ (t : ClassExpression). IsBelow (axiom_trees o) (Named name) t) here k,
    λ k. subst (λ (t : ClassExpression). IsBelow (axiom_trees o) (Named name) t) (sym here) k,
  )

  abbrev over : Iri → Type 0
  over = LiesBelow o class

  abbrev under : Iri → Type 0
  under = λ name. LiesBelow o name class

  module _ (marks others left : List Bool) (long : length left ≡ length marks) where
    -- of the classes above it those that are not below it, and those that are
    module _ (are : AreMarksOf o.names.classes (FollowsFor o (Above e)) marks) (others_are : AreMarksAmong marks o.names.classes (FollowsFor o (Below e)) others) where
      above_are : AreMarksOf o.names.classes over marks
      above_are = marks_same o.names.classes (FollowsFor o (Above e)) over above_is marks are

      below_are : AreMarksAmong marks o.names.classes under others
      below_are = among_same o.names.classes (FollowsFor o (Below e)) under below_is marks others others_are

      pub strictly_above : ((n : ℕ) → has left n ≡ (has marks n && not (has others n))) → AreMarksOf o.names.classes (IsNearer o sides.Above class) left
      strictly_above each = marks_apart o.names.classes over under marks others left above_are below_are long each

      pub same_classes : ((n : ℕ) → has left n ≡ (has marks n && has others n)) → AreMarksOf o.names.classes (AreSame o class) left
      same_classes each = marks_both o.names.classes over under marks others left above_are below_are long each

    pub strictly_below : AreMarksOf o.names.classes (FollowsFor o (Below e)) marks → AreMarksAmong marks o.names.classes (FollowsFor o (Above e)) others
        → ((n : ℕ) → has left n ≡ (has marks n && not (has others n))) → AreMarksOf o.names.classes (IsNearer o sides.Below class) left
    strictly_below are others_are each = marks_apart o.names.classes under over marks others left
        (marks_same o.names.classes (FollowsFor o (Below e)) under below_is marks are) (among_same o.names.classes (FollowsFor o (Above e)) over above_is marks others others_are) long each

-- ---- below owl:Nothing

abbrev pub nothing_id : ExprId
nothing_id = record { 0 = nothing }

pub below_nothing_is : (o : Ontology) → IsOntology o → (name : Iri) → FollowsFor o (Below nothing_id) name ↔ LiesBelow o name owl_nothing
below_nothing_is o w = below_is o owl_nothing nothing_id (1, w.nothing_node, w.nothing_name)
