-- The classes without elements, by marks.
use Rattle.std.proofs.Common.{◌≡◌, ℕ, ◌<◌, Bool, ◌&&◌, not, List, length, subst}
use Rattle.axioms.specs.Expression.{Iri, owl_nothing}
use Rattle.axioms.specs.Ontology.{Ontology}
use Rattle.axioms.specs.WellFormedness.{IsOntology}
use Rattle.number_sets.proofs.Members.{has_within}
use Rattle.number_sets.specs.Members.{has}
use Rattle.answers.specs.Entailment.{IsUnsatisfiable, LiesBelow}
use Rattle.answers.specs.Neighbours.{AreMarksAmong, AreMarksOf}
use Rattle.answers.specs.Selections.{FollowsFor}
use Rattle.answers.specs.declared.selection.Selection.TheVariants.{Below}
use Rattle.answers.proofs.NamedSides.{below_nothing_is, nothing_id}
use Rattle.answers.proofs.Neighbouring.{marks_apart, marks_same}

-- marks on names that have a property are so among others
among : (names : List Iri) (P : Iri → Type 0) (marks others : List Bool) → length marks ≡ length names → AreMarksOf names P others → AreMarksAmong marks names P others
among names P marks others long are = record { long = are.long; exact = λ n there. are.exact n (subst (λ (k : ℕ). n < k) long (has_within marks n there)) }

-- of the classes below owl:Nothing the others
pub unsatisfiable_are : (o : Ontology) → IsOntology o → (empty nothing left : List Bool) → AreMarksOf o.names.classes (FollowsFor o (Below nothing_id)) empty
    → AreMarksOf o.names.classes (λ name. name ≡ owl_nothing) nothing → length left ≡ length empty → ((n : ℕ) → has left n ≡ (has empty n && not (has nothing n)))
    → AreMarksOf o.names.classes (IsUnsatisfiable o) left
unsatisfiable_are o w empty nothing left are nothing_are long each =
    let classes = o.names.classes in
    let under : Iri → Type 0 = λ name. LiesBelow o name owl_nothing in
    let is : Iri → Type 0 = λ name. name ≡ owl_nothing in
    marks_apart classes under is empty nothing left
    (marks_same classes (FollowsFor o (Below nothing_id)) under (below_nothing_is o w) empty are)
    (among classes is empty nothing are.long nothing_are) long each
