-- The classes of an individual, and the nearest of them, by marks.
use Rattle.std.proofs.Common.{◌↔◌, ℕ, ◌<◌, Bool, List, Contains, sym, ◌∙◌, subst}
use Rattle.std.proofs.lemmas.Bool.{false≢true}
use Rattle.axioms.specs.Expression.{Iri}
use Rattle.axioms.specs.Ontology.{Ontology, axiom_trees, name_at}
use Rattle.interpretation_spec.specs.Interpretation.{IsContradictory}
use Rattle.number_sets.proofs.Members.{has_within}
use Rattle.program.specs.declared.question.Side.TheVariants.{Above}
use Rattle.answers.specs.Entailment.{BelongsTo, LiesBelow}
use Rattle.answers.specs.Names.{HasMark, IsMarked}
use Rattle.answers.specs.Neighbours.{AreGroups, AreMarksOf, AreOneGroup, AreSatisfiable, IsDirectType, IsNearest}
use Rattle.answers.proofs.Naming.{mark_tells}
use Rattle.answers.proofs.Neighbouring.{groups_same}

module _ (o : Ontology) (individual : Iri) (marks : List Bool) (are : AreMarksOf o.names.classes (BelongsTo o individual) marks) where
  abbrev classes : List Iri
  classes = o.names.classes

  marked : (name : Iri) → Contains classes name → HasMark classes marks name ↔ BelongsTo o individual name
  marked name known = mark_tells classes marks (BelongsTo o individual) are.exact name known

  belongs_at : (n : ℕ) → IsMarked marks n → BelongsTo o individual (name_at classes n)
  belongs_at n mark = (are.exact n (subst (λ (k : ℕ). n < k) are.long (has_within marks n mark))).0 mark

  -- where there is an interpretation
  pub types_satisfiable : (IsContradictory (axiom_trees o) → ⊥) → AreSatisfiable o marks
  types_satisfiable some = record {
    satisfiable = λ n mark empty. some (λ i m.
        let low = m.interpretation.individuals individual in
        false≢true (sym (m.interpretation.nothing (i.individual individual) low) ∙ empty i m (i.individual individual) low (belongs_at n mark i m)));
    closed = λ n m mark low same. (are.exact m low).1 (λ i k. same.0 i k (i.individual individual) (k.interpretation.individuals individual) (belongs_at n mark i k));
  }

  pub direct_types_are : (groups : List (List Iri)) → AreGroups o (IsNearest o (HasMark classes marks) Above) groups → AreGroups o (IsDirectType o individual) groups
  direct_types_are groups are_groups = groups_same o (IsNearest o (HasMark classes marks) Above) (IsDirectType o individual)
      (λ name known. (
        λ nearest. record {
          belongs = (marked name known).0 nearest.has;
          next = λ e there belongs down. nearest.next e there ((marked e there).1 belongs) down;
        },
        λ direct. record {
          has = (marked name known).1 direct.belongs;
          next = λ e there mark down. direct.next e there ((marked e there).0 mark) down;
        },
      ))
      groups are_groups

  -- where there is none
  module _ (none : IsContradictory (axiom_trees o)) where
    all_below : (c d : Iri) → LiesBelow o c d
    all_below c d = λ i m. absurd (none i m)

    pub one_group_of_types : AreOneGroup o marks
    one_group_of_types n m mark low = (
      λ other. (all_below (name_at classes n) (name_at classes m), all_below (name_at classes m) (name_at classes n)),
      λ same. (are.exact m low).1 (λ i k. absurd (none i k)),
    )

    pub lone_types_are : (groups : List (List Iri)) → AreGroups o (HasMark classes marks) groups → AreGroups o (IsDirectType o individual) groups
    lone_types_are groups are_groups = groups_same o (HasMark classes marks) (IsDirectType o individual)
        (λ name known. (
          λ mark. record { belongs = (marked name known).0 mark; next = λ e there belongs down. down.1 (all_below name e) },
          λ direct. (marked name known).1 direct.belongs,
        ))
        groups are_groups
