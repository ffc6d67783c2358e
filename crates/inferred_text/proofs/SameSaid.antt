-- The axioms that were found say the same as those of the ontology.
use Rattle.std.proofs.Common.{ℕ, Bool, [], ◌∷◌, ◌++◌, sym, ◌∙◌}
use Rattle.std.proofs.lemmas.Bool.{false≢true}
use Rattle.std.proofs.lemmas.List.Elements.{All-head}
use Rattle.axioms.specs.Ontology.{Names, Ontology, axiom_trees}
use Rattle.axioms.specs.WellFormedness.{IsOntology}
use Rattle.interpretation_spec.specs.Interpretation.{Interpretation, IsContradictory, IsModel}
use Rattle.taxonomy.specs.Following.{AreWhatFollows}
use Rattle.taxonomy.specs.Relation.{is_listed, lies_below}
use Rattle.taxonomy.specs.declared.outcome.Outcome.{Outcome}
use Rattle.taxonomy.specs.declared.outcome.Outcome.TheVariants.{Consistent, Inconsistent}
use Rattle.inferred_text.specs.Inferred.{contradiction, declarations}
use Rattle.inferred_text.specs.Theorems.{FoundAxiomsSayTheSame, SayTheSame, found_axioms}
use Rattle.inferred_text.proofs.Belonging.{belonging}
use Rattle.inferred_text.proofs.Following.{closed, told_in_model}
use Rattle.inferred_text.proofs.Holding.{Holds, all_back, holding}
use Rattle.inferred_text.proofs.Reached.{reached}
use Rattle.inferred_text.proofs.Told.{IsTold, told_exactly}

-- ---- the axioms have a model

module _ (o : Ontology) (w : IsOntology o) (outcome : Outcome) (r belongs : ℕ → ℕ → Bool) (follows : AreWhatFollows o r belongs)
    (told : (i : Interpretation) → IsModel i (found_axioms o.names outcome) → IsTold i o.names r belongs)
    (telling : (i : Interpretation) → IsModel i (axiom_trees o) → IsModel i (found_axioms o.names outcome)) where
  consistent_same : SayTheSame o.names (axiom_trees o) (found_axioms o.names outcome)
  consistent_same = record {
    models = telling;
    below = λ c d lc ld. (
      λ h i m. reached o.names r belongs (closed o w r belongs follows) i m.interpretation (told i m) c d lc ld ((follows.below c d lc ld).1 h),
      λ h i m. h i (telling i m),
    );
    members = λ a c la lc. (
      λ h i m. belonging o.names r belongs (closed o w r belongs follows) i m.interpretation (told i m) a la c lc ((follows.members a c la lc).1 h),
      λ h i m. h i (telling i m),
    );
    contradictory = (λ none. absurd (follows.consistent none), λ none i m. none i (telling i m));
  }

-- ---- they have none

-- everything is nothing in no interpretation
never : (names : Names) → IsContradictory (found_axioms names Inconsistent)
never names i m =
    let ss = (holding i (declarations names ++ contradiction ∷ [])).0 m.satisfied in
    let everything = All-head (Holds i) contradiction [] (all_back (Holds i) (declarations names) (contradiction ∷ []) ss) in
    let is = m.interpretation in
    false≢true (sym (is.nothing 0 is.inhabited) ∙ everything 0 is.inhabited (is.thing 0 is.inhabited))

inconsistent_same : (o : Ontology) → IsContradictory (axiom_trees o) → SayTheSame o.names (axiom_trees o) (found_axioms o.names Inconsistent)
inconsistent_same o none = record {
  models = λ i m. absurd (none i m);
  below = λ c d lc ld. (λ h i m. absurd (never o.names i m), λ h i m. absurd (none i m));
  members = λ a c la lc. (λ h i m. absurd (never o.names i m), λ h i m. absurd (none i m));
  contradictory = (λ h. never o.names, λ h. none);
}

-- ---- the theorem

pub found_say_the_same : FoundAxiomsSayTheSame
found_say_the_same o (Consistent taxonomy types) w made follows =
    consistent_same o w (Consistent taxonomy types) (lies_below taxonomy) (is_listed types) follows
    (λ i m. (told_exactly i o.names (lies_below taxonomy) (is_listed types)).0 m.satisfied)
    (λ i m. record {
      interpretation = m.interpretation;
      satisfied = (told_exactly i o.names (lies_below taxonomy) (is_listed types)).1 (told_in_model o w (lies_below taxonomy) (is_listed types) follows i m);
    })
found_say_the_same o Inconsistent w made follows = inconsistent_same o follows
