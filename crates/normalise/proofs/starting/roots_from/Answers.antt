use Rattle.std.proofs.Common.{subst}
use Rattle.normalise.specs.Roots.{AddsThose, AreRootsFrom, IsIndividualFrom, IsNamedFrom}
use Rattle.normalise.proofs.AddingRoots.{both, roots_again}
use Rattle.normalise.proofs.starting.roots_from.Goals as goal

those : (c : goal.In_ok-push_individuals) → AreRootsFrom c.args.ontology.now c.args.classes c.args.individuals c.push_individuals.new.roots.items
those c =
    both (IsNamedFrom c.args.ontology.now c.args.classes) (IsIndividualFrom c.args.ontology.now c.args.individuals) c.push_classes.new.roots.items _
    (subst (λ old. AddsThose (IsNamedFrom c.args.ontology.now c.args.classes) old c.push_classes.new.roots.items) c.new-roots.ensures.items c.in_ok-push_classes.ensures)
    c.in_ok-push_individuals.ensures

pub returns-clause-those : goal.returns-clause-those
returns-clause-those c = those c

pub returns-clause-again : goal.returns-clause-again
returns-clause-again c = roots_again c.args.ontology.now c.well_formed-2.ensures c.args.classes c.args.individuals _ (those c)
