use Rattle.std.proofs.Common.{subst}
use Rattle.normalise.specs.Roots.{AddsThose, IsNamedFrom}
use Rattle.normalise.proofs.AddingRoots.{are_roots}
use Rattle.normalise.proofs.starting.roots.Goals as goal

pub returns : goal.returns
returns c =
    are_roots c.args.ontology.now c.well_formed-2.ensures c.args.asked.now _ _ _ c.requires
    (subst (λ old. AddsThose (IsNamedFrom c.args.ontology.now 0) old c.push_classes.new.roots.items) c.new-roots.ensures.items c.in_ok-push_classes.ensures)
    c.in_ok-push_individuals.ensures c.in_ok-push_asked.ensures
