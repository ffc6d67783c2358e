use Rattle.normalise.proofs.AddingLists.{individuals_add}
use Rattle.normalise.proofs.made.Made.add_different.Goals as goal

pub returns : goal.returns
returns c = individuals_add c.args.self.now c.args.number c.args.individuals.now c.requires c.in_ok-push_individuals.ensures.numbered _ c.in_ok-push_individuals.ensures.ok
