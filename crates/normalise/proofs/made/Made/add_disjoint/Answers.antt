use Rattle.normalise.proofs.AddingLists.{classes_add}
use Rattle.normalise.proofs.made.Made.add_disjoint.Goals as goal

pub returns : goal.returns
returns c = classes_add c.args.self.now c.args.number c.args.classes.now c.requires c.in_ok-push_classes.ensures.numbered _ c.in_ok-push_classes.ensures.ok
