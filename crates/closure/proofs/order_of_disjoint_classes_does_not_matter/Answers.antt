use Rattle.closure.proofs.Disjoint.{either_order}
use Rattle.closure.proofs.order_of_disjoint_classes_does_not_matter.Goals as goal

pub returns : goal.returns
returns c = either_order
