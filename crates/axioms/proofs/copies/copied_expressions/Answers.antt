use Rattle.axioms.specs.View.{node_of}
use Rattle.axioms.proofs.Clones.{same_views}
use Rattle.axioms.proofs.copies.copied_expressions.Goals as goal

pub returns : goal.returns
returns c = same_views node_of c.args.expressions.now.keys c.in_ok-copy.field-0.keys c.in_ok-copy.ensures
