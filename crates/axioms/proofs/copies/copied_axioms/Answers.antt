use Rattle.axioms.specs.View.{axiom_of}
use Rattle.axioms.proofs.Clones.{same_views}
use Rattle.axioms.proofs.copies.copied_axioms.Goals as goal

pub returns : goal.returns
returns c = same_views axiom_of c.args.axioms.now.items c.in_ok-clone.field-0.items c.in_ok-clone.ensures.cases.0
