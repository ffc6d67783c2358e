use Rattle.std.proofs.Common.{◌≡◌, sym, Some, slice_get}
use Rattle.axioms.specs.Ontology.{Class}
use Rattle.axioms.proofs.ontology.Ontology.class_of.Goals as goal

pub returns-in-Some-Class : goal.returns-in-Some-Class
returns-in-Some-Class c =
    let node = rw c.in-Some-Class.field-0-is at c.in-Some-Class.ensures.node in
    let there : slice_get c.args.self.now.nodes c.args.id.0 ≡ Some (Class c.in-Some-Class.class.0) = sym node in
    (there, c.expr.ensures.valid.nodes c.args.id.0 (Class c.in-Some-Class.class.0) there)
