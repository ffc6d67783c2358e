use Rattle.std.proofs.Common.{sym, arith}
use Rattle.axioms.proofs.Counted.{at_number-inside}
use Rattle.axioms.specs.View.{axiom_of}
use Rattle.axioms.proofs.ontology.Ontology.axiom.Goals as goal

pub returns : goal.returns
returns c =
    let e = at_number-inside axiom_of c.self.inside.axioms.items c.args.number c.index.result.now (omega arith) (omega arith) c.index.ensures in
    rw (← c.self.view_is) (sym e)
