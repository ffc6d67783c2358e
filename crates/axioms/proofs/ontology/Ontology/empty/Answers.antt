use Rattle.axioms.proofs.Keeping.{empty_kept}
use Rattle.axioms.proofs.ontology.Ontology.empty.Goals as goal

pub invariant_of-result : goal.invariant_of-result
invariant_of-result c =
    empty_kept _ c.in_ok-classes.ensures c.new.ensures c.new-2.ensures c.in_ok-expressions.ensures c.new-3.ensures.items c.in_ok-class_expressions.ensures.items
