use Rattle.axioms.proofs.Keeping.{copy_kept, same_ontology}
use Rattle.axioms.proofs.ontology.Ontology.copy.Goals as goal

pub invariant_of-result : goal.invariant_of-result
invariant_of-result c =
    let n = c.in_ok-names.ensures in
    let t = c.in_ok-terms.ensures in
    copy_kept c.self.inside _ c.self.invariant
    (same_ontology _ _ n.classes n.properties n.individuals t.expressions t.axioms)
    t.places
