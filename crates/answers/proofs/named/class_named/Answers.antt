use Rattle.answers.proofs.Lent.{whole_ontology}
use Rattle.answers.proofs.NamedThings.{class_found}
use Rattle.answers.proofs.named.class_named.Goals as goal

pub returns : goal.returns
returns c =
    let w = whole_ontology c.closed.ensures c.well_formed-2.ensures.ontology in
    class_found c.args.indexed.now.ontology w c.args.name.now c.in_ok-number.number c.class_numbered.result c.in_ok-number.ensures c.class_numbered.ensures.found
