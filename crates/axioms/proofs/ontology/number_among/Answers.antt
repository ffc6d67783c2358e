use Rattle.axioms.proofs.Insertions.{number_of_text}
use Rattle.axioms.proofs.ontology.number_among.Goals as goal

pub returns : goal.returns
returns c = number_of_text c.args.iri.now c.args.names.now.keys c.find.result c.find.ensures.found c.find.ensures.absent
