use Rattle.std.proofs.Common.{◌∙◌}
use Rattle.axioms.proofs.Insertions.{any_text}
use Rattle.axioms.proofs.ontology.is_named.Goals as goal

pub returns : goal.returns
returns c = c.contains.ensures ∙ any_text c.args.iri.now c.args.names.now.keys
