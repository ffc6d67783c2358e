use Rattle.std.proofs.Common.{refl}
use Rattle.classification.proofs.Shown.{told_texts, made_for}
use Rattle.classification.proofs.classification.relation_texts.Goals as goal

pub taxonomy_bytes-requires : goal.taxonomy_bytes-requires
taxonomy_bytes-requires c = rw (c.ontology-ontology.ensures) (made_for c.args.closed.now.ontology c.args.consistent c.in_ok-outcome.outcome c.in_ok-outcome.ensures)

pub returns : goal.returns
returns c =
    told_texts c.args.closed.now.ontology c.args.consistent c.in_ok-outcome.outcome c.in_ok-outcome.ensures c.args.consistent _ _ refl
    (rw c.ontology-ontology.ensures at c.in_ok-taxonomy.ensures) (rw c.ontology-ontology.ensures at c.in_ok-instances.ensures)
