use Rattle.classification.proofs.Taxonomy.{is_preorder}
use Rattle.classification.proofs.relation.taxonomy_of.Goals as goal

pub reduce-requires : goal.reduce-requires
reduce-requires c = is_preorder c.args.closed.now.ontology c.well_formed-2.ensures.ontology c.in_ok-relation.relation c.in_ok-relation.ensures
