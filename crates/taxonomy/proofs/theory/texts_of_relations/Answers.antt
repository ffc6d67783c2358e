use Rattle.taxonomy.proofs.Agreement.{same_taxonomy, same_instances}
use Rattle.taxonomy.proofs.Worked as worked
use Rattle.taxonomy.proofs.theory.texts_of_relations.Goals as goal

pub returns : goal.returns
returns c = record {
  taxonomy = same_taxonomy;
  instances = same_instances;
  one_subclass = worked.one_subclass;
  cycle = worked.cycle;
  unsatisfiable_class = worked.unsatisfiable_class;
  chain_into_definition = worked.chain_into_definition;
  individuals = worked.individuals;
}
