use Rattle.profile.specs.Intake.{of_growth}
use Rattle.profile.proofs.Takings.{none_taken}
use Rattle.profile.proofs.ontology_reader.OntologyReader.of_growth.Goals as goal

pub returns-clause-none : goal.returns-clause-none
returns-clause-none c = none_taken (of_growth c.args.version c.args.ontology) c.new.result.items c.new.ensures.items c.from.result c.from.ensures c.well_formed-2.ensures
