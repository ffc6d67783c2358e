use Rattle.axioms.proofs.Fronts.{extends_self}
use Rattle.profile.proofs.Takings.{nothing_stated}
use Rattle.profile.proofs.ontology_reader.overflows.Goals as goal

pub returns-in_default-clause-stated : goal.returns-in_default-clause-stated
returns-in_default-clause-stated c = nothing_stated c.args.statement c.in_default.not-Some c.args.builder.now c.well_formed-2.ensures

pub returns-in_default-clause-kept : goal.returns-in_default-clause-kept
returns-in_default-clause-kept c = extends_self c.args.builder.now
