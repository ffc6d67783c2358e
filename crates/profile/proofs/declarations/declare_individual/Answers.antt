use Rattle.fs_parser.specs.View.{tree_of}
use Rattle.profile.specs.Statements.{iri_of}
use Rattle.profile.proofs.AxiomReading.{individual_refused}
use Rattle.profile.proofs.declarations.declare_individual.Goals as goal

pub returns-in-Ok-clause-read : goal.returns-in-Ok-clause-read
returns-in-Ok-clause-read c = c.in-Ok.ensures.read.0

pub returns-in-Err-clause-read : goal.returns-in-Err-clause-read
returns-in-Err-clause-read c = individual_refused (iri_of (tree_of c.args.tree.now)) c.args.builder.now c.individual.new.builder c.in-Err.fault c.in-Err.ensures.read
