use Rattle.fs_parser.specs.View.{tree_of}
use Rattle.profile.specs.Statements.{iri_of}
use Rattle.profile.proofs.AxiomReading.{class_refused}
use Rattle.profile.proofs.declarations.declare_class.Goals as goal

pub returns-in-Ok-clause-read : goal.returns-in-Ok-clause-read
returns-in-Ok-clause-read c = c.in-Ok.ensures.read.adds

pub returns-in-Err-clause-read : goal.returns-in-Err-clause-read
returns-in-Err-clause-read c = class_refused (iri_of (tree_of c.args.tree.now)) c.args.builder.now c.class.new.builder c.in-Err.fault c.in-Err.ensures.read
