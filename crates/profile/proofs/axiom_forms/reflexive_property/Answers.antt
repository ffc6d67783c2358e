use Rattle.fs_parser.specs.View.{tree_of}
use Rattle.profile.specs.Statements.{iri_of}
use Rattle.profile.proofs.AxiomReading.{reflexive_read, reflexive_refused}
use Rattle.axioms.proofs.Fronts.{extends_both}
use Rattle.profile.proofs.axiom_forms.reflexive_property.Goals as goal

pub returns-in-Err-clause-read : goal.returns-in-Err-clause-read
returns-in-Err-clause-read c =
    reflexive_refused (iri_of (tree_of c.args.tree.now)) c.args.builder.now c.property.new.builder c.in-Err.fault c.in-Err.ensures.read

pub returns-clause-read : goal.returns-clause-read
returns-clause-read c =
    reflexive_read (iri_of (tree_of c.args.tree.now)) c.args.builder.now c.property.new.builder c.state.new.builder c.in-Ok.property.0 c.in-Ok.ensures.read c.state.result c.state.ensures.read

pub returns-clause-kept : goal.returns-clause-kept
returns-clause-kept c = extends_both c.args.builder.now c.property.new.builder c.state.new.builder c.in-Ok.ensures.kept c.state.ensures.kept
