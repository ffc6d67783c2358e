use Rattle.fs_parser.specs.View.{tree_of}
use Rattle.profile.specs.Statements.{iri_of}
use Rattle.profile.proofs.AxiomReading.{pair_fits, negative_assertion_read, negative_assertion_refused}
use Rattle.axioms.proofs.Fronts.{extends_both}
use Rattle.profile.proofs.axiom_forms.negative_property_assertion.Goals as goal

pub returns-in-Err-clause-read : goal.returns-in-Err-clause-read
returns-in-Err-clause-read c = negative_assertion_refused (iri_of (tree_of c.args.first.now)) (iri_of (tree_of c.args.second.now)) (iri_of (tree_of c.args.third.now)) c.args.builder.now c.pair.new.builder c.in-Err.fault c.in-Err.ensures.read

pub state-requires : goal.state-requires
state-requires c = pair_fits (iri_of (tree_of c.args.first.now)) (iri_of (tree_of c.args.second.now)) (iri_of (tree_of c.args.third.now)) c.args.builder.now c.pair.new.builder _ _ _ c.in-Ok.ensures.read

pub returns-clause-read : goal.returns-clause-read
returns-clause-read c = negative_assertion_read (iri_of (tree_of c.args.first.now)) (iri_of (tree_of c.args.second.now)) (iri_of (tree_of c.args.third.now)) c.args.builder.now c.pair.new.builder _ _ _ c.in-Ok.ensures.read c.state.new.builder c.state.result c.state.ensures.read

pub returns-clause-kept : goal.returns-clause-kept
returns-clause-kept c = extends_both c.args.builder.now c.pair.new.builder c.state.new.builder c.in-Ok.ensures.kept c.state.ensures.kept
