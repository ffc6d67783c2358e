use Rattle.fs_parser.specs.View.{tree_of}
use Rattle.profile.specs.Statements.{class_of, iri_of}
use Rattle.profile.proofs.AxiomReading.{assertion_class_refused, assertion_individual_refused, class_assertion_fits, class_assertion_read}
use Rattle.axioms.proofs.Fronts.{extends_both}
use Rattle.profile.proofs.axiom_forms.class_assertion.Goals as goal

pub returns-in-Err-clause-read : goal.returns-in-Err-clause-read
returns-in-Err-clause-read c = assertion_class_refused (class_of (tree_of c.args.first.now)) (iri_of (tree_of c.args.second.now)) c.args.builder.now c.class_expression.new.builder c.in-Err.fault c.in-Err.ensures.read

pub returns-in-Err-individual-clause-read : goal.returns-in-Err-individual-clause-read
returns-in-Err-individual-clause-read c =
    assertion_individual_refused (class_of (tree_of c.args.first.now)) (iri_of (tree_of c.args.second.now)) c.args.builder.now c.class_expression.new.builder c.individual.new.builder c.in-Ok.class.0 c.in-Ok.ensures.read c.in-Err-individual.fault c.in-Err-individual.ensures.read

pub state-requires : goal.state-requires
state-requires c =
    class_assertion_fits (class_of (tree_of c.args.first.now)) (iri_of (tree_of c.args.second.now)) c.args.builder.now c.class_expression.new.builder c.individual.new.builder c.in-Ok.class.0 c.in-Ok-individual.individual.0 c.in-Ok.ensures.read c.in-Ok-individual.ensures.read

pub returns-clause-read : goal.returns-clause-read
returns-clause-read c =
    class_assertion_read (class_of (tree_of c.args.first.now)) (iri_of (tree_of c.args.second.now)) c.args.builder.now c.class_expression.new.builder c.individual.new.builder c.in-Ok.class.0 c.in-Ok-individual.individual.0 c.in-Ok.ensures.read c.in-Ok-individual.ensures.read c.state.new.builder c.state.result c.state.ensures.read

pub returns-in-Err-individual-clause-kept : goal.returns-in-Err-individual-clause-kept
returns-in-Err-individual-clause-kept c = extends_both c.args.builder.now c.class_expression.new.builder c.individual.new.builder c.in-Ok.ensures.kept c.in-Err-individual.ensures.kept

pub returns-clause-kept : goal.returns-clause-kept
returns-clause-kept c = extends_both c.args.builder.now c.individual.new.builder c.state.new.builder (extends_both c.args.builder.now c.class_expression.new.builder c.individual.new.builder c.in-Ok.ensures.kept c.in-Ok-individual.ensures.kept) c.state.ensures.kept
