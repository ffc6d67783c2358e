use Rattle.fs_parser.specs.View.{tree_of}
use Rattle.profile.specs.Statements.{class_of, iri_of}
use Rattle.profile.proofs.AxiomReading.{domain_class_refused, domain_fits, domain_property_refused, domain_read}
use Rattle.axioms.proofs.Fronts.{extends_both}
use Rattle.profile.proofs.axiom_forms.property_domain.Goals as goal

pub returns-in-Err-clause-read : goal.returns-in-Err-clause-read
returns-in-Err-clause-read c = domain_property_refused (iri_of (tree_of c.args.first.now)) (class_of (tree_of c.args.second.now)) c.args.builder.now c.property.new.builder c.in-Err.fault c.in-Err.ensures.read

pub returns-in-Err-class_expression-clause-read : goal.returns-in-Err-class_expression-clause-read
returns-in-Err-class_expression-clause-read c =
    domain_class_refused (iri_of (tree_of c.args.first.now)) (class_of (tree_of c.args.second.now)) c.args.builder.now c.property.new.builder c.class_expression.new.builder c.in-Ok.property.0 c.in-Ok.ensures.read c.in-Err-class_expression.fault c.in-Err-class_expression.ensures.read

pub state-requires : goal.state-requires
state-requires c =
    domain_fits (iri_of (tree_of c.args.first.now)) (class_of (tree_of c.args.second.now)) c.args.builder.now c.property.new.builder c.class_expression.new.builder c.in-Ok.property.0 c.in-Ok-class_expression.class.0 c.in-Ok.ensures.read c.in-Ok-class_expression.ensures.read

pub returns-clause-read : goal.returns-clause-read
returns-clause-read c =
    domain_read (iri_of (tree_of c.args.first.now)) (class_of (tree_of c.args.second.now)) c.args.builder.now c.property.new.builder c.class_expression.new.builder c.in-Ok.property.0 c.in-Ok-class_expression.class.0 c.in-Ok.ensures.read c.in-Ok-class_expression.ensures.read c.state.new.builder c.state.result c.state.ensures.read

pub returns-in-Err-class_expression-clause-kept : goal.returns-in-Err-class_expression-clause-kept
returns-in-Err-class_expression-clause-kept c = extends_both c.args.builder.now c.property.new.builder c.class_expression.new.builder c.in-Ok.ensures.kept c.in-Err-class_expression.ensures.kept

pub returns-clause-kept : goal.returns-clause-kept
returns-clause-kept c = extends_both c.args.builder.now c.class_expression.new.builder c.state.new.builder (extends_both c.args.builder.now c.property.new.builder c.class_expression.new.builder c.in-Ok.ensures.kept c.in-Ok-class_expression.ensures.kept) c.state.ensures.kept
