use Rattle.fs_parser.specs.View.{tree_of}
use Rattle.profile.specs.Statements.{class_of}
use Rattle.profile.proofs.AxiomReading.{first_refused, second_refused, sub_class_read, two_fit}
use Rattle.axioms.proofs.Fronts.{extends_both}
use Rattle.profile.proofs.axiom_forms.sub_class.Goals as goal

pub returns-in-Err-clause-read : goal.returns-in-Err-clause-read
returns-in-Err-clause-read c =
    first_refused (class_of (tree_of c.args.sub.now)) (class_of (tree_of c.args.superclass.now)) c.args.builder.now c.class_expression.new.builder c.in-Err.fault c.in-Err.ensures.read

pub returns-in-Err-class_expression-clause-read : goal.returns-in-Err-class_expression-clause-read
returns-in-Err-class_expression-clause-read c =
    second_refused (class_of (tree_of c.args.sub.now)) (class_of (tree_of c.args.superclass.now)) c.args.builder.now c.class_expression.new.builder c.class_expression-2.new.builder c.in-Ok.sub.0 c.in-Ok.ensures.read c.in-Err-class_expression.fault c.in-Err-class_expression.ensures.read

pub state-requires : goal.state-requires
state-requires c =
    two_fit (class_of (tree_of c.args.sub.now)) (class_of (tree_of c.args.superclass.now)) c.args.builder.now c.class_expression.new.builder c.class_expression-2.new.builder c.in-Ok.sub.0 c.in-Ok-class_expression.superclass.0 c.in-Ok.ensures.read c.in-Ok-class_expression.ensures.read

pub returns-clause-read : goal.returns-clause-read
returns-clause-read c =
    sub_class_read (class_of (tree_of c.args.sub.now)) (class_of (tree_of c.args.superclass.now)) c.args.builder.now c.class_expression.new.builder c.class_expression-2.new.builder c.in-Ok.sub.0 c.in-Ok-class_expression.superclass.0 c.in-Ok.ensures.read c.in-Ok-class_expression.ensures.read c.state.new.builder c.state.result c.state.ensures.read

pub returns-in-Err-class_expression-clause-kept : goal.returns-in-Err-class_expression-clause-kept
returns-in-Err-class_expression-clause-kept c = extends_both c.args.builder.now c.class_expression.new.builder c.class_expression-2.new.builder c.in-Ok.ensures.kept c.in-Err-class_expression.ensures.kept

pub returns-clause-kept : goal.returns-clause-kept
returns-clause-kept c = extends_both c.args.builder.now c.class_expression-2.new.builder c.state.new.builder (extends_both c.args.builder.now c.class_expression.new.builder c.class_expression-2.new.builder c.in-Ok.ensures.kept c.in-Ok-class_expression.ensures.kept) c.state.ensures.kept
