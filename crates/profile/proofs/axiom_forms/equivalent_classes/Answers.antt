use Rattle.axioms.specs.View.{expr_numbers}
use Rattle.fs_parser.specs.View.{trees_of}
use Rattle.profile.specs.Statements.{classes_of}
use Rattle.profile.proofs.AxiomReading.{equivalent_read, equivalent_refused}
use Rattle.profile.proofs.ClassReading.{and_fits}
use Rattle.axioms.proofs.Fronts.{extends_both}
use Rattle.profile.proofs.axiom_forms.equivalent_classes.Goals as goal

pub returns-in-Err-clause-read : goal.returns-in-Err-clause-read
returns-in-Err-clause-read c =
    equivalent_refused (classes_of (trees_of c.args.trees.now)) c.args.builder.now c.class_expressions.new.builder c.in-Err.fault c.in-Err.ensures.read

pub state-requires : goal.state-requires
state-requires c =
    and_fits (classes_of (trees_of c.args.trees.now)) c.args.builder.now c.class_expressions.new.builder (expr_numbers c.in-Ok.operands.items) c.requires.many.many c.requires.many.distinct c.in-Ok.ensures.read

pub returns-clause-read : goal.returns-clause-read
returns-clause-read c =
    equivalent_read (classes_of (trees_of c.args.trees.now)) c.args.builder.now c.class_expressions.new.builder (expr_numbers c.in-Ok.operands.items) c.in-Ok.ensures.read c.state.new.builder c.state.result c.state.ensures.read

pub returns-clause-kept : goal.returns-clause-kept
returns-clause-kept c = extends_both c.args.builder.now c.class_expressions.new.builder c.state.new.builder c.in-Ok.ensures.kept c.state.ensures.kept
