use Rattle.axioms.specs.View.{ind_numbers}
use Rattle.fs_parser.specs.View.{trees_of}
use Rattle.profile.specs.Statements.{iris_of}
use Rattle.profile.proofs.AxiomReading.{individuals_fit, same_individuals_read, same_individuals_refused}
use Rattle.axioms.proofs.Fronts.{extends_both}
use Rattle.profile.proofs.axiom_forms.same_individuals.Goals as goal

pub returns-in-Err-clause-read : goal.returns-in-Err-clause-read
returns-in-Err-clause-read c = same_individuals_refused (iris_of (trees_of c.args.trees.now)) c.args.builder.now c.individuals.new.builder c.in-Err.fault c.in-Err.ensures.read

pub state-requires : goal.state-requires
state-requires c =
    individuals_fit (iris_of (trees_of c.args.trees.now)) c.args.builder.now c.individuals.new.builder (ind_numbers c.in-Ok.operands.items) c.in-Ok.ensures.read c.requires.many c.requires.distinct

pub returns-clause-read : goal.returns-clause-read
returns-clause-read c =
    same_individuals_read (iris_of (trees_of c.args.trees.now)) c.args.builder.now c.individuals.new.builder (ind_numbers c.in-Ok.operands.items) c.in-Ok.ensures.read c.state.new.builder c.state.result c.state.ensures.read

pub returns-clause-kept : goal.returns-clause-kept
returns-clause-kept c = extends_both c.args.builder.now c.individuals.new.builder c.state.new.builder c.in-Ok.ensures.kept c.state.ensures.kept
