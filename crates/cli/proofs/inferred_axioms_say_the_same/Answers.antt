use Rattle.cli.proofs.InferredRuns.{inferred_runs}
use Rattle.cli.proofs.inferred_axioms_say_the_same.Goals as goal

pub returns : goal.returns
returns c = inferred_runs
