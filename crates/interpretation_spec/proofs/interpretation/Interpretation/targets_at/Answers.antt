use Rattle.number_sets.proofs.Absent.{none_there}
use Rattle.interpretation_spec.proofs.interpretation.Interpretation.targets_at.Goals as goal

pub returns-in-None : goal.returns-in-None
returns-in-None c = none_there c.args.self.now.pairs c.args.property.0 c.args.source c.in-None.ensures
