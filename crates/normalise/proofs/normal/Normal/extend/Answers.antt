use Rattle.normalise.proofs.Grown.{grown_itself}
use Rattle.normalise.proofs.normal.Normal.extend.Goals as goal

pub returns-in_err-self-clause-kept : goal.returns-in_err-self-clause-kept
returns-in_err-self-clause-kept c = grown_itself c.args.self.now
