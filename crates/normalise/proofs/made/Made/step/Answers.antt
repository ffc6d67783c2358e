use Rattle.axioms.specs.View.{prop_numbers}
use Rattle.normalise.proofs.Giving.{chain_step}
use Rattle.normalise.proofs.made.Made.step.Goals as goal

pub returns : goal.returns
returns c = chain_step c.args.self.now c.more_steps.new.self c.add.new.self (prop_numbers c.args.steps.now) c.args.whole.0 c.args.k c.args.origin c.args.shorter c.in_ok-all.all c.prop_at.result c.requires.first c.requires.starts c.prop_at.ensures c.in_ok-all.ensures c.in_ok-add.ensures.forms c.in_ok-add.ensures.steps
