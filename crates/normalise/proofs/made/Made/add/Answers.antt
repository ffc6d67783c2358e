use Rattle.std.proofs.Common.{refl}
use Rattle.normalise.proofs.Adding.{adds_one}
use Rattle.normalise.proofs.made.Made.add.Goals as goal

pub returns-clause-forms : goal.returns-clause-forms
returns-clause-forms c = λ g says. adds_one c.args.self.now _ c.args.form c.args.origin g c.in_ok-push.ensures.ok refl refl refl says
