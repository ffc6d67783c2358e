use Rattle.std.proofs.Common.{subst}
use Rattle.normal_forms.specs.declared.forms.PropId2.TheVariants.{Property}
use Rattle.inference.specs.Marks.{HasSecondsOf}
use Rattle.inference.proofs.Lists.{one_value}
use Rattle.inference.proofs.Marking.{cannot_lead, seconds_by}
use Rattle.inference.proofs.rules.Rules.may_lead.Goals as goal

pub returns-in-Some : goal.returns-in-Some
returns-in-Some c = λ no f g has at.
    let k = c.args.self.now.problem.now in
    let told = c.in-Some.ensures in
    cannot_lead k c.seconds.result c.args.ends f g no
    (subst (HasSecondsOf k.forms c.seconds.result) (one_value _ told.0 f told.1 at)
    (seconds_by k.forms c.seconds.result (Property c.in-Some.property) told.0 (c.seconds.ensures k.forms c.args.self.now.joined) told.2))
    has
