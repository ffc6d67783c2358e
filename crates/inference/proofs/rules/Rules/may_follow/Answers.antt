use Rattle.std.proofs.Common.{subst}
use Rattle.normal_forms.specs.declared.forms.PropId2.TheVariants.{Property}
use Rattle.inference.specs.Marks.{HasEndsOf}
use Rattle.inference.proofs.Lists.{one_value}
use Rattle.inference.proofs.Marking.{cannot_follow, ends_by}
use Rattle.inference.proofs.rules.Rules.may_follow.Goals as goal

pub returns-in-Some : goal.returns-in-Some
returns-in-Some c = λ no f g has at.
    let k = c.args.self.now.problem.now in
    let told = c.in-Some.ensures in
    cannot_follow k c.args.seconds c.ends.result f g no has
    (subst (HasEndsOf k.forms c.ends.result) (one_value _ told.0 g told.1 at)
    (ends_by k.forms c.ends.result (Property c.in-Some.property) told.0 (c.ends.ensures k.forms c.args.self.now.joined) told.2))
