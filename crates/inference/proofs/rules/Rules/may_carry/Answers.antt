use Rattle.std.proofs.Common.{subst}
use Rattle.normal_forms.specs.declared.forms.PropId2.TheVariants.{Property}
use Rattle.facts.specs.declared.contexts.Fact.{Fact}
use Rattle.inference.specs.Visits.{GiveNothing}
use Rattle.inference.specs.Marks.{HasAboveOf}
use Rattle.inference.proofs.Lists.{one_value}
use Rattle.inference.proofs.Marking.{above_by, cannot_carry}
use Rattle.inference.proofs.rules.Rules.may_carry.Goals as goal

pub returns-in-Some : goal.returns-in-Some
returns-in-Some c = λ no f g has at.
    let k = c.args.self.now.problem.now in
    let told = c.in-Some.ensures in
    cannot_carry k c.above.result c.args.filled f g no
    (subst (HasAboveOf k.forms c.above.result) (one_value _ told.0 f told.1 at)
    (above_by k.forms c.above.result (Property c.in-Some.property) told.0 (c.above.ensures k.forms c.args.self.now.joined) told.2))
    has

pub returns-in-None : goal.returns-in-None
returns-in-None c = λ no f g has at.
    let k = c.args.self.now.problem.now in
    subst (λ (h : Fact). GiveNothing k h g) (one_value _ c.get.result f c.get.ensures at) (c.may_bear.ensures no g has)
