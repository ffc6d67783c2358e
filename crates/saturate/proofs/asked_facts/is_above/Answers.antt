use Rattle.normal_forms.specs.declared.forms.PropId2.{PropId2}
use Rattle.normal_forms.specs.declared.forms.PropId2.TheVariants.{Property}
use Rattle.normal_forms.proofs.Suffice.{suffice}
use Rattle.saturate.proofs.asked_facts.is_above.Goals as goal

pub returns : goal.returns
returns c = λ all closed.
    let p = c.args.property in
    let above : PropId2 = Property c.args.above in
    let listed = c.supers.ensures.exact above in
    let same = (suffice all p above (p, p)).0 in (
      λ yes. same.0 (rw (← closed.same) (listed.0 (c.is_listed.ensures.0 yes)).1),
      λ low. c.is_listed.ensures.1 (listed.1 (c.requires, rw closed.same (same.1 low))),
    )
