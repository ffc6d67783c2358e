use Rattle.engine.proofs.Saturating.{continued_from_none, grown_forms, grown_into, grown_lists, nothing_served}
use Rattle.std.proofs.Common.{◌∙◌}
use Rattle.engine.proofs.saturation.begun.Goals as goal

pub returns-in-Ok-clause-problem : goal.returns-in-Ok-clause-problem
returns-in-Ok-clause-problem c =
    grown_into c.args.ontology.now c.args.normal.now c.in_ok-begun.begun c.extend.new.self c.forms.result.now c.apart.result.now c.deref.result.now c.requires.normal c.requires.asked
    (rw c.deref.ensures.value c.in_ok-roots.ensures) c.in_ok-begun.ensures.nothing c.forms.ensures c.apart.ensures c.in-Ok.ensures.grown

pub returns-in-Ok-clause-forms : goal.returns-in-Ok-clause-forms
returns-in-Ok-clause-forms c = grown_forms c.in_ok-begun.begun c.extend.new.self c.forms.result.now c.apart.result.now c.deref.result.now c.in_ok-begun.ensures.nothing c.in-Ok.ensures.grown ∙ c.forms.ensures

pub returns-in-Ok-clause-apart : goal.returns-in-Ok-clause-apart
returns-in-Ok-clause-apart c = grown_lists c.in_ok-begun.begun c.extend.new.self c.forms.result.now c.apart.result.now c.deref.result.now c.in_ok-begun.ensures.nothing c.in-Ok.ensures.grown ∙ c.apart.ensures

pub extend-requires-clause-lists : goal.extend-requires-clause-lists
extend-requires-clause-lists c = continued_from_none c.in_ok-begun.begun c.apart.result.now c.in_ok-begun.ensures.nothing

pub returns-in-Ok-clause-served : goal.returns-in-Ok-clause-served
returns-in-Ok-clause-served c = nothing_served c.in_ok-begun.begun c.extend.new.self c.in_ok-begun.ensures.nothing c.in-Ok.ensures.served
