use Rattle.std.proofs.Common.{◌≡◌, ◌↔◌, true, sym, ap₂, ◌∙◌, subst}
use Rattle.normal_forms.specs.declared.forms.PropId2.{PropId2}
use Rattle.normal_forms.specs.Properties.{IsReflexive}
use Rattle.number_sets.specs.Members.{has}
use Rattle.property_closure.specs.PropertyClosures.{known_by}
use Rattle.property_closure.proofs.closure.PropertyClosure.is_reflexive.Goals as goal

pub returns-in-Property-clause-exact : goal.returns-in-Property-clause-exact
returns-in-Property-clause-exact c =
    let forms = (known_by c.self.inside).forms in
    let related = c.self.inside.related in
    let each = subst (λ (p : PropId2). (has related.reflexive.value c.in-Property.id.0 ≡ true) ↔ IsReflexive forms p) (sym c.in-Property.is) (c.self.invariant.related.reflexive c.in-Property.id.0) in
    let is = c.contains.ensures ∙ ap₂ has c.as_ref.ensures c.index.ensures in
    rw (← c.self.view_is) ((λ h. each.0 (sym is ∙ h)), (λ h. is ∙ each.1 h))
