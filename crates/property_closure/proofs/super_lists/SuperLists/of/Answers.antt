use Rattle.std.proofs.Common.{◌∙◌, List, length, sym, ap, subst}
use Rattle.normal_forms.specs.declared.forms.PropId2.{PropId2}
use Rattle.number_sets.specs.Pieces.{list_at}
use Rattle.property_closure.specs.Relations.{AreAbove, as_property}
use Rattle.property_closure.proofs.Growing.{searched}
use Rattle.property_closure.proofs.super_lists.SuperLists.of.Goals as goal

pub returns-clause-supers : goal.returns-clause-supers
returns-clause-supers c =
    let forms = c.args.forms.now in
    let is = c.in_ok-new.ensures.ok in
    searched forms c.args.properties c.in_ok-new.field-0.value c.new-2.result c.new-2.ensures (ap length is ∙ c.in_ok-base.ensures.length) c.requires.within
    (λ p l. subst (λ (lists : List (List PropId2)). AreAbove forms (as_property p) (list_at lists p)) (sym is) (c.in_ok-base.ensures.each p l))
