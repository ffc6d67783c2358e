use Rattle.std.proofs.Common.{◌+◌, Some, ap, sym, subst, subst₂, take, ◌∙◌}
use Rattle.std.proofs.lemmas.Option.{slice_get-get_or}
use Rattle.indexes.specs.ListedForms.{AreChangedForms, AreOf}
use Rattle.indexes.proofs.Led.{next_changed}
use Rattle.indexes.proofs.led_forms.forms_of.Goals as goal

pub loop-list-preserved : goal.loop-list-preserved
loop-list-preserved c =
    let forms = c.args.forms.now in
    let lists = c.args.lists.now in
    let i = c.loop-list.list-index in
    let item = c.list-item.result in
    subst (AreChangedForms forms (take (i + 1) lists)) (sym c.in_ok-push_list.ensures.ok)
    (next_changed forms lists i c.loop-list.changed item c.deref.result.now (slice_get-get_or lists i item c.loop-list-test.true ∙ ap Some (sym c.list-item.is))
    (subst₂ (AreOf forms) c.numbers.ensures (sym c.deref.ensures.value) c.in_ok-put_forms.ensures)
    c.loop-list.invariant)
