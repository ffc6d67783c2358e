use Rattle.std.proofs.Common.{Some, ap, refl, sym, ◌∙◌}
use Rattle.normal_forms.specs.declared.forms.Form.TheVariants.{N6}
use Rattle.inference.proofs.Lists.{Contains-from_slice_get}
use Rattle.inference.proofs.spared.is_spared.Goals as goal

pub is_whole_spared-requires-clause-has : goal.is_whole_spared-requires-clause-has
is_whole_spared-requires-clause-has c =
    let chain = N6 c.in-Some-N6.first c.in-Some-N6.second c.in-Some-N6.whole in
    c.requires.has chain (Contains-from_slice_get c.args.problem.now.forms c.args.number chain (sym c.form.ensures ∙ c.in-Some-N6.is ∙ ap Some c.in-Some-N6.field-0-is)) c.in-Some-N6.whole refl
