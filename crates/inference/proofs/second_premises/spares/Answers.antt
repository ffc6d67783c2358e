use Rattle.std.proofs.Common.{◌≡◌, Some, ap, sym, ◌∙◌, slice_get}
use Rattle.normal_forms.specs.declared.forms.Form.TheVariants.{N6}
use Rattle.inference.proofs.second_premises.spares.Goals as goal

pub returns-then-is_same : goal.returns-then-is_same
returns-then-is_same c = λ yes.
    let n = c.args.number in
    let a = c.in-Some-N6.field-0-0 in
    let b = c.in-Some-N6.field-0-1 in
    let p = c.args.property in
    let is : slice_get c.args.problem.now.forms n ≡ Some (N6 a b p) = sym c.form.ensures ∙ c.in-Some-N6.is ∙ ap Some c.in-Some-N6.field-0-is ∙ ap (λ whole. Some (N6 a b whole)) (c.is_same.ensures.0 c.if-is_same.true) in
    (a, b, is, c.requires.spared n a b p (sym c.spares.ensures ∙ yes) is)
