use Rattle.std.proofs.Common.{◌≡◌, ◌+◌, [], ◌∷◌, ◌++◌, slice_get, refl, sym, ap, ◌∙◌, subst}
use Rattle.std.specs.Prelude.{slice_set, Some}
use Rattle.number_sets.specs.Pieces.{list_at}
use Rattle.normal_forms.specs.declared.forms.Form.TheVariants.{N4}
use Rattle.inference.specs.Marks.{AreRestrictionsBefore}
use Rattle.inference.proofs.Restrictions.{restriction_listed, other_unlisted}
use Rattle.inference.proofs.fillers.list_restriction.Goals as goal

pub returns-in_ok-push-clause-listed : goal.returns-in_ok-push-clause-listed
returns-in_ok-push-clause-listed c =
    let forms = c.args.forms.now in
    let n = c.args.number in
    let lists = c.args.lists.now in
    let p = c.in-N4.property in
    let form = N4 p c.in-N4.field-1 c.in-N4.field-2 in
    let here : slice_get forms n ≡ Some form = c.at.ensures ∙ ap Some c.in-N4.is in
    let is : c.push.new.self ≡ slice_set lists p.0 (list_at lists p.0 ++ n ∷ []) = c.in_ok-push.ensures.ok ∙ ap (λ i. slice_set lists i (list_at lists i ++ n ∷ [])) c.index.ensures in
    subst (AreRestrictionsBefore forms (n + 1)) (sym is) (restriction_listed forms n p _ _ lists here (c.requires.within p.0 n (form, here, refl)) c.requires.before)

pub returns-in_default-clause-listed : goal.returns-in_default-clause-listed
returns-in_default-clause-listed c = other_unlisted c.args.forms.now c.args.number _ c.args.lists.now c.at.ensures c.in_default.not-N4 c.requires.before
