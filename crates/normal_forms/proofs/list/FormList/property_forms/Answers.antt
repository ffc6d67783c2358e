use Rattle.std.proofs.Common.{◌≡◌, ◌++◌, ◌∷◌, [], Some, slice_get, ap, sym, ◌∙◌, subst}
use Rattle.lemmas.proofs.Mapped.{slice_get_map}
use Rattle.normal_forms.specs.Properties.{is_property_form}
use Rattle.normal_forms.specs.StoredForms.{form_of}
use Rattle.normal_forms.proofs.Filters.{next_kept, next_left_out}
use Rattle.normal_forms.proofs.list.FormList.property_forms.Goals as goal
use Rattle.normal_forms.proofs.list.FormList.property_forms.Goals.{then-is_of_properties+in_ok-push, else-is_of_properties}

pub loop-number-preserved : goal.loop-number-preserved
loop-number-preserved c =
    let forms = c.args.self.now in
    let before = c.loop-number.kept.items in
    let k = c.loop-number.number in
    let form = c.at-form.result.now in
    let here : slice_get forms k ≡ Some (form_of form) = subst (λ xs. slice_get xs k ≡ Some (form_of form)) c.self.view_is (slice_get_map form_of c.self.inside.forms.items k form c.at-form.ensures) in
    elim c.if-is_of_properties.branch [
      | then-is_of_properties+in_ok-push w ↦
          ap (λ v. v.items) w.kept-is ∙ w.in_ok-push.ensures.items ∙ ap (λ f. before ++ f ∷ []) w.get.ensures
          ∙ next_kept is_property_form forms before k (form_of form) here (sym c.is_of_properties.ensures ∙ w.if-is_of_properties.true) c.loop-number.invariant
      | else-is_of_properties w ↦
          ap (λ v. v.items) w.kept-is ∙ next_left_out is_property_form forms before k (form_of form) here (sym c.is_of_properties.ensures ∙ w.if-is_of_properties.false) c.loop-number.invariant
    ]
