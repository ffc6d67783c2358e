use Rattle.std.proofs.Common.{◌<◌, List, length, map, slice_get, sym, ap, ◌∙◌, subst}
use Rattle.std.proofs.lemmas.Option.{same_Some, slice_get_within}
use Rattle.facts.specs.Closure.{Links}
use Rattle.normal_forms.specs.declared.forms.Form.{Form}
use Rattle.normalise.specs.Entries.{form_in}
use Rattle.normalise.specs.Listing.{Listing}
use Rattle.explain.proofs.same.next_same.Goals as goal

pub at-step-requires : goal.at-step-requires
at-step-requires g c =
    let (j, linked) = c.requires.linked in
    let (form, at, links) = linked in
    subst (λ (fs : List Form). c.args.form < length fs) (c.well_formed-2.ensures.saturated.forms ∙ sym (c.forms.ensures ∙ ap (λ (v : Listing). map form_in v.entries) c.normal.ensures))
    (slice_get_within c.args.basis.now.closed.now.saturation.state.problem.forms c.args.form form at)

pub same_line-requires-clause-linked : goal.same_line-requires-clause-linked
same_line-requires-clause-linked g c =
    let (j, linked) = c.requires.linked in
    let (form, at, links) = linked in
    let forms = c.well_formed-2.ensures.saturated.forms ∙ sym (c.forms.ensures ∙ ap (λ (v : Listing). map form_in v.entries) c.normal.ensures) in
    let same = same_Some form c.at-step.result (sym at ∙ ap (λ (fs : List Form). slice_get fs c.args.form) forms ∙ c.at-step.ensures) in
    let next = c.other-next.ensures j (subst (λ (x : Form). Links x c.args.individual j) same links) in
    (form, at, subst (Links form c.args.individual) next links)

pub returns-clause-only : goal.returns-clause-only
returns-clause-only g c = λ j linked.
    let (form, at, links) = linked in
    let forms = c.well_formed-2.ensures.saturated.forms ∙ sym (c.forms.ensures ∙ ap (λ (v : Listing). map form_in v.entries) c.normal.ensures) in
    let same = same_Some form c.at-step.result (sym at ∙ ap (λ (fs : List Form). slice_get fs c.args.form) forms ∙ c.at-step.ensures) in
    c.other-next.ensures j (subst (λ (x : Form). Links x c.args.individual j) same links)
