use Rattle.std.proofs.Common.{refl}
use Rattle.std.proofs.lemmas.Bool.{false≢true}
use Rattle.normal_forms.specs.declared.forms.Form.TheVariants.{N6}
use Rattle.number_sets.proofs.Members.{member_at}
use Rattle.property_closure.proofs.ChainLists.{no_chains_more, no_chains_of}
use Rattle.property_closure.proofs.chains.are_no_chains.Goals as goal

pub returns-in-N6 : goal.returns-in-N6
returns-in-N6 c =
    let first = c.in-N6.field-0 in
    let second = c.in-N6.field-1 in
    let whole = c.in-N6.field-2 in (
      λ h. absurd (false≢true h),
      λ none. absurd (none first (second, whole) (member_at c.args.forms.now c.loop-form.form-index _ (N6 first second whole) c.loop-form-test.true c.in-N6.is)),
    )

pub loop-form-preserved : goal.loop-form-preserved
loop-form-preserved c = no_chains_more c.args.forms.now c.loop-form.form-index _ c.loop-form-test.true c.in_default.not-N6 c.loop-form.invariant

pub returns : goal.returns
returns c = (λ _. no_chains_of c.args.forms.now c.loop-form.form-index c.loop-form-test.false c.loop-form.invariant, λ _. refl)
