use Rattle.std.proofs.Common.{◌≤◌, length, refl, ap, arith}
use Rattle.std.proofs.lemmas.Bool.{false≢true}
use Rattle.normal_forms.specs.declared.forms.Form.TheVariants.{N5}
use Rattle.number_sets.proofs.Members.{member_at}
use Rattle.property_closure.proofs.Growing.{begin_more, begin_same, begin_all}
use Rattle.property_closure.proofs.super_lists.SuperLists.can_take.Goals as goal
use Rattle.property_closure.proofs.super_lists.SuperLists.can_take.Goals.{in-N5+else-index-base, in_default}

pub returns-then-index-base : goal.returns-then-index-base
returns-then-index-base c =
    let sub = c.in-N5.sub in
    let sup = c.in-N5.field-1 in (
      λ h. absurd (false≢true h),
      λ all. absurd (
          let high : length c.args.self.now.base.value ≤ sub.0 = all sub.0 sup.0 (member_at c.args.forms.now c.loop-form.form-index _ (N5 sub sup) c.loop-form-test.true c.in-N5.is) in
          omega (arith, high, c.if-index-base.true, c.index.ensures, c.len-base.ensures, ap length c.as_ref.ensures)),
    )

pub loop-form-preserved : goal.loop-form-preserved
loop-form-preserved c =
    let forms = c.args.forms.now in
    let k = c.loop-form.form-index in
    let n = c.len-base.result in
    elim c.match-form.branch [
      | in-N5+else-index-base w ↦ begin_more n forms k _ w.in-N5.sub w.in-N5.field-1 c.loop-form-test.true w.in-N5.is (omega (arith, w.if-index-base.false, w.index.ensures)) c.loop-form.invariant
      | in_default w ↦ begin_same n forms k _ c.loop-form-test.true w.in_default.not-N5 c.loop-form.invariant
    ]

pub returns : goal.returns
returns c = (
  λ _ r s t. (
      let high : c.len-base.result ≤ r = begin_all c.len-base.result c.args.forms.now c.loop-form.form-index c.loop-form-test.false c.loop-form.invariant r s t in
      omega (arith, high, c.len-base.ensures, ap length c.as_ref.ensures)
      ),
  λ _. refl,
)
