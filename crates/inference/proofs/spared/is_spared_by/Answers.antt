use Rattle.std.proofs.Common.{◌≡◌, Some, ap, sym, ◌∙◌, slice_get, true≢false}
use Rattle.normal_forms.specs.declared.forms.Form.TheVariants.{N6}
use Rattle.inference.proofs.Redundancy.{joined_at_last, joined_in_front}
use Rattle.inference.proofs.Sparing.{spared_as}
use Rattle.inference.proofs.spared.is_spared_by.Goals as goal
use Rattle.inference.proofs.spared.is_spared_by.Goals.{then-is_below, else-is_below}

pub returns-then-is_joined : goal.returns-then-is_joined
returns-then-is_joined c = λ yes form at.
    let forms = c.args.problem.now.forms in
    let n = c.args.number in
    let r = c.in-Some-N6.begin in
    let s = c.in-Some-N6.end in
    let t = c.in-Some-N6.whole in
    let is : slice_get forms n ≡ Some (N6 r s t) = sym c.form.ensures ∙ c.in-Some-N6.is ∙ ap Some c.in-Some-N6.field-0-is in
    elim c.if-is_below.branch [
      | then-is_below w ↦
          spared_as forms n r s t c.args.older.0 c.args.older.1 form is at
          (joined_in_front forms n r s t c.args.older.0 c.args.older.1 is ((c.is_below.ensures forms c.requires.same).0 w.if-is_below.true)
          (w.is_joined.ensures (sym w.value-is ∙ yes) forms c.requires))
      | else-is_below w ↦ absurd (true≢false (sym yes ∙ w.value-is ∙ w.if-is_below.false))
    ]

pub returns-then-is_below-2 : goal.returns-then-is_below-2
returns-then-is_below-2 c = λ yes form at.
    let forms = c.args.problem.now.forms in
    let n = c.args.number in
    let r = c.in-Some-N6.begin in
    let s = c.in-Some-N6.end in
    let t = c.in-Some-N6.whole in
    let is : slice_get forms n ≡ Some (N6 r s t) = sym c.form.ensures ∙ c.in-Some-N6.is ∙ ap Some c.in-Some-N6.field-0-is in
    spared_as forms n r s t c.args.older.0 c.args.older.1 form is at
    (joined_at_last forms n r s t c.args.older.0 c.args.older.1 is ((c.is_below-else-is_joined.ensures forms c.requires.same).0 c.if-is_below-2.true)
    (c.is_joined-then-is_below-2.ensures yes forms c.requires))
