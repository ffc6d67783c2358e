use Rattle.std.proofs.Common.{List, Contains, arith, inr, subst, sym}
use Rattle.normal_forms.specs.declared.forms.Form.{Form}
use Rattle.saturate.proofs.NewForms.{ask_as_new, has_below, listed_more, new_pushed, pushed_listed}
use Rattle.saturate.proofs.new_forms.new_forms.Goals as goal
use Rattle.saturate.proofs.new_forms.new_forms.Goals.{then-may_ask_anew+in_ok-push, else-may_ask_anew}

pub loop-number-preserved : goal.loop-number-preserved
loop-number-preserved c =
    let before = c.args.earlier.now.forms in
    let now = c.args.forms.now in
    let new = c.loop-number.new in
    let i = c.loop-number.number in
    let form = c.at-form.result in
    let same = c.in_ok-earlier_forms.ensures in
    elim c.if-may_ask_anew.branch [
      | then-may_ask_anew+in_ok-push w ↦ rw w.new-is (rw w.in_ok-push.ensures.ok (record {
        each = new_pushed before now i form new c.at-form.ensures (subst (λ (forms : List Form). ¬ Contains forms form) same (c.may_ask_anew.ensures.yes w.if-may_ask_anew.true)) c.loop-number.invariant.each;
        listed = pushed_listed before now c.args.from i form new c.at-form.ensures c.loop-number.invariant.listed;
      }))
      | else-may_ask_anew w ↦ rw w.new-is (record {
        each = c.loop-number.invariant.each;
        listed = listed_more before now c.args.from i form new new c.at-form.ensures c.loop-number.invariant.listed (λ f there. there)
            (λ is_new. inr (c.may_ask_anew.ensures.no w.if-may_ask_anew.false (subst (λ (forms : List Form). ¬ Contains forms form) (sym same) is_new.1)));
      })
    ]

pub returns-clause-asked : goal.returns-clause-asked
returns-clause-asked c = ask_as_new c.args.earlier.now.forms c.args.forms.now c.loop-number.new c.args.from c.loop-number.number c.requires (omega (arith, c.loop-number-test.false, c.len-number-end.ensures)) c.loop-number.invariant.each c.loop-number.invariant.listed

pub returns-clause-below : goal.returns-clause-below
returns-clause-below c = has_below c.args.earlier.now.forms c.args.forms.now c.loop-number.new c.args.from c.loop-number.number c.requires (omega (arith, c.loop-number-test.false, c.len-number-end.ensures)) c.loop-number.invariant.listed
