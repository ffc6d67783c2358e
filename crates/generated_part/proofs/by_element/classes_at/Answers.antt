use Rattle.std.proofs.Common.{◌≡◌, ◌+◌, sym, ap, ◌∙◌, subst, arith}
use Rattle.generated_part.specs.Elements.{AreClassesAt}
use Rattle.generated_part.proofs.Rows.{one_class, not_class}
use Rattle.generated_part.proofs.by_element.classes_at.Goals as goal
use Rattle.generated_part.proofs.by_element.classes_at.Goals.{then-is_member+in_ok-push, else-is_member}

pub loop-number-preserved : goal.loop-number-preserved
loop-number-preserved c =
    let i = c.args.interpretation.now in
    let x = c.args.element in
    let n = c.loop-number.number in
    let found = c.loop-number.found.items in
    elim c.if-is_member.branch [
      | then-is_member+in_ok-push w ↦
          subst (AreClassesAt i (n + 1) x) (sym (ap (λ v. v.items) w.found-is ∙ w.in_ok-push.ensures.items))
          (one_class i n x found c.loop-number.invariant c.loop-number.auto.number (sym c.is_member.ensures ∙ w.if-is_member.true))
      | else-is_member w ↦
          subst (AreClassesAt i (n + 1) x) (sym (ap (λ v. v.items) w.found-is))
          (not_class i n x found c.loop-number.invariant (sym c.is_member.ensures ∙ w.if-is_member.false))
    ]

pub returns : goal.returns
returns c =
    let end : c.loop-number.number ≡ c.args.classes = omega (arith, c.loop-number.auto.number-end c.requires.some, c.loop-number-test.false) in
    subst (λ n. AreClassesAt c.args.interpretation.now n c.args.element c.loop-number.found.items) end c.loop-number.invariant
