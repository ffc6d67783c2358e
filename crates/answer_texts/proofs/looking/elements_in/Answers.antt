use Rattle.std.proofs.Common.{true, false, length, sym, ap, ℕ, ◌∙◌, arith}
use Rattle.std.specs.List.{range_with_len}
use Rattle.std.specs.Global.{Vec}
use Rattle.std.proofs.lemmas.List.{append-nil}
use Rattle.std.proofs.lemmas.List.FromFn.{length-range_with_len}
use Rattle.std.proofs.lemmas.List.Sums.{count_by-le-length, length-filter}
use Rattle.number_sets.specs.Members.{has}
use Rattle.answer_texts.proofs.More.{filter_more}
use Rattle.answer_texts.proofs.looking.elements_in.Goals as goal
use Rattle.answer_texts.proofs.looking.elements_in.Goals.{then-contains+in_ok-push, else-contains}

pub loop-element-preserved : goal.loop-element-preserved
loop-element-preserved c =
    let p = has c.args.set.now in
    elim c.if-contains.branch [
      | then-contains+in_ok-push w ↦ filter_more p c.loop-element.element c.if-contains.elements.items c.loop-element.elements.items true c.loop-element.invariant (sym c.contains.ensures ∙ w.if-contains.true) (ap (λ (v : Vec ℕ). v.items) w.elements-is ∙ w.in_ok-push.ensures.items)
      | else-contains w ↦ filter_more p c.loop-element.element c.if-contains.elements.items c.loop-element.elements.items false c.loop-element.invariant (sym c.contains.ensures ∙ w.if-contains.false) (ap (λ (v : Vec ℕ). v.items) w.elements-is ∙ sym (append-nil c.loop-element.elements.items))
    ]

pub returns-clause-few : goal.returns-clause-few
returns-clause-few c =
    let p = has c.args.set.now in
    let found = range_with_len 0 c.loop-element.element in
    omega (
      arith,
      c.loop-element-test.false,
      c.size-element-end.ensures.value,
      c.loop-element.auto.element-end,
      ap length c.loop-element.invariant,
      length-filter p found,
      count_by-le-length p found,
      length-range_with_len 0 c.loop-element.element,
    )
