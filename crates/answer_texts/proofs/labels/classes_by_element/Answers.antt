use Rattle.std.proofs.Common.{◌+◌, take, get_or, length, ◌∙◌, arith}
use Rattle.std.proofs.lemmas.List.{take_all, take_more}
use Rattle.interpretation_spec.specs.Members.{has_elements}
use Rattle.number_sets.specs.Pieces.{list_at}
use Rattle.answer_texts.proofs.Classes.{class_below}
use Rattle.answer_texts.proofs.Labelling.{all_classes, class_more}
use Rattle.answer_texts.proofs.labels.classes_by_element.Goals as goal

pub overflow_cast-number : goal.overflow_cast-number
overflow_cast-number c =
    let i = c.args.interpretation.now in
    let are = c.deref-number-items.ensures.value ∙ c.in_ok-classes.ensures in
    let low = class_below (has_elements i) (length i.classes) c.deref-number-items.result.now c.loop-number.number-index are c.loop-number-test.true in
    record { fits = omega (arith, low, c.requires.classes, c.bounded.ensures.classes) }

pub loop-number-preserved : goal.loop-number-preserved
loop-number-preserved c =
    let i = c.args.interpretation.now in
    let classes = c.deref-number-items.result.now in
    let k = c.loop-number.number-index in
    let class = get_or classes k 0 in
    let was = c.loop-number.invariant in
    record {
      long = c.in_ok-add_to_each.ensures.long ∙ was.long;
      each = λ x l.
          class_more i c.well_formed-2.ensures (list_at c.loop-number.lists x) (list_at c.add_to_each.new.lists x) c.deref.result.now (take k classes) (take (k + 1) classes) class x l
          (c.deref.ensures.value ∙ c.in_ok-members.ensures) (take_more classes k 0 c.loop-number-test.true) (was.each x l) (c.in_ok-add_to_each.ensures.each x (omega (arith, l, was.long)));
    }

pub returns : goal.returns
returns c =
    let i = c.args.interpretation.now in
    let classes = c.deref-number-items.result.now in
    let was = c.loop-number.invariant in
    let all = take_all c.loop-number.number-index classes c.loop-number-test.false in
    all_classes i c.well_formed-2.ensures c.loop-number.lists (take c.loop-number.number-index classes) was.long (all ∙ c.deref-number-items.ensures.value ∙ c.in_ok-classes.ensures) was.each
