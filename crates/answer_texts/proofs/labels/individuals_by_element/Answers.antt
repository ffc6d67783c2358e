use Rattle.std.proofs.Common.{◌<◌, ◌++◌, ◌∷◌, [], length, ap, ◌∙◌, arith}
use Rattle.std.proofs.lemmas.List.{length-set}
use Rattle.number_sets.specs.Pieces.{list_at}
use Rattle.answer_texts.proofs.Labelling.{individual_more}
use Rattle.answer_texts.proofs.labels.individuals_by_element.Goals as goal

pub loop-number-preserved : goal.loop-number-preserved
loop-number-preserved c =
    let xs = c.args.interpretation.now.individuals in
    let n = c.loop-number.number in
    let old = c.loop-number.lists in
    let e = c.element_at-element.result in
    let was = c.loop-number.invariant in
    let low : n < length xs = omega (arith, c.requires.individuals, c.loop-number-test.true, c.individuals-number-end.ensures.count) in
    let there : e < length old = omega (arith, c.element_at-element.ensures.inside, was.long) in
    record {
      long = ap length c.in_ok-push.ensures.ok ∙ length-set old e (list_at old e ++ n ∷ []) ∙ was.long;
      each = individual_more old c.push.new.self xs e n low c.element_at-element.ensures.value there c.in_ok-push.ensures.ok was.each;
    }
