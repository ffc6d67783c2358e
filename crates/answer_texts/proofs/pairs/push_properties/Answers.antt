use Rattle.answer_texts.specs.Pairs.{property_pairs}
use Rattle.answer_texts.proofs.More.{added, range_more}
use Rattle.answer_texts.proofs.pairs.push_properties.Goals as goal

pub loop-number-preserved : goal.loop-number-preserved
loop-number-preserved g c =
    let f = property_pairs g.P.PairText.pair c.args.ontology.now.names c.args.interpretation.now c.args.elements.now in
    added c.args.out.now.items c.loop-number.out.items c.push_property.new.out.items _ _ _ c.loop-number.invariant c.in_ok-push_property.ensures (range_more f c.loop-number.number)
