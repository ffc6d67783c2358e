use Rattle.std.proofs.Common.{◌≡◌, ◌++◌}
use Rattle.std.specs.List.{flat_map, range_with_len}
use Rattle.answer_texts.specs.Pairs.{property_pairs}
use Rattle.answer_texts.proofs.pairs.push_properties.Given as goal

abbrev pub invariant-loop-number : goal.invariant-loop-number
invariant-loop-number g l = l.out.items ≡ l.fn.out.items ++ flat_map (property_pairs g.P.PairText.pair l.ontology.names l.interpretation l.elements) (range_with_len 0 l.number)
