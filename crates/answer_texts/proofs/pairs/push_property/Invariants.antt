use Rattle.std.proofs.Common.{◌≡◌, ◌++◌, take}
use Rattle.std.specs.List.{flat_map}
use Rattle.answer_texts.specs.Pairs.{source_pairs}
use Rattle.answer_texts.proofs.pairs.push_property.Given as goal

abbrev pub invariant-loop-source : goal.invariant-loop-source
invariant-loop-source g l = l.out.items ≡ l.fn.out.items ++ flat_map (source_pairs g.P.PairText.pair l.ontology.names l.interpretation l.property.0) (take l.source-index l.elements)
