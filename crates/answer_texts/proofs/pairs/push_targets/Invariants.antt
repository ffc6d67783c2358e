use Rattle.std.proofs.Common.{◌≡◌, ◌++◌, take, map}
use Rattle.std.specs.List.{flat_map}
use Rattle.std.specs.String.{string_bytes}
use Rattle.axioms.specs.Ontology.{name_at}
use Rattle.answer_texts.proofs.pairs.push_targets.Given as goal

abbrev pub invariant-loop-target : goal.invariant-loop-target
invariant-loop-target g l = l.out.items ≡ l.fn.out.items ++ flat_map (g.P.PairText.pair (name_at (map string_bytes l.properties) l.property) l.source) (take l.target-index l.targets)
