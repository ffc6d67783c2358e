use Rattle.std.proofs.Common.{◌≡◌, map, take}
use Rattle.std.specs.List.{All}
use Rattle.std.specs.String.{string_bytes}
use Rattle.axioms.specs.Ontology.{name_at}
use Rattle.taxonomy.proofs.order.put_named.Given as goal

abbrev pub invariant-loop-n : goal.invariant-loop-n
invariant-loop-n l = record {
  numbers : map (λ p. p.1) l.pairs.items ≡ take l.n-index l.numbers;
  names : All (λ p. p.0.now ≡ name_at (map string_bytes l.names) p.1) l.pairs.items;
}
