-- A closure has one number of facts.
use Rattle.std.proofs.Common.{◌≡◌, ℕ, List, arith}
use Rattle.axioms.specs.Ontology.{Ontology}
use Rattle.classification.specs.Classifications.{HasFacts}
use Rattle.engine.proofs.Counting.{at_most}

pub one_number : (o : Ontology) (asked : List ℕ) (m n : ℕ) → HasFacts o asked m → HasFacts o asked n → m ≡ n
one_number o asked m n h k =
    let few = at_most h.facts k.facts h.distinct (λ g there. (k.exact g).1 ((h.exact g).0 there)) in
    let many = at_most k.facts h.facts k.distinct (λ g there. (h.exact g).1 ((k.exact g).0 there)) in
    omega (arith, few, many, h.many, k.many)
