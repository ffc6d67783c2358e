-- The closure is the least set under its conditions.
use Rattle.std.proofs.Common.{ℕ, List, [], ◌∷◌, All}
use Rattle.std.proofs.lemmas.List.Elements.{All-nil, All-cons, All-head, All-tail}
use Rattle.axioms.specs.Ontology.{Ontology}
use Rattle.closure.specs.Closure.{Fact, Gives, IsFact, AreFacts, given, none, more}

are_facts : {o : Ontology} {asked : List ℕ} (facts : List Fact) → All (IsFact o asked) facts → AreFacts o asked facts
are_facts [] h = none
are_facts {o} {asked} (f ∷ fs) h = more (All-head (IsFact o asked) f fs h) (are_facts fs (All-tail (IsFact o asked) f fs h))

pub closed : (o : Ontology) (asked : List ℕ) (older : List Fact) (fact : Fact) → Gives o asked older fact → All (IsFact o asked) older → IsFact o asked fact
closed o asked older fact g h = given older g (are_facts older h)

mutual
  pub least : (o : Ontology) (asked : List ℕ) (S : Fact → Type 0) → ((older : List Fact) (fact : Fact) → Gives o asked older fact → All S older → S fact) → (fact : Fact) → IsFact o asked fact → S fact
  least o asked S h fact (given older g fs) = h older fact g (least_all o asked S h older fs)

  least_all : (o : Ontology) (asked : List ℕ) (S : Fact → Type 0) → ((older : List Fact) (fact : Fact) → Gives o asked older fact → All S older → S fact) → (facts : List Fact) → AreFacts o asked facts → All S facts
  least_all o asked S h facts none = All-nil S
  least_all o asked S h facts (more {fact = f} {facts = fs} p ps) = All-cons S f fs (least o asked S h f p) (least_all o asked S h fs ps)
