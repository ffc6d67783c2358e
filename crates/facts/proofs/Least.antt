-- The closure is the least set under its conditions.
use Rattle.std.proofs.Common.{ℕ, List, [], ◌∷◌, Option, All}
use Rattle.std.proofs.lemmas.List.Elements.{All-nil, All-cons, All-head, All-tail}
use Rattle.facts.specs.declared.contexts.Fact.{Fact}
use Rattle.facts.specs.Closure.{Problem, Gives, IsFact, AreFacts, given, none, more}

are_facts : {k : Problem} (facts : List Fact) → All (IsFact k) facts → AreFacts k facts
are_facts [] h = none
are_facts {k} (f ∷ fs) h = more (All-head (IsFact k) f fs h) (are_facts fs (All-tail (IsFact k) f fs h))

pub closed : (k : Problem) (condition : ℕ) (form : Option ℕ) (older : List Fact) (f : Fact) → Gives k condition form older f → All (IsFact k) older → IsFact k f
closed k condition form older f g h = given condition form older g (are_facts older h)

mutual
  pub least : (k : Problem) (S : Fact → Type 0) → ((condition : ℕ) (form : Option ℕ) (older : List Fact) (f : Fact) → Gives k condition form older f → All S older → S f) → (f : Fact) → IsFact k f → S f
  least k S h f (given condition form older g fs) = h condition form older f g (least_all k S h older fs)

  least_all : (k : Problem) (S : Fact → Type 0) → ((condition : ℕ) (form : Option ℕ) (older : List Fact) (f : Fact) → Gives k condition form older f → All S older → S f) → (facts : List Fact) → AreFacts k facts → All S facts
  least_all k S h facts none = All-nil S
  least_all k S h facts (more {f = f} {facts = fs} p ps) = All-cons S f fs (least k S h f p) (least_all k S h fs ps)
