-- What is known when claims are tested, and why it is not told whether one follows.
use Rattle.std.specs.Prelude.{◌≡◌, ◌↔◌, ◌⊎◌, ◌+◌, ◌<◌, ◌∷◌, [], ℕ, Bool, true, List, Result, Ok, Err, drop, length}
use Rattle.std.specs.List.{All, flat_map}
use Rattle.axioms.specs.Growth.{most_names}
use Rattle.axioms.specs.Ontology.{Ontology, Axiom, axiom_tree, axiom_trees}
use Rattle.axioms.specs.declared.ids.ExprId.{ExprId}
use Rattle.axioms.specs.declared.ids.IndId.{IndId}
use Rattle.engine.specs.Saturations.{HasMoreFactsThan, IsFinished, IsSound, IsUnasked, as_ended}
use Rattle.entailment.specs.Claims.{IsClaimOf, claimed}
use Rattle.entailment.specs.Entailment.{Follows}
use Rattle.entailment.specs.FactCounts.{HasNoMoreFactsThan}
use Rattle.entailment.specs.Parts.{parts_of}
use Rattle.entailment.specs.Tests.{IsTestOf, added_individuals, tested_class}
use Rattle.entailment.specs.declared.claim.Claim.{Claim}
use Rattle.entailment.specs.declared.fault.TestFault.{TestFault}
use Rattle.entailment.specs.declared.fault.TestFault.TheVariants.{Limit, TooManyNames, Memory}
use Rattle.entailment.specs.declared.tester.Tester.{Tester}
use Rattle.facts.specs.declared.contexts.Context.TheVariants as contexts
use Rattle.facts.specs.declared.contexts.Fact.{Fact}
use Rattle.facts.specs.declared.contexts.Fact.TheVariants.{In}
use Rattle.normal_forms.specs.declared.forms.Class2.TheVariants.{Expr}
use Rattle.normalise.specs.Growth.{Grows}
use Rattle.normalise.specs.Roots.{KeepsNames}

-- all that the known axioms lead to is there, with nothing asked about; and the ontology that claims are about has these axioms alone, and
-- more names and expressions behind those that are known
pub record IsReady (t : Tester) : Type 0 where
  pub sound : IsSound t.known.now t.saturation.now
  pub finished : IsFinished t.saturation.now
  pub unasked : IsUnasked (as_ended t.saturation.now)
  pub grows : Grows t.known.now t.about.now (length t.known.now.axioms)
  pub names : KeepsNames t.known.now t.about.now

-- what is stated with the known axioms alone
abbrev pub with_axioms_of : (known stated : Ontology) → Ontology
with_axioms_of known stated = record stated { axioms = known.axioms }

-- the fact that puts the individual into the expression
abbrev pub puts : IndId → ExprId → Fact
puts individual class = In (Expr class) (contexts.Individual individual)

-- ---- which tests are made

-- the axiom follows
abbrev pub IsFollowing : Ontology → Axiom → Type 0
IsFollowing o part = Follows (axiom_trees o) (axiom_tree o part)

-- parts are tested one after the other, up to the first that does not follow: this one is the first, or the first follows and it is
-- tested of the later ones
abbrev pub IsTested : Ontology → (parts : List Axiom) → Axiom → Type 0
IsTested o [] part = ⊥
IsTested o (first ∷ later) part = (part ≡ first) ⊎ (IsFollowing o first × IsTested o later part)

-- the ontology in which a part is tested, and the class that is asked about there
pub record IsTestFor (o : Ontology) (part : Axiom) (test : Ontology) (class : ℕ) : Type 0 where
  pub claim : Claim
  pub there : IsClaimOf o claim
  pub says : claimed claim ≡ part
  pub test_is : IsTestOf o claim test
  pub class_is : tested_class claim ≡ class

-- the closure of the part's test has at most n facts
abbrev pub HasFewInTest : Ontology → Axiom → ℕ → Type 0
HasFewInTest o part n = (test : Ontology) × (class : ℕ) × IsTestFor o part test class × HasNoMoreFactsThan test (class ∷ []) n

-- it has more
abbrev pub HasMoreInTest : Ontology → Axiom → ℕ → Type 0
HasMoreInTest o part n = (test : Ontology) × (class : ℕ) × IsTestFor o part test class × HasMoreFactsThan test (class ∷ []) n

-- with the individuals of the part's test there would be more than there may be
abbrev pub HasTooManyNames : Ontology → Axiom → Type 0
HasTooManyNames o part = (claim : Claim) × IsClaimOf o claim × (claimed claim ≡ part) × (most_names < length o.names.individuals + added_individuals claim)

-- ---- what is told

-- the closure of each test that is made has at most n facts
abbrev pub AreFewInTests : Ontology → (parts : List Axiom) → ℕ → Type 0
AreFewInTests o parts n = (part : Axiom) → IsTested o parts part → HasFewInTest o part n

-- that of a test that is made has more; or with its individuals there are too many; or memory was refused
abbrev pub IsUntold : Ontology → (parts : List Axiom) → (max_facts : ℕ) → TestFault → Type 0
IsUntold o parts max_facts Limit = (part : Axiom) × IsTested o parts part × HasMoreInTest o part max_facts
IsUntold o parts max_facts TooManyNames = (part : Axiom) × IsTested o parts part × HasTooManyNames o part
IsUntold o parts max_facts Memory = Unit {0}

-- whether all parts follow, by tests within the limit; or why it is not told
abbrev pub IsTold : Ontology → (parts : List Axiom) → (max_facts : ℕ) → Result Bool TestFault → Type 0
IsTold o parts max_facts (Ok b) = ((b ≡ true) ↔ All (IsFollowing o) parts) × AreFewInTests o parts max_facts
IsTold o parts max_facts (Err fault) = IsUntold o parts max_facts fault

-- ---- what is stated

-- what the axioms say that are stated behind the known ones
abbrev pub stated_parts : (known stated : Ontology) → List Axiom
stated_parts known stated = flat_map parts_of (drop (length known.axioms) stated.axioms)

-- the closure of each test that is made of what is stated has at most n facts
abbrev pub IsWithinLimit : (known stated : Ontology) → ℕ → Type 0
IsWithinLimit known stated n = AreFewInTests (with_axioms_of known stated) (stated_parts known stated) n

-- why it is not told of what is stated
abbrev pub IsUntoldFor : (known stated : Ontology) → (max_facts : ℕ) → TestFault → Type 0
IsUntoldFor known stated max_facts fault = IsUntold (with_axioms_of known stated) (stated_parts known stated) max_facts fault
