-- Tests of claims: axioms about individuals that were not there before, and the class in which one individual is, with them, exactly
-- where the claim holds in every finite interpretation.
use Rattle.std.specs.Prelude.{◌≡◌, ◌↔◌, ℕ, ◌+◌, List, [], ◌∷◌, ◌++◌, length}
use Rattle.axioms.specs.Expression.{Iri}
use Rattle.axioms.specs.Ontology.{Ontology, Axiom, ClassAssertion, DifferentIndividuals, NegativePropertyAssertion, PropertyAssertion, SameIndividuals, axiom_trees, expression, individual_name, nothing}
use Rattle.axioms.specs.View.{prop_numbers}
use Rattle.axioms.specs.WellFormedness.{IsOntology}
use Rattle.entailment.specs.Claims.{IsClaimOf, IsEntailed}
use Rattle.entailment.specs.declared.claim.Claim.{Claim}
use Rattle.entailment.specs.declared.claim.Claim.TheVariants.{Below, Apart, Sources, Path, Loops, Member, Joined, Unjoined, One, Two}
use Rattle.interpretation_spec.specs.Interpretation.{IsMember}

-- ---- what is tested

-- how many individuals the test of a claim adds
abbrev pub added_individuals : Claim → ℕ
added_individuals (Below c d) = 1
added_individuals (Apart c d) = 1
added_individuals (Sources r c) = 2
added_individuals (Path rs s) = length rs.now + 1
added_individuals (Loops r) = 1
added_individuals claim = 0

-- a path along the properties, each step from one individual to the next by number
abbrev pub path_from : ℕ → List ℕ → List Axiom
path_from a [] = []
path_from a (r ∷ rs) = PropertyAssertion r a (a + 1) ∷ path_from (a + 1) rs

-- what is assumed of individuals, where the first that is added has that number
abbrev pub assumed : ℕ → Claim → List Axiom
assumed a (Below c d) = ClassAssertion c.0 a ∷ []
assumed a (Apart c d) = ClassAssertion c.0 a ∷ ClassAssertion d.0 a ∷ []
assumed a (Sources r c) = PropertyAssertion r.0 a (a + 1) ∷ []
assumed a (Path rs s) = path_from a (prop_numbers rs.now) ++ NegativePropertyAssertion s.0 a (a + length rs.now) ∷ []
assumed a (Loops r) = NegativePropertyAssertion r.0 a a ∷ []
assumed a (Member c b) = []
assumed a (Joined r b c) = NegativePropertyAssertion r.0 b.0 c.0 ∷ []
assumed a (Unjoined r b c) = PropertyAssertion r.0 b.0 c.0 ∷ []
assumed a (One b c) = DifferentIndividuals (b.0 ∷ c.0 ∷ []) ∷ []
assumed a (Two b c) = SameIndividuals (b.0 ∷ c.0 ∷ []) ∷ []

-- which individual is then in which class
abbrev pub tested_individual : ℕ → Claim → ℕ
tested_individual a (Member c b) = b.0
tested_individual a (Joined r b c) = b.0
tested_individual a (Unjoined r b c) = b.0
tested_individual a (One b c) = b.0
tested_individual a (Two b c) = b.0
tested_individual a claim = a

abbrev pub tested_class : Claim → ℕ
tested_class (Below c d) = d.0
tested_class (Sources r c) = c.0
tested_class (Member c b) = c.0
tested_class claim = nothing

-- ---- the ontology of a test

-- the ontology with more individuals, which come last
abbrev pub with_individuals : Ontology → List Iri → Ontology
with_individuals o names = record o { names = record o.names { individuals = o.names.individuals ++ names } }

-- the ontology with more axioms, which come last
abbrev pub with_axioms : Ontology → List Axiom → Ontology
with_axioms o axioms = record o { axioms = o.axioms ++ axioms }

-- the ontology in which a claim is tested: with so many individuals more, and with what is assumed of them
pub record IsTestOf (o : Ontology) (claim : Claim) (test : Ontology) : Type 0 where
  pub added : List Iri
  pub count : length added ≡ added_individuals claim
  pub is : test ≡ with_axioms (with_individuals o added) (assumed (length o.names.individuals) claim)

-- there the individual is in the class exactly where the claim holds in every finite interpretation of the axioms
abbrev pub TestsDecide : Type 0
TestsDecide =
    (o : Ontology) (claim : Claim) (test : Ontology) → IsOntology o → IsClaimOf o claim → IsTestOf o claim test → IsOntology test →
    IsMember (axiom_trees test) (individual_name test (tested_individual (length o.names.individuals) claim)) (expression test (tested_class claim)) ↔ IsEntailed o claim
