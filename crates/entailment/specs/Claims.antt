-- What axioms say of two or three things at a time.
use Rattle.std.specs.Prelude.{ℕ, ◌<◌, ◌≤◌, ◌∷◌, [], length, map}
use Rattle.std.specs.List.{All}
use Rattle.axioms.specs.Ontology.{Ontology, Axiom, DisjointClasses, SameIndividuals, DifferentIndividuals, SubClass, SubProperty, Domain, Reflexive, ClassAssertion, PropertyAssertion, NegativePropertyAssertion, axiom_trees, expression, individual_name, property_name}
use Rattle.axioms.specs.View.{prop_numbers}
use Rattle.axioms.specs.WellFormedness.{AreOperands}
use Rattle.entailment.specs.declared.claim.Claim.{Claim}
use Rattle.entailment.specs.declared.claim.Claim.TheVariants.{Below, Apart, Sources, Path, Loops, Member, Joined, Unjoined, One, Two}
use Rattle.interpretation_spec.specs.Interpretation.{HasPair, Interpretation, IsApart, IsIn, IsModel, IsOtherElement, IsSameElement, IsSubProperty, IsWithin}

-- the claim holds in the interpretation
abbrev pub Holds : Ontology → Interpretation → Claim → Type 0
Holds o i (Below c d) = IsWithin i (expression o c.0) (expression o d.0)
Holds o i (Apart c d) = IsApart i (expression o c.0) (expression o d.0)
Holds o i (Sources r c) = (x : ℕ) → x < i.size → (y : ℕ) → y < i.size → HasPair i (property_name o r.0) x y → IsIn i (expression o c.0) x
Holds o i (Path rs s) = IsSubProperty i (map (property_name o) (prop_numbers rs.now)) (property_name o s.0)
Holds o i (Loops r) = (x : ℕ) → x < i.size → HasPair i (property_name o r.0) x x
Holds o i (Member c a) = IsIn i (expression o c.0) (i.individual (individual_name o a.0))
Holds o i (Joined r a b) = HasPair i (property_name o r.0) (i.individual (individual_name o a.0)) (i.individual (individual_name o b.0))
Holds o i (Unjoined r a b) = HasPair i (property_name o r.0) (i.individual (individual_name o a.0)) (i.individual (individual_name o b.0)) → ⊥
Holds o i (One a b) = IsSameElement i (individual_name o a.0) (individual_name o b.0)
Holds o i (Two a b) = IsOtherElement i (individual_name o a.0) (individual_name o b.0)

-- the axiom that says it
abbrev pub claimed : Claim → Axiom
claimed (Below c d) = SubClass c.0 d.0
claimed (Apart c d) = DisjointClasses (c.0 ∷ d.0 ∷ [])
claimed (Sources r c) = Domain r.0 c.0
claimed (Path rs s) = SubProperty (prop_numbers rs.now) s.0
claimed (Loops r) = Reflexive r.0
claimed (Member c a) = ClassAssertion c.0 a.0
claimed (Joined r a b) = PropertyAssertion r.0 a.0 b.0
claimed (Unjoined r a b) = NegativePropertyAssertion r.0 a.0 b.0
claimed (One a b) = SameIndividuals (a.0 ∷ b.0 ∷ [])
claimed (Two a b) = DifferentIndividuals (a.0 ∷ b.0 ∷ [])

-- it holds in every finite interpretation of the axioms
abbrev pub IsEntailed : Ontology → Claim → Type 0
IsEntailed o claim = (i : Interpretation) → IsModel i (axiom_trees o) → Holds o i claim

-- what it is about is there
abbrev pub IsClaimOf : Ontology → Claim → Type 0
IsClaimOf o (Below c d) = (c.0 < length o.nodes) × (d.0 < length o.nodes)
IsClaimOf o (Apart c d) = (c.0 < length o.nodes) × (d.0 < length o.nodes)
IsClaimOf o (Sources r c) = (r.0 < length o.names.properties) × (c.0 < length o.nodes)
IsClaimOf o (Path rs s) = (1 ≤ length rs.now) × All (λ r. r < length o.names.properties) (prop_numbers rs.now) × (s.0 < length o.names.properties)
IsClaimOf o (Loops r) = r.0 < length o.names.properties
IsClaimOf o (Member c a) = (c.0 < length o.nodes) × (a.0 < length o.names.individuals)
IsClaimOf o (Joined r a b) = (r.0 < length o.names.properties) × (a.0 < length o.names.individuals) × (b.0 < length o.names.individuals)
IsClaimOf o (Unjoined r a b) = (r.0 < length o.names.properties) × (a.0 < length o.names.individuals) × (b.0 < length o.names.individuals)
IsClaimOf o (One a b) = AreOperands (length o.names.individuals) (a.0 ∷ b.0 ∷ [])
IsClaimOf o (Two a b) = AreOperands (length o.names.individuals) (a.0 ∷ b.0 ∷ [])
