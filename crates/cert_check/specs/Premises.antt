-- How many premises the rules take.
use Rattle.std.specs.Prelude.{ℕ, ◌≤◌, List, length, slice_get, IfSome, Option, Some}
use Rattle.std.specs.List.{All, Contains}
use Rattle.axioms.specs.Ontology.{Ontology, Node, And, Axiom, SubProperty}
use Rattle.certificate.specs.Certificate.{Conclusion}
use Rattle.certificate.specs.declared.line.Rule.{Rule}
use Rattle.cert_check.specs.Lines.{Follows}

-- how many operands an intersection has; of all else, none
abbrev pub operand_count : Option Node → ℕ
operand_count (Some (And operands)) = length operands
operand_count _ = 0

-- how many properties the chain of a subproperty axiom has; of all else, none
abbrev pub chain_length : Axiom → ℕ
chain_length (SubProperty chain super) = length chain
chain_length _ = 0

-- no intersection has more operands
abbrev pub OperandsAreAtMost : Ontology → ℕ → Type 0
OperandsAreAtMost o most = (c : ℕ) → operand_count (slice_get o.nodes c) ≤ most

-- no chain is longer
abbrev pub ChainsAreAtMost : Ontology → ℕ → Type 0
ChainsAreAtMost o most = All (λ a. chain_length a ≤ most) o.axioms

-- by no rule, with an axiom of the ontology or none, does a conclusion follow from more premises
abbrev pub RulesTakeAtMost : Ontology → ℕ → Type 0
RulesTakeAtMost o most =
    (rule : Rule) (premises : List Conclusion) (axiom' : Option Axiom) (conclusion : Conclusion) →
    IfSome axiom' (Contains o.axioms) → Follows o rule premises axiom' conclusion → length premises ≤ most
