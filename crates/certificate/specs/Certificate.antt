-- Certificates: derivation lines, each by one of the twenty rules, and the interpretation that one of a consistent ontology lists.
-- Expressions, properties, individuals, axioms and elements stand as their numbers.
use Rattle.std.specs.Prelude.{ℕ, List}
use Rattle.std.specs.declared.option.Option.{Option}
pub use Rattle.certificate.specs.declared.format.Format.{Format}
pub use Rattle.certificate.specs.declared.format.Format.TheVariants.{One, Two}
pub use Rattle.certificate.specs.declared.line.Rule.{Rule}
pub use Rattle.certificate.specs.declared.line.Rule.TheVariants.{K1, K2, K3, K4, K5, K6, K7, K8, K9, K10, K11, K12, K13, K14, K15, K16, K17, K18, K19, K20}

-- an expression or an individual
pub data Subject : Type 0 where
  Expression : (expression : ℕ) → Subject
  Individual : (individual : ℕ) → Subject

-- the subject lies in the class; or each element of the source has a pair of the property into the target; or the two individuals have
-- one element
pub data Conclusion : Type 0 where
  Sub : (subject : Subject) (class : ℕ) → Conclusion
  Edge : (source : Subject) (property : ℕ) (target : Subject) → Conclusion
  Same : (first second : ℕ) → Conclusion

-- what a line speaks of: the subject, the start of an edge, or the first of two that are one
abbrev pub source_of : Conclusion → Subject
source_of (Sub x c) = x
source_of (Edge x r y) = x
source_of (Same a b) = Individual a

-- a conclusion by a rule, from an axiom or none and from earlier lines, counted from 1
pub record Line : Type 0 where
  pub conclusion : Conclusion
  pub rule : Rule
  pub axiom' : Option ℕ
  pub premises : List ℕ

-- an interpretation by its members, and for each satisfiable class an element that is in it
pub record Listed : Type 0 where
  -- how many elements there are
  pub domain : ℕ
  -- a class and its elements
  pub classes : List (ℕ × List ℕ)
  -- a property, an element, and the elements that it leads to
  pub pairs : List (ℕ × ℕ × List ℕ)
  -- the element of each individual
  pub individuals : List ℕ
  -- a class and the element claimed to be in it
  pub claims : List (ℕ × ℕ)

-- it is of a consistent ontology where an interpretation is listed
pub record Certificate : Type 0 where
  pub lines : List Line
  pub listed : Option Listed
