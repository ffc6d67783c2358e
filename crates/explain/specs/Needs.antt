-- Derivations without a line that nothing needs.
use Rattle.std.specs.Prelude.{◌≡◌, ℕ, ◌⊎◌, List, slice_get, Some}
use Rattle.std.specs.List.{All}
use Rattle.axioms.specs.Ontology.{Ontology, nothing}
use Rattle.certificate.specs.Certificate.{Conclusion, Subject, Sub, Line}
use Rattle.cert_check.specs.Acceptance.{IsTop}
use Rattle.cert_check.specs.Derivation.{IsDerivation}
use Rattle.certificate.specs.Writability.{IsLineOf}
use Rattle.closure.specs.Closure.{Context, Expression, IsRoot}
use Rattle.exactness.specs.Derivability.{subject_of}
use Rattle.exactness.specs.Trimming.{EndsWith, EachServes}
use Rattle.explain.specs.Uses.{IsPremise}

-- the conclusion puts a named class, an individual or an expression that is asked about below a named class or such an expression
pub record IsWanted (o : Ontology) (asked : List ℕ) (conclusion : Conclusion) : Type 0 where
  pub context : Context
  pub root : IsRoot o asked context
  pub class : ℕ
  pub class_root : IsRoot o asked (Expression class)
  pub says : conclusion ≡ Sub (subject_of context) class

-- each line says what is wanted, or is a premise of a later one
abbrev pub EachIsNeeded : Ontology → List ℕ → List Line → Type 0
EachIsNeeded o asked lines = (n : ℕ) (line : Line) → slice_get lines n ≡ Some line → IsWanted o asked line.conclusion ⊎ IsPremise lines n

-- a derivation from the axioms that ends in the conclusion, in which each other line is a premise of a later one
pub record Derives (o : Ontology) (conclusion : Conclusion) (lines : List Line) : Type 0 where
  pub derivation : IsDerivation o lines
  pub ends : EndsWith lines conclusion
  pub serves : EachServes lines
  -- a text can be written
  pub text : All (IsLineOf o) lines

-- the lines derive that all things or an individual are in owl:Nothing
abbrev pub DerivesContradiction : Ontology → List Line → Type 0
DerivesContradiction o lines = (subject : Subject) × IsTop subject × Derives o (Sub subject nothing) lines
