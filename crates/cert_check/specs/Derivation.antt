-- Derivations: lists of lines, each of which follows from lines before it.
use Rattle.std.specs.Prelude.{◌≡◌, ℕ, List, [], ◌∷◌, map, slice_get, take, Some, None}
use Rattle.std.specs.declared.option.Option.{Option}
use Rattle.axioms.specs.Ontology.{Ontology, Axiom}
use Rattle.axioms.specs.View.{at_number}
use Rattle.certificate.specs.Certificate.{Conclusion, Line}
use Rattle.certificate.specs.Writability.{IsLineOf}
use Rattle.cert_check.specs.Lines.{Follows}

abbrev pub prepended_list : {A : Type 0} → Option A → Option (List A) → Option (List A)
prepended_list (Some x) (Some xs) = Some (x ∷ xs)
prepended_list (Some x) None = None
prepended_list None xs = None

-- what has each of the numbers, counted from 1, where all are there
abbrev pub at_numbers : {A : Type 0} → List A → List ℕ → Option (List A)
at_numbers xs [] = Some []
at_numbers xs (n ∷ ns) = prepended_list (at_number xs n) (at_numbers xs ns)

-- the axiom of that number, where there is one
abbrev pub axiom_at : Ontology → Option ℕ → Option Axiom
axiom_at o None = None
axiom_at o (Some n) = at_number o.axioms n

-- the line names what the ontology has, and follows by its rule from lines before it
pub record IsDerived (o : Ontology) (before : List Line) (line : Line) : Type 0 where
  pub within : IsLineOf o line
  pub premises : List Conclusion
  pub premises_at : at_numbers (map (λ l. l.conclusion) before) line.premises ≡ Some premises
  pub follows : Follows o line.rule premises (axiom_at o line.axiom') line.conclusion

-- each line follows from lines before it
abbrev pub IsDerivation : Ontology → List Line → Type 0
IsDerivation o lines = (n : ℕ) (line : Line) → slice_get lines n ≡ Some line → IsDerived o (take n lines) line

-- some line has the conclusion
abbrev pub HasLine : List Line → Conclusion → Type 0
HasLine lines conclusion = (n : ℕ) × (line : Line) × (slice_get lines n ≡ Some line) × (line.conclusion ≡ conclusion)
