-- Walks into owl:Nothing.
use Rattle.std.specs.Prelude.{◌≡◌, ℕ, List, map, Some}
use Rattle.axioms.specs.Ontology.{nothing}
use Rattle.axioms.specs.View.{at_number}
use Rattle.certificate.specs.Certificate.{Subject, Conclusion, Sub, Line}
use Rattle.cert_check.specs.Derivation.{at_numbers}
use Rattle.cert_check.specs.Lines.{IsWalk}

-- the lines of these numbers are a walk from the subject, and the line of number end puts its target into owl:Nothing
pub record LeadsToNothing (lines : List Line) (walk : List ℕ) (end : ℕ) (x : Subject) : Type 0 where
  pub target : Subject
  pub steps : List ℕ
  pub edges : List Conclusion
  pub at : at_numbers (map (λ l. l.conclusion) lines) walk ≡ Some edges
  pub is_walk : IsWalk x steps target edges
  pub at_end : at_number (map (λ l. l.conclusion) lines) end ≡ Some (Sub target nothing)

-- the line of number n of the new lines puts the subject into owl:Nothing, from which the walk in the old ones leads there
abbrev pub PutsIntoNothing : (old new : List Line) → (walk : List ℕ) → (end n : ℕ) → Type 0
PutsIntoNothing old new walk end n = (x : Subject) → LeadsToNothing old walk end x → at_number (map (λ l. l.conclusion) new) n ≡ Some (Sub x nothing)
