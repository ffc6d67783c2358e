-- Premises of a derivation stand before.
use Rattle.std.proofs.Common.{◌≡◌, ℕ, zero, suc, ◌<◌, ◌≤◌, List, length, Some, arith}
use Rattle.axioms.specs.Ontology.{Ontology}
use Rattle.axioms.specs.View.{at_number}
use Rattle.certificate.specs.Certificate.{Line}
use Rattle.cert_check.specs.Derivation.{IsDerivation}
use Rattle.exactness.proofs.Trimmed.{premise_before}
use Rattle.lemmas.proofs.Places.{slice_get_there}
use Rattle.explain.specs.LineMarks.{ArePremisesBefore}

pub premises_before : (o : Ontology) (lines : List Line) → IsDerivation o lines → ArePremisesBefore lines
premises_before o lines d n m line e c =
    let p = premise_before lines d (suc n) m line e c in
    (p.1, omega (arith, p.2))

-- a number of a line names it
pub line_there : (lines : List Line) (n : ℕ) → 0 < n → n ≤ length lines → (line : Line) × (at_number lines n ≡ Some line)
line_there lines zero l h = absurd (omega arith)
line_there lines (suc n) l h = slice_get_there lines n (omega arith)
