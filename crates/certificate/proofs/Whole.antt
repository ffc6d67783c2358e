-- What a whole certificate's lines and rows have to be.
use Rattle.std.proofs.Common.{◌≡◌, ℕ, true, ◌++◌, length, Option, None, refl}
use Rattle.std.specs.Prelude.{codes, IfSome}
use Rattle.std.specs.Fmt.{decimal}
use Rattle.axioms.specs.Ontology.{Ontology}
use Rattle.certificate.specs.Certificate.{Line, Listed, Certificate}
use Rattle.certificate.specs.Text.{lettered_number, line_feed}
use Rattle.certificate.specs.LineReading.{small_at}
use Rattle.certificate.specs.Tests.{fits_line, fits_domain}
use Rattle.certificate.specs.ListedReading.{domain_at}
use Rattle.certificate.proofs.Laws.{Reads, Anything, behind_reads, such_reads, ended_reads}
use Rattle.certificate.proofs.Many.{Chain}
use Rattle.certificate.proofs.Derivations.{IsSmall, small_reads, FitsLine}
use Rattle.certificate.proofs.RowLaws.{FitsClassAfter, FitsPairsAfter, FitsClaimAfter, AreElementsOfAll}

-- ---- lines

abbrev pub FitsLineOf : Ontology → Option Line → Line → Type 0
FitsLineOf o last line = FitsLine line × (fits_line o line ≡ true)

-- ---- the listed part

abbrev pub IsDomain : ℕ → Type 0
IsDomain d = IsSmall d × (fits_domain d ≡ true)

pub domain_reads : Reads Anything IsDomain (λ d. lettered_number (codes "domain ") d ++ line_feed) domain_at
unfolding domain_at
domain_reads =
    such_reads Anything IsSmall _ _ fits_domain
    (ended_reads _ IsSmall (lettered_number (codes "domain ")) _ line_feed (behind_reads _ IsSmall decimal small_at (codes "domain ") small_reads) (λ rest. refl))

-- the numbers fit the types and the ontology
pub record FitsListed (o : Ontology) (l : Listed) : Type 0 where
  pub domain : IsDomain l.domain
  pub classes : Chain (FitsClassAfter o l.domain) None l.classes
  pub pairs : Chain (FitsPairsAfter o l.domain) None l.pairs
  pub individuals : AreElementsOfAll l.domain 0 (length o.names.individuals) l.individuals
  pub claims : Chain (FitsClaimAfter o l.domain) None l.claims

-- ---- certificates

pub record FitsCertificate (o : Ontology) (c : Certificate) : Type 0 where
  pub lines : Chain (FitsLineOf o) None c.lines
  pub listed : IfSome c.listed (FitsListed o)
