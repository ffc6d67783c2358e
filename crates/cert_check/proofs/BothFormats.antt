-- Texts of one certificate are acceptable together.
use Rattle.std.proofs.Common.{List, ℕ, subst}
use Rattle.axioms.specs.Ontology.{Ontology}
use Rattle.certificate.specs.Certificate.{Certificate}
use Rattle.certificate.specs.Writability.{IsSomeTextOf}
use Rattle.certificate.proofs.Following.{same_some_certificate}
use Rattle.cert_check.specs.Acceptance.{IsAcceptable}
use Rattle.cert_check.specs.Soundness.{AcceptableInBothFormats}

acceptable_too : (o : Ontology) (t i text other : List ℕ) (c : Certificate) → IsSomeTextOf o text c → IsSomeTextOf o other c → IsAcceptable o t i text → IsAcceptable o t i other
acceptable_too o t i text other c is other_is a = record {
  certificate = a.certificate;
  text_is = subst (IsSomeTextOf o other) (same_some_certificate o text c a.certificate is a.text_is) other_is;
  derivation = a.derivation;
  shows = a.shows;
}

pub acceptable_in_both : AcceptableInBothFormats
acceptable_in_both o t i text other c is other_is = (acceptable_too o t i text other c is other_is, acceptable_too o t i other text c other_is is)
