-- The text of a certificate of lines and of what a closure lists.
use Rattle.std.specs.Prelude.{◌≡◌, ℕ, ◌<◌, ◌^◌, List, Some}
use Rattle.std.specs.List.{All}
use Rattle.axioms.specs.Ontology.{Ontology}
use Rattle.certificate.specs.Certificate.{Line, Listed}
use Rattle.certificate.specs.declared.format.Format.{Format}
use Rattle.certificate.specs.Writability.{IsListedOf, listed_numbers}
use Rattle.certificate.specs.Text.{certificate_text}
use Rattle.exactness.specs.Acceptance.{IsListedFor}

-- the text in the format is that of the lines and of the interpretation that the closure lists, of which a certificate can be written
pub record IsTextWithListed (o : Ontology) (asked : List ℕ) (format : Format) (lines : List Line) (text : List ℕ) : Type 0 where
  pub listed : Listed
  pub spelled : text ≡ certificate_text format (record { lines = lines; listed = Some listed })
  pub is_listed : IsListedFor o asked listed
  pub within : IsListedOf o listed
  pub numbers : All (λ n. n < 2 ^ 32) (listed_numbers (Some listed))
