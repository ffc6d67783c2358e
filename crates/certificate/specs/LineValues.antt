-- What single lines of a certificate's text say.
use Rattle.std.specs.Prelude.{◌≡◌, ℕ, List, Bool, true, false, Option, Some, None}
use Rattle.axioms.specs.Ontology.{Ontology}
use Rattle.certificate.specs.Certificate.{Listed, Format}
use Rattle.certificate.specs.Tests.{fits_domain}
use Rattle.certificate.specs.Text.{first_text}
use Rattle.certificate.specs.TextLines.{TextLine, DomainLine, text_of, follows_in, with_row}

-- the bytes are a first line of that format and kind, or none
abbrev pub IsFirstLine : List ℕ → Option (Format × Bool) → Type 0
IsFirstLine bytes (Some first) = first_text first.0 first.1 ≡ bytes
IsFirstLine bytes None = (format : Format) (is_consistent : Bool) → first_text format is_consistent ≡ bytes → ⊥

-- the bytes are the line of that domain, or of none
abbrev pub IsDomainLine : List ℕ → Option ℕ → Type 0
IsDomainLine bytes (Some domain) = (text_of (DomainLine domain) ≡ bytes) × (fits_domain domain ≡ true)
IsDomainLine bytes None = (domain : ℕ) → text_of (DomainLine domain) ≡ bytes → fits_domain domain ≡ true → ⊥

-- the bytes are a row that may follow those of the old interpretation, and the new one has it too; or they are none
abbrev pub TakesRow : Ontology → Format → (old : Listed) → List ℕ → Bool → (new : Listed) → Type 0
TakesRow o format old bytes true new = (row : TextLine) × (text_of row ≡ bytes) × (follows_in o format old row ≡ true) × (new ≡ with_row old row)
TakesRow o format old bytes false new = ((row : TextLine) → text_of row ≡ bytes → follows_in o format old row ≡ true → ⊥) × (new ≡ old)
