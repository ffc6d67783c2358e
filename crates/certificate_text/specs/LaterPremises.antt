-- Which premise keeps a certificate from being written in format 2.
use Rattle.std.specs.Prelude.{◌≡◌, ℕ, ◌-◌, ◌<◌, List, take, Some}
use Rattle.std.specs.List.{All}
use Rattle.axioms.specs.View.{at_number}
use Rattle.certificate.specs.Certificate.{Line}
use Rattle.certificate.specs.declared.format.Format.{Format}
use Rattle.certificate.specs.declared.format.Format.TheVariants.{Two}
use Rattle.certificate.specs.Writability.{AreEarlier, HasNumbers}
use Rattle.certificate_text.specs.declared.fault.CertWriteFault.{CertWriteFault}
use Rattle.certificate_text.specs.declared.fault.CertWriteFault.TheVariants as write_faults

-- the line of that number is the first with a premise that is no line before it
pub record IsFirstLater (lines : List Line) (number : ℕ) : Type 0 where
  pub others : AreEarlier 1 (take (number - 1) lines)
  pub line : Line
  pub there : at_number lines number ≡ Some line
  pub later : All (λ p. p < number) line.premises → ⊥

-- the format has no numbers for the premises: the line of that number is the first with one that is not earlier; by any other fault
-- it has them
abbrev pub IsLater : Format → List Line → CertWriteFault → Type 0
IsLater format lines (write_faults.LaterPremise line) = (format ≡ Two) × IsFirstLater lines line
IsLater format lines _ = HasNumbers format lines
