-- What converting the text of a certificate to a format answers.
use Rattle.std.specs.Prelude.{◌≡◌, ℕ, List}
use Rattle.std.specs.Io.KnownBytes.{Appends}
use Rattle.std.specs.declared.option.Option.{Option}
use Rattle.axioms.specs.Ontology.{Ontology}
use Rattle.device.specs.Device.{AppendsPrefix}
use Rattle.certificate.specs.Certificate.{Certificate}
use Rattle.certificate.specs.declared.format.Format.{Format}
use Rattle.certificate.specs.declared.format.Format.TheVariants.{Two}
use Rattle.certificate.specs.Prefixes.{IsNoText}
use Rattle.certificate.specs.Writability.{IsSomeTextOf, IsTextOf}
use Rattle.certificate.specs.declared.fault.CertFault.{CertFault}
use Rattle.certificate.specs.declared.fault.CertFault.TheVariants as read
use Rattle.certificate_text.specs.LaterPremises.{IsFirstLater}
use Rattle.certificate_text.specs.declared.fault.CertWriteFault.{CertWriteFault}
use Rattle.certificate_text.specs.declared.fault.CertWriteFault.TheVariants as write
use Rattle.certificate_text.specs.declared.conversion.ConvertFault.{ConvertFault}
use Rattle.certificate_text.specs.declared.conversion.ConvertFault.TheVariants.{BadText, Io, LaterPremise, Memory}

-- the text is that of a certificate in some format, and the other is that of the same certificate in this format
pub record IsConversion (o : Ontology) (text : List ℕ) (format : Format) (other : List ℕ) : Type 0 where
  pub certificate : Certificate
  pub text_is : IsSomeTextOf o text certificate
  pub other_is : IsTextOf o format other certificate

-- the text is converted to the format, and the sink took that
abbrev pub IsConverted : Ontology → List ℕ → Format → (taken_old taken_new : Option (List ℕ)) → Type 0
IsConverted o text format old new = (other : List ℕ) × IsConversion o text format other × Appends old new other

-- .. the sink took a beginning of that
abbrev pub IsBegun : Ontology → List ℕ → Format → (taken_old taken_new : Option (List ℕ)) → Type 0
IsBegun o text format old new = (other : List ℕ) × IsConversion o text format other × AppendsPrefix old new other

-- the text is that of a certificate, and the line of that number is its first with a premise that is not earlier
pub record HasLaterPremise (o : Ontology) (text : List ℕ) (line : ℕ) : Type 0 where
  pub certificate : Certificate
  pub text_is : IsSomeTextOf o text certificate
  pub first : IsFirstLater certificate.lines line

-- there is nothing to write: the text is that of no certificate, and the first line that cannot follow those before it begins at that
-- place, or its certificate has no text in the format; or the sink failed, or memory was refused
abbrev pub IsConvertFault : Ontology → List ℕ → Format → ConvertFault → Type 0
IsConvertFault o text format (BadText at) = IsNoText o text at
IsConvertFault o text format (LaterPremise line) = (format ≡ Two) × HasLaterPremise o text line
IsConvertFault o text format _ = Unit {0}

-- ---- the faults of its two steps

abbrev pub fault_of_reading : CertFault → ConvertFault
fault_of_reading (read.BadText at) = BadText at
fault_of_reading read.Memory = Memory

abbrev pub fault_of_writing : CertWriteFault → ConvertFault
fault_of_writing (write.LaterPremise line) = LaterPremise line
fault_of_writing write.Io = Io
fault_of_writing write.Memory = Memory
