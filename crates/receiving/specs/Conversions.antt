-- What a conversion of a document's certificate says.
use Rattle.std.specs.Prelude.{◌≡◌, ℕ, List, Option, Result, Ok, Err}
use Rattle.std.specs.Io.KnownBytes.{Keeps}
use Rattle.axioms.specs.Ontology.{Ontology}
use Rattle.axioms.specs.WellFormedness.{IsOntology}
use Rattle.certificate_text.specs.Conversions.{IsConversion, IsConvertFault}
use Rattle.certificate_text.specs.declared.conversion.ConvertFault.{ConvertFault}
use Rattle.certificate_text.specs.declared.conversion.ConvertFault.TheVariants as converting
use Rattle.certificate.specs.declared.format.Format.{Format}
use Rattle.receiving.specs.Checks.{AreKnown, IsRead}
use Rattle.receiving.specs.declared.fault.CheckFault.{CheckFault}
use Rattle.receiving.specs.declared.fault.CheckFault.TheVariants as checking
use Rattle.receiving.specs.declared.fault.ConversionFault.{ConversionFault}
use Rattle.receiving.specs.declared.fault.ConversionFault.TheVariants.{Certificate, Document, Unread}
use Rattle.device.specs.declared.device.Sink as sinks
use Rattle.device.specs.declared.device.Source as sources
use Rattle.profile.specs.Faults.{ReadsKnown, RefusesKnown}
use Rattle.program.specs.declared.limits.Limits.{Limits}
use Rattle.program.specs.declared.version.Version.{Version}
use Rattle.telling.specs.Devices.{Device, FailsIn, IsReadUntil, Takes, seen}
use Rattle.source_lines.specs.Sources.{FailsInReading, IsReadOn, IsReadToItsEnd, SourceState, source_state}

-- the document reads in the version as some ontology, the certificate's source has some text, and these two are in the relation
pub record AreBoth (Relation : Ontology → List ℕ → Type 0) (version : Version) (most : ℕ) (document certificate : Option (List ℕ)) : Type 0 where
  pub ontology : Ontology
  pub reads : ReadsKnown version document most ontology
  pub well_formed : IsOntology ontology
  pub text : List ℕ
  pub text_is : AreKnown certificate text
  pub related : Relation ontology text

-- what an answer says of a text and of what is written: the text of the same certificate in the format, whole, or the beginning of it,
-- where the sink failed; or nothing
abbrev pub Converts : {X : Type 0} → Ontology → Format → (Whole Begun : List ℕ → Type 0) → (Nothing : Type 0) → (text : List ℕ) → Result X ConvertFault → Type 0
Converts o format Whole Begun Nothing text (Ok x) = (other : List ℕ) × IsConversion o text format other × Whole other
Converts o format Whole Begun Nothing text (Err converting.Io) = (other : List ℕ) × IsConversion o text format other × Begun other
Converts o format Whole Begun Nothing text (Err fault) = IsConvertFault o text format fault × Nothing

-- what an answer says of the document, of the certificate's text, and of what is written
abbrev pub IsConversionAnswer : {X : Type 0} → Version → (most : ℕ) → Format → (document certificate : Option (List ℕ)) → (Whole Begun : List ℕ → Type 0) → (Nothing : Type 0) → Result X ConversionFault → Type 0
IsConversionAnswer version most format document certificate Whole Begun Nothing (Ok x) =
    AreBoth (λ o text. Converts o format Whole Begun Nothing text (Ok x)) version most document certificate
IsConversionAnswer {X} version most format document certificate Whole Begun Nothing (Err (Certificate fault)) =
    AreBoth (λ o text. Converts {X = X} o format Whole Begun Nothing text (Err fault)) version most document certificate
IsConversionAnswer version most format document certificate Whole Begun Nothing (Err (Document fault)) = RefusesKnown version document most fault × Nothing
IsConversionAnswer version most format document certificate Whole Begun Nothing (Err Unread) = IsRead version most document × Nothing

-- the sink has taken nothing, and no call of it failed
abbrev pub IsUntaken : (old new : Device) → Type 0
IsUntaken old new = Keeps old.0 new.0 × (new.1 ≡ old.1)

-- what an answer says of the document and of the certificate's text, and of the sink before and after a call
abbrev pub ConvertsInto : {S X : Type 0} → sinks.Ghosts S → Limits → Format → (document certificate : Option (List ℕ)) → (old new : S) → Result X ConversionFault → Type 0
ConvertsInto S limits format document certificate old new answer =
    IsConversionAnswer limits.version limits.max_bytes format document certificate (Takes (seen S old) (seen S new)) (FailsIn (seen S old) (seen S new))
    (IsUntaken (seen S old) (seen S new)) answer

-- the fault of a conversion whose certificate could not be read
abbrev pub conversion_fault : CheckFault → ConversionFault
conversion_fault (checking.Document fault) = Document fault
conversion_fault checking.Memory = Certificate converting.Memory
conversion_fault (checking.Io n) = Unread

-- ---- what was read

-- what was read of the sources of the document and of the certificate: all, the document's first; or until this fault
abbrev pub AreBothRead : {X : Type 0} → Result X ConversionFault → (old new : SourceState × SourceState) → Type 0
AreBothRead (Ok x) old new = IsReadToItsEnd old.0 new.0 × IsReadToItsEnd old.1 new.1
AreBothRead (Err (Document fault)) old new = IsReadUntil fault old.0 new.0 × (new.1 ≡ old.1)
AreBothRead (Err Unread) old new = IsReadToItsEnd old.0 new.0 × FailsInReading old.1 new.1
AreBothRead (Err (Certificate converting.Memory)) old new = IsReadToItsEnd old.0 new.0 × IsReadOn old.1 new.1
AreBothRead (Err (Certificate fault)) old new = IsReadToItsEnd old.0 new.0 × IsReadToItsEnd old.1 new.1

-- what was read of the two sources, by what they tell before and after a call
abbrev pub ReadsBoth : {D C X : Type 0} → sources.Ghosts D → sources.Ghosts C → (old new : D × C) → Result X ConversionFault → Type 0
ReadsBoth D C old new answer = AreBothRead answer (source_state D old.0, source_state C old.1) (source_state D new.0, source_state C new.1)
