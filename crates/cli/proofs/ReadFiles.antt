-- What was read of the document of a session that is not opened.
use Rattle.std.proofs.Common.{◌≡◌, ◌+◌, ◌<◌, ℕ, List, Bool, Option, Result, Ok, Err, IfErr, refl, ap}
use Rattle.std.specs.Prelude.{IsErrOf}
use Rattle.receiving.specs.Files.{BlamesFile, IsSourceOf}
use Rattle.device.specs.Device.{HasFailed, LosesFront}
use Rattle.profile.specs.Faults.{IsReadWhole}
use Rattle.profile.specs.declared.fault.DocumentFault.{DocumentFault}
use Rattle.profile.specs.declared.fault.DocumentFault.TheVariants as reading
use Rattle.telling.specs.Devices.{IsReadUntil}
use Rattle.source_lines.specs.Sources.{SourceState}
use Rattle.receiving.proofs.ReadFiles.{IsOfFiles, read_blamed}

until : {X : Type 0} (fault : DocumentFault) (old new : SourceState) → LosesFront old.left new.left old.most new.most → (¬ IsErrOf {T = X} (Err fault) reading.Io → new.failures ≡ old.failures) → (IsErrOf {T = X} (Err fault) reading.Io → HasFailed old.failures new.failures) → IsReadWhole fault new.left → IsReadUntil fault old new
until reading.Io old new lost unfailed failed whole = record { lost = lost; failed = failed refl }
until reading.Memory old new lost unfailed failed whole = record { lost = lost; unfailed = unfailed (λ e. absurd (cc)) }
until reading.TooLarge old new lost unfailed failed whole = record { lost = lost; unfailed = unfailed (λ e. absurd (cc)) }
until reading.TooManyNames old new lost unfailed failed whole = record { on = record { lost = lost; unfailed = unfailed (λ e. absurd (cc)) }; end = whole }
until (reading.NotUtf8 at) old new lost unfailed failed whole = record { on = record { lost = lost; unfailed = unfailed (λ e. absurd (cc)) }; end = whole }
until (reading.Lex fault) old new lost unfailed failed whole = record { on = record { lost = lost; unfailed = unfailed (λ e. absurd (cc)) }; end = whole }
until (reading.Parse fault) old new lost unfailed failed whole = record { on = record { lost = lost; unfailed = unfailed (λ e. absurd (cc)) }; end = whole }
until (reading.Faults found) old new lost unfailed failed whole = record { on = record { lost = lost; unfailed = unfailed (λ e. absurd (cc)) }; end = whole }

pub opened_blamed : (X : Type 0) (fails known : Bool) (held : Option (List ℕ)) (limit : ℕ) (old new : SourceState) (answer : Result X DocumentFault) → IsSourceOf known held old → IsOfFiles fails known new → LosesFront old.left new.left old.most new.most → (¬ IsErrOf answer reading.Io → new.failures ≡ old.failures) → (IsErrOf answer reading.Io → HasFailed old.failures new.failures) → IfErr answer (λ e. IsReadWhole e new.left) → (IsErrOf answer reading.TooLarge → new.most + limit < old.most) → IfErr answer (BlamesFile fails known held)
opened_blamed X fails known held limit old new (Ok x) is of lost unfailed failed whole beyond = tt
opened_blamed X fails known held limit old new (Err fault) is of lost unfailed failed whole beyond =
    read_blamed fails known held fault limit old new is of (until {X = X} fault old new lost unfailed failed whole) (λ same. beyond (ap (λ (f : DocumentFault). Err f) same))
