-- Sinks as far as they can be seen, and sources of documents.
use Rattle.std.specs.Prelude.{◌≡◌, ℕ, List, Option, Result, Ok, Err}
use Rattle.std.specs.Io.KnownBytes.{Appends}
use Rattle.device.specs.declared.device.Sink.{Ghosts}
use Rattle.device.specs.Device.{AppendsPrefix, HasFailed}
use Rattle.source_lines.specs.Sources.{SourceState, IsReadOn, IsReadToItsEnd, FailsInReading}
use Rattle.profile.specs.declared.fault.DocumentFault.{DocumentFault}
use Rattle.profile.specs.declared.fault.DocumentFault.TheVariants.{Io, Memory, TooLarge}

-- ---- sinks

-- the bytes that a sink has taken, where these are known, and how many of its calls have failed
abbrev pub Device : Type 0
Device = Option (List ℕ) × ℕ

-- what the words of its trait tell of a sink: the bytes that it has taken, and how many of its calls have failed
abbrev pub seen : {S : Type 0} → Ghosts S → S → Device
seen S sink = (S.taken sink, S.failures sink)

-- the sink has taken the whole text, and no call of it failed
abbrev pub Takes : (old new : Device) → List ℕ → Type 0
Takes old new text = Appends old.0 new.0 text × (new.1 ≡ old.1)

-- the sink failed, and has taken a prefix of the text
abbrev pub FailsIn : (old new : Device) → List ℕ → Type 0
FailsIn old new text = AppendsPrefix old.0 new.0 text × HasFailed old.1 new.1

-- ---- sources

-- what was read of a document where this is its fault: its source failed where that is told, and otherwise no call failed; a fault of its
-- bytes comes once all were read
abbrev pub IsReadUntil : DocumentFault → (old new : SourceState) → Type 0
IsReadUntil Io old new = FailsInReading old new
IsReadUntil TooLarge old new = IsReadOn old new
IsReadUntil Memory old new = IsReadOn old new
IsReadUntil fault old new = IsReadToItsEnd old new

-- what was read of a document: all of it, where it was read as what it is; or until this fault
abbrev pub IsReadIn : {X : Type 0} → Result X DocumentFault → (old new : SourceState) → Type 0
IsReadIn (Ok x) old new = IsReadToItsEnd old new
IsReadIn (Err fault) old new = IsReadUntil fault old new
