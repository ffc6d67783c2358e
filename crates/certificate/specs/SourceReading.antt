-- Reading a certificate's text from a source, line by line.
use Rattle.std.specs.Prelude.{◌≡◌, ℕ, suc, ◌+◌, List, [], ◌∷◌, ◌++◌, ◌⊎◌, length, take, Bool, true, Option, Some, None}
use Rattle.std.specs.Io.KnownBytes.{IsAtEnd}
use Rattle.axioms.specs.Ontology.{Ontology}
use Rattle.device.specs.Device.{HasFailed}
use Rattle.source_lines.specs.Sources.{SourceState, Gives, IsReadOn}
use Rattle.source_lines.specs.Lines.{AtHand, IsReady, Advances, FailsInLine}
use Rattle.certificate.specs.Certificate.{Line, Listed, Certificate, Format}
use Rattle.certificate.specs.Tests.{fits_line, fits_written}
use Rattle.certificate.specs.Text.{line_text, written}
use Rattle.certificate.specs.Writability.{IsSomeTextOf}
use Rattle.certificate.specs.Prefixes.{GoesOn, AreLines, IsNoText}
use Rattle.certificate.specs.TextLines.{TextLine, LastLine, Part, InLines, InRows, Complete, text_of, part_text, no_rows, follows_in, with_line, IsPart, CannotFollow}
use Rattle.certificate.specs.declared.fault.TextFault.{TextFault}
use Rattle.certificate.specs.declared.fault.TextFault.TheVariants.{BadText, Io, Memory}

-- ---- a reader

-- for which ontology it reads, how many premises of a line are kept at the most, which format and kind the first line names, how many
-- lines of the derivation came, how many bytes were let go, and the line at hand
pub record Reading : Type 0 where
  pub ontology : Ontology
  pub most_premises : Option ℕ
  pub format : Format
  pub is_consistent : Bool
  pub count : ℕ
  pub at : ℕ
  pub hand : AtHand

-- since the source was as at the start, the lines of the part were read and let go, and what was read behind them is at hand
pub record HasRead (start : SourceState) (part : Part) (reading : Reading) (now : SourceState) : Type 0 where
  pub is_part : IsPart reading.ontology part
  pub read : List ℕ
  pub given : Gives start now read
  pub in_order : read ≡ part_text part ++ reading.hand.line ++ reading.hand.ahead
  pub at_is : reading.at ≡ length (part_text part)
  pub ready : IsReady reading.hand now
  pub unfailed : now.failures ≡ start.failures

-- the reader has taken lines of a derivation
pub record HasLines (start : SourceState) (lines : List Line) (reading : Reading) (now : SourceState) : Type 0 where
  pub part : HasRead start (InLines reading.format reading.is_consistent lines) reading now
  pub count : reading.count ≡ length lines

-- ---- why a text is not read

-- what the source gave begins no certificate's text, whatever comes behind it; or it is all that there is, and is none
pub record GivesNoText (o : Ontology) (start now : SourceState) (place : ℕ) : Type 0 where
  pub taken : List ℕ
  pub given : Gives start now taken
  pub unfailed : now.failures ≡ start.failures
  pub none : (IsAtEnd now.left × IsNoText o taken place) ⊎ ((rest : List ℕ) → IsNoText o (taken ++ rest) place)

-- the source failed, and the whole lines that it gave are the beginning of a certificate's text
pub record StopsGoingOn (o : Ontology) (start now : SourceState) : Type 0 where
  pub taken : List ℕ
  pub given : Gives start now taken
  pub lines : List ℕ
  pub piece : List ℕ
  pub cut : AreLines taken lines piece
  pub go_on : GoesOn o lines
  pub failed : HasFailed start.failures now.failures

-- why nothing was read: by that fault
abbrev pub IsStopped : TextFault → Ontology → (start now : SourceState) → Type 0
IsStopped (BadText at) o start now = GivesNoText o start now at
IsStopped Io o start now = StopsGoingOn o start now
IsStopped Memory o start now = IsReadOn start now

-- ---- letting a line go

-- the line at hand is let go, and the next one is at hand
pub record LetsGo (old new : Reading) (before after : SourceState) : Type 0 where
  pub ontology : new.ontology ≡ old.ontology
  pub most_premises : new.most_premises ≡ old.most_premises
  pub format : new.format ≡ old.format
  pub is_consistent : new.is_consistent ≡ old.is_consistent
  pub count : new.count ≡ old.count
  pub at_is : new.at ≡ old.at + length old.hand.line
  pub advanced : Advances old.hand new.hand before after

-- why the next line is not at hand
abbrev pub StopsLetting : TextFault → Reading → (before after : SourceState) → Type 0
StopsLetting (BadText at) old before after = ⊥
StopsLetting Io old before after = FailsInLine old.hand before after
StopsLetting Memory old before after = IsReadOn before after

-- ---- lines of the derivation

-- no more premises than are kept
abbrev pub premises_kept : Option ℕ → List ℕ → List ℕ
premises_kept None premises = premises
premises_kept (Some most) premises = take (suc most) premises

-- the line with one premise more than the most at most
abbrev pub kept_line : Option ℕ → Line → Line
kept_line most line = record line { premises = premises_kept most line.premises }

-- the bytes are those of line n of the derivation, of which this is kept
pub record IsDerivedLine (o : Ontology) (format : Format) (n : ℕ) (most : Option ℕ) (bytes : List ℕ) (line : Line) : Type 0 where
  -- as it is written
  pub full : Line
  pub text_is : line_text full ≡ bytes
  pub fits : fits_written o format n full ≡ true
  pub kept : line ≡ kept_line most (written format n full)

-- they are those of none
abbrev pub IsNoDerivedLine : Ontology → Format → ℕ → List ℕ → Type 0
IsNoDerivedLine o format n bytes = (line : Line) → line_text line ≡ bytes → fits_written o format n line ≡ true → ⊥

abbrev pub IsLineRead : Ontology → Format → ℕ → Option ℕ → List ℕ → Option Line → Type 0
IsLineRead o format n most bytes None = IsNoDerivedLine o format n bytes
IsLineRead o format n most bytes (Some line) = IsDerivedLine o format n most bytes line

-- whatever lines were read before, this one came behind them
pub record IsNextLine (old new : Reading) (before after : SourceState) (line : Line) : Type 0 where
  pub full : Line
  pub kept : line ≡ kept_line old.most_premises full
  pub fits : fits_line old.ontology full ≡ true
  pub ontology : new.ontology ≡ old.ontology
  pub most_premises : new.most_premises ≡ old.most_premises
  pub format : new.format ≡ old.format
  pub behind : (start : SourceState) (lines : List Line) → HasLines start lines old before → HasLines start (lines ++ full ∷ []) new after

-- there is no line more: what is at hand is none of the derivation
abbrev pub HasNoLine : Reading → Type 0
HasNoLine reading = IsNoDerivedLine reading.ontology reading.format (reading.count + 1) reading.hand.line

-- what a reader gives: the line that came next, or none, and then nothing has changed
abbrev pub IsNext : (old new : Reading) (before after : SourceState) → Option Line → Type 0
IsNext old new before after None = HasNoLine old × (new ≡ old) × (after ≡ before)
IsNext old new before after (Some line) = IsNextLine old new before after line

-- whatever lines were read before, reading stops by the fault
abbrev pub StopsNext : TextFault → Reading → (before after : SourceState) → Type 0
StopsNext fault old before after =
    (start : SourceState) (lines : List Line) → HasLines start lines old before → IsStopped fault old.ontology start after

-- ---- the end

-- all that the source gave since the start, to its end, is the text of the certificate
pub record IsReadAs (o : Ontology) (start now : SourceState) (c : Certificate) : Type 0 where
  pub taken : List ℕ
  pub given : Gives start now taken
  pub unfailed : now.failures ≡ start.failures
  pub end : IsAtEnd now.left
  pub text_is : IsSomeTextOf o taken c

-- whatever lines were read before, with this they are the certificate
abbrev pub IsFinished : Reading → (before after : SourceState) → Option Listed → Type 0
IsFinished old before after listed =
    (start : SourceState) (lines : List Line) → HasLines start lines old before → IsReadAs old.ontology start after (record { lines = lines; listed = listed })

-- ---- behind the lines

-- whatever was read before, reading stops by the fault where the line at hand cannot follow, and the text does not end there
abbrev pub StopsAtHand : TextFault → Reading → Type 0
StopsAtHand fault reading =
    (start now : SourceState) (part : Part) → HasRead start part reading now → CannotFollow reading.ontology part reading.hand.line
    → ((format : Format) (c : Certificate) → part ≡ Complete format c → reading.hand.line ≡ [] → ⊥) → IsStopped fault reading.ontology start now

-- whatever lines were read before, the domain came behind them
pub record IsDomainNext (old new : Reading) (before after : SourceState) (domain : ℕ) : Type 0 where
  pub ontology : new.ontology ≡ old.ontology
  pub format : new.format ≡ old.format
  pub behind : (start : SourceState) (lines : List Line) → HasLines start lines old before → HasRead start (InRows old.format lines (no_rows domain)) new after

-- what is at hand is no row that may follow those of the interpretation
abbrev pub HasNoRow : Reading → Listed → Type 0
HasNoRow reading listed = (row : TextLine) → text_of row ≡ reading.hand.line → follows_in reading.ontology reading.format listed row ≡ true → ⊥

-- whatever lines were read before the rows of the old interpretation, the other rows of the new one came behind these
pub record AreRowsNext (old new : Reading) (before after : SourceState) (old_listed new_listed : Listed) : Type 0 where
  pub ontology : new.ontology ≡ old.ontology
  pub format : new.format ≡ old.format
  pub behind : (start : SourceState) (lines : List Line) → HasRead start (InRows old.format lines old_listed) old before
      → HasRead start (InRows old.format lines new_listed) new after

-- whatever lines were read before the rows of the interpretation, reading stops by the fault
abbrev pub StopsRows : TextFault → Reading → (before after : SourceState) → Listed → Type 0
StopsRows fault old before after listed =
    (start : SourceState) (lines : List Line) → HasRead start (InRows old.format lines listed) old before → IsStopped fault old.ontology start after

-- the last line may follow the part, and then it is the certificate; if it is not at hand, what is at hand cannot follow
pub record IsBeforeLast (reading : Reading) (part : Part) (c : Certificate) : Type 0 where
  pub last : with_line reading.ontology part LastLine ≡ Some (Complete reading.format c)
  pub others : (text_of LastLine ≡ reading.hand.line → ⊥) → CannotFollow reading.ontology part reading.hand.line

-- whatever part was read before the last line, with it that is the certificate
abbrev pub IsLastNext : Reading → (before after : SourceState) → Type 0
IsLastNext old before after =
    (start : SourceState) (part : Part) (c : Certificate) → HasRead start part old before → IsBeforeLast old part c → IsReadAs old.ontology start after c

-- .. reading stops by the fault
abbrev pub StopsLast : TextFault → Reading → (before after : SourceState) → Type 0
StopsLast fault old before after =
    (start : SourceState) (part : Part) (c : Certificate) → HasRead start part old before → IsBeforeLast old part c → IsStopped fault old.ontology start after
