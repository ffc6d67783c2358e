-- What is kept of lines, and of a certificate, that were read and tested one after another.
use Rattle.std.specs.Prelude.{◌≡◌, ◌↔◌, ℕ, Bool, IsTrue, List, [], MatchOption, Result, Ok, Err, Some, map, option_map}
use Rattle.std.specs.Io.KnownBytes.{IsAtEnd}
use Rattle.std.specs.declared.option.Option.{Option}
use Rattle.axioms.specs.Ontology.{Ontology}
use Rattle.certificate.specs.Certificate.{Conclusion, Line, Listed, Certificate}
use Rattle.certificate.specs.Writability.{IsSomeTextOf}
use Rattle.certificate.specs.SourceReading.{HasLines, HasNoLine, IsStopped, Reading}
use Rattle.certificate.specs.View.{listing_of}
use Rattle.certificate.specs.declared.fault.TextFault.{TextFault}
use Rattle.source_lines.specs.Sources.{SourceState, Gives}
use Rattle.cert_check.specs.Derivation.{IsDerivation, IsDerived}
use Rattle.cert_check.specs.Faults.{IsFirstBadLine}
use Rattle.cert_check.specs.Lists.{said_by}
use Rattle.cert_check.specs.Premises.{RulesTakeAtMost}
use Rattle.cert_check.specs.Verdict.{AgainstShown, AreShown}
use Rattle.cert_check.specs.View.{said_of}
use Rattle.cert_check.specs.declared.derivation.ShownLines.{ShownLines}
use Rattle.cert_check.specs.declared.derivation.TestedCertificate.{TestedCertificate}
use Rattle.cert_check.specs.declared.derivation.TestedLines.{TestedLines}
use Rattle.cert_check.specs.declared.verdict.Reason.{Reason}

-- what the lines say, and which is the first that does not follow from those before it
pub record AreTested (o : Ontology) (lines : List Line) (said : List Conclusion) (bad : Option ℕ) : Type 0 where
  pub said_is : said ≡ said_by lines
  pub bad_is : MatchOption bad (IsDerivation o lines) (IsFirstBadLine o lines)

-- what the lines say, which is the first that does not follow from those before it, and what they show
pub record AreKept (o : Ontology) (lines : List Line) (said : List Conclusion) (bad : Option ℕ) (contradictory : Bool) (above types : List (List ℕ)) : Type 0 where
  pub tested : AreTested o lines said bad
  pub shown : AreShown o lines contradictory above types

-- the answer tells whether the line follows from lines before it, whichever lines say these
abbrev pub TellsDerived : Ontology → List Conclusion → Line → Bool → Type 0
TellsDerived o said line follows = (before : List Line) → said ≡ said_by before → IsTrue follows ↔ IsDerived o before line

-- this is what is kept of the lines
abbrev pub AreKeptIn : TestedLines → Ontology → List Line → Type 0
AreKeptIn kept o lines = AreKept o lines (map said_of kept.said.items) kept.bad kept.is_contradictory kept.above kept.types

-- what is kept when all lines are read is what was kept while they were, but for what they say
abbrev pub ShowsThose : TestedLines → ShownLines → Type 0
ShowsThose kept shown = (shown.bad ≡ kept.bad) × (shown.is_contradictory ≡ kept.is_contradictory) × (shown.above ≡ kept.above) × (shown.types ≡ kept.types)

-- the text is that of a certificate whose lines have this bad line, if there is one, and show this, and with this interpretation, if there is one
pub record IsTested (o : Ontology) (text : List ℕ) (bad : Option ℕ) (contradictory : Bool) (above types : List (List ℕ)) (listed : Option Listed) : Type 0 where
  pub certificate : Certificate
  pub text_is : IsSomeTextOf o text certificate
  pub bad_is : MatchOption bad (IsDerivation o certificate.lines) (IsFirstBadLine o certificate.lines)
  pub shown : AreShown o certificate.lines contradictory above types
  pub listed_is : listed ≡ certificate.listed

-- this is what is kept of the certificate whose text it is
abbrev pub IsTestedIn : Ontology → List ℕ → TestedCertificate → Type 0
IsTestedIn o text c = IsTested o text c.lines.bad c.lines.is_contradictory c.lines.above c.lines.types (option_map listing_of c.listed)

-- what speaks against it, whichever its lines are of which this is kept
abbrev pub AgainstTested : Ontology → (taxonomy instances : List ℕ) → TestedCertificate → Option Reason → Type 0
AgainstTested o t i c = AgainstShown o t i c.lines.is_contradictory c.lines.above c.lines.types (option_map listing_of c.listed)

-- all that the source gave, to its end, is the text of the certificate of which this is kept
pub record IsTestedFrom (o : Ontology) (start now : SourceState) (c : TestedCertificate) : Type 0 where
  pub taken : List ℕ
  pub given : Gives start now taken
  pub unfailed : now.failures ≡ start.failures
  pub end : IsAtEnd now.left
  pub tested : IsTestedIn o taken c

-- what reading a source answers: what is kept of the certificate whose text it gave, or why it gave none
abbrev pub IsReading : Ontology → (start now : SourceState) → Result TestedCertificate TextFault → Type 0
IsReading o start now (Ok c) = IsTestedFrom o start now c
IsReading o start now (Err fault) = IsStopped fault o start now

-- ---- lines that a reader gives

-- since the first line of the derivation was at hand, these lines were read
pub record HaveCome (old new : Reading) (before after : SourceState) (lines : List Line) : Type 0 where
  pub ontology : new.ontology ≡ old.ontology
  pub most_premises : new.most_premises ≡ old.most_premises
  pub behind : (start : SourceState) → HasLines start [] old before → HasLines start lines new after

-- of a line no more premises are kept than one more than a rule can take
abbrev pub KeepsEnough : Reading → Type 0
KeepsEnough reading = (most : ℕ) × (reading.most_premises ≡ Some most) × RulesTakeAtMost reading.ontology most

-- all lines of the derivation have come, and this is kept of them
pub record AllAreKept (o : Ontology) (old new : Reading) (before after : SourceState) (tested : TestedLines) : Type 0 where
  pub lines : List Line
  pub come : HaveCome old new before after lines
  pub none : HasNoLine new
  pub kept : AreKeptIn tested o lines
