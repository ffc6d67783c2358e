-- What a verdict on a certificate that a source gives means.
use Rattle.std.specs.Prelude.{◌≡◌, ◌↔◌, ◌⊎◌, ◌++◌, ℕ, List}
use Rattle.std.specs.Io.KnownBytes.{IsAtEnd}
use Rattle.axioms.specs.Ontology.{Ontology}
use Rattle.source_lines.specs.Sources.{SourceState, Gives}
use Rattle.cert_check.specs.Acceptance.{AreRight, IsAcceptable}
use Rattle.cert_check.specs.Verdict.{HasTrueLines, IsVerdict, PassesLines}
use Rattle.cert_check.specs.declared.verdict.Reason.TheVariants.{BadText}
use Rattle.cert_check.specs.declared.verdict.Verdict.{Verdict}
use Rattle.cert_check.specs.declared.verdict.Verdict.TheVariants.{Accepted, Rejected}

-- the verdict on a text, with what it says
pub record IsVerdictWith (o : Ontology) (taxonomy instances text : List ℕ) (v : Verdict) : Type 0 where
  pub verdict : IsVerdict o taxonomy instances text v
  pub accepted : (v ≡ Accepted) ↔ IsAcceptable o taxonomy instances text
  pub lines : PassesLines v → HasTrueLines o text
  pub says : v ≡ Accepted → AreRight o taxonomy instances text

-- it is that the text is that of no certificate
abbrev pub IsBadText : Verdict → Type 0
IsBadText (Rejected (BadText at)) = Unit {0}
IsBadText _ = ⊥

-- the verdict is on all that the source gave, to its end; or it is that this begins no certificate's text, whatever comes behind it
pub record IsJudgedFrom (o : Ontology) (taxonomy instances : List ℕ) (start now : SourceState) (v : Verdict) : Type 0 where
  pub taken : List ℕ
  pub given : Gives start now taken
  pub unfailed : now.failures ≡ start.failures
  pub judged : (IsAtEnd now.left × IsVerdictWith o taxonomy instances taken v)
      ⊎ (IsBadText v × ((rest : List ℕ) → IsVerdictWith o taxonomy instances (taken ++ rest) v))
