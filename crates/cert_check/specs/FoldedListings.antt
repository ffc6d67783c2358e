-- A listing onto which another is folded says of lines what the other says, and so does a narrowed one.
use Rattle.std.specs.Prelude.{ℕ, ◌<◌, ◌↔◌, List}
use Rattle.std.specs.declared.option.Option.{Option}
use Rattle.std.specs.List.{Contains}
use Rattle.axioms.specs.Ontology.{Ontology}
use Rattle.axioms.specs.WellFormedness.{IsOntology}
use Rattle.interpretation_spec.specs.Interpretation.{Interpretation, IsInterpretation}
use Rattle.certificate.specs.Certificate.{Subject, Line, Listed}
use Rattle.certificate.specs.Writability.{IsListedOf}
use Rattle.listed_model.specs.Listing.{IsListing}
use Rattle.narrowing.specs.FoldedListing.{IsFoldedListing}
use Rattle.narrowing.specs.Narrowed.{IsNarrowed, place_among, narrowed_claim}
use Rattle.cert_check.specs.declared.verdict.Reason.{Reason}
use Rattle.cert_check.specs.Acceptance.{Agrees, ClaimHolds}
use Rattle.cert_check.specs.Verdict.{ConsistentAgainst}

-- an element agrees with a subject of lines where its place does
abbrev pub NarrowedAgreesSame : Type 0
NarrowedAgreesSame =
    (o : Ontology) → IsOntology o → (l m : Listed) → IsListedOf o l → (n : IsNarrowed l m) →
    (i j : Interpretation) → IsListing o l i → IsListing o m j → IsInterpretation i → IsInterpretation j →
    (lines : List Line) (subject : Subject) (x : ℕ) → x < l.domain →
    Agrees o i lines subject x ↔ Agrees o j lines subject (place_among n.used x)

-- a claim holds where the narrowed one does
abbrev pub NarrowedClaimsSame : Type 0
NarrowedClaimsSame =
    (o : Ontology) → IsOntology o → (l m : Listed) → IsListedOf o l → (n : IsNarrowed l m) →
    (i j : Interpretation) → IsListing o l i → IsListing o m j → IsInterpretation i → IsInterpretation j →
    (lines : List Line) (claim : ℕ × ℕ) → Contains l.claims claim →
    ClaimHolds o i lines claim ↔ ClaimHolds o j lines (narrowed_claim n.used claim)

-- the same speaks against a certificate with either
abbrev pub NarrowedReasonsAreSame : Type 0
NarrowedReasonsAreSame =
    (o : Ontology) → IsOntology o → (l m : Listed) → IsListedOf o l → IsNarrowed l m →
    (taxonomy instances : List ℕ) (lines : List Line) (reason : Option Reason) →
    ConsistentAgainst o taxonomy instances lines l reason ↔ ConsistentAgainst o taxonomy instances lines m reason

-- .. and with a listing and another onto which it is folded
abbrev pub FoldedReasonsAreSame : Type 0
FoldedReasonsAreSame =
    (o : Ontology) → IsOntology o → (l m : Listed) → IsListedOf o l → IsFoldedListing o l m →
    (taxonomy instances : List ℕ) (lines : List Line) (reason : Option Reason) →
    ConsistentAgainst o taxonomy instances lines l reason ↔ ConsistentAgainst o taxonomy instances lines m reason
