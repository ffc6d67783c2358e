-- What is told of checks and conversions, and the status that goes with it.
use Rattle.std.specs.Prelude.{◌≡◌, ℕ, zero, suc, List, [], ◌++◌, codes, slice_get, unwrap_or}
use Rattle.std.specs.Fmt.{decimal}
use Rattle.axioms.specs.Ontology.{Ontology}
use Rattle.cert_check.specs.declared.verdict.Reason.{Reason}
use Rattle.cert_check.specs.declared.verdict.Reason.TheVariants.{BadText, BadLine, AxiomFails, ClaimMissing, ClaimDisagrees, IndividualDisagrees, NoContradiction, TaxonomyDiffers, InstancesDiffer}
use Rattle.cert_check.specs.declared.verdict.Verdict.{Verdict}
use Rattle.cert_check.specs.declared.verdict.Verdict.TheVariants.{Accepted, Rejected}
use Rattle.telling.specs.Devices.{Device}
use Rattle.telling.specs.Messages.{IsDocumentText, cannot_read, out_of_memory}
use Rattle.telling.specs.Printing.{IsTold}
use Rattle.receiving.specs.declared.fault.CheckFault.{CheckFault}
use Rattle.receiving.specs.declared.fault.CheckFault.TheVariants as checking
use Rattle.command_line.specs.declared.tasks.LineFault.{LineFault}
use Rattle.command_line.specs.declared.tasks.LineFault.TheVariants as line
use Rattle.command_line.specs.declared.tasks.Paths.{Paths}
use Rattle.profile.specs.Messages.{status_of}
use Rattle.program.specs.declared.status.Status.{Status}
use Rattle.program.specs.declared.status.Status.TheVariants as statuses

-- the name of that number, or nothing where there is none
abbrev pub name_at : List (List ℕ) → ℕ → List ℕ
name_at names n = unwrap_or (slice_get names n) []

abbrev pub reason_text : Ontology → Reason → List ℕ
reason_text o (BadText at) = codes "C1 at byte " ++ decimal at
reason_text o (BadLine n) = codes "C2 line " ++ decimal n
reason_text o (AxiomFails n) = codes "C3 axiom " ++ decimal n
reason_text o (ClaimMissing c) = codes "C4 <" ++ (name_at o.names.classes c.0 ++ codes ">")
reason_text o (ClaimDisagrees c) = codes "C5 <" ++ (name_at o.names.classes c.0 ++ codes ">")
reason_text o (IndividualDisagrees a) = codes "C6 <" ++ (name_at o.names.individuals a.0 ++ codes ">")
reason_text o NoContradiction = codes "C7"
reason_text o (TaxonomyDiffers at) = codes "C8 at byte " ++ decimal at
reason_text o (InstancesDiffer at) = codes "C9 at byte " ++ decimal at

abbrev pub rejected_text : (reason : List ℕ) → List ℕ
rejected_text reason = codes "rejected: " ++ (reason ++ codes "\n")

-- of a certificate that has no text in the format, for a premise of the line of that number
abbrev pub unconverted_text : (line : ℕ) → List ℕ
unconverted_text line = codes "cannot convert line " ++ (decimal line ++ codes "\n")

abbrev pub verdict_text : Ontology → Verdict → List ℕ
verdict_text o Accepted = codes "accepted\n"
verdict_text o (Rejected reason) = rejected_text (reason_text o reason)

abbrev pub verdict_status : Verdict → Status
verdict_status Accepted = statuses.Done
verdict_status (Rejected reason) = statuses.Rejected

-- the path of the source of that number
abbrev pub read_path : Paths → ℕ → List ℕ
read_path paths (suc (suc zero)) = paths.taxonomy.now
read_path paths (suc (suc (suc zero))) = paths.instances.now
read_path paths (suc (suc (suc (suc zero)))) = paths.certificate.now
read_path paths n = []

abbrev pub check_status : CheckFault → Status
check_status (checking.Document fault) = status_of fault
check_status checking.Memory = statuses.Memory
check_status (checking.Io n) = statuses.File

abbrev pub IsCheckText : Paths → (max_bytes : ℕ) → CheckFault → List ℕ → Type 0
IsCheckText paths bytes (checking.Document fault) text = IsDocumentText paths.document.now bytes fault text
IsCheckText paths bytes checking.Memory text = text ≡ out_of_memory
IsCheckText paths bytes (checking.Io n) text = text ≡ cannot_read (read_path paths n)

abbrev pub line_status : LineFault → Status
line_status (line.Line error) = statuses.Usage
line_status line.Memory = statuses.Memory

-- the text is told of words that are no task; of words that are refused it is the usage text
abbrev pub IsLineText : LineFault → List ℕ → Type 0
IsLineText (line.Line error) text = Unit {0}
IsLineText line.Memory text = text ≡ out_of_memory

-- standard error says why words are no task
abbrev pub IsLineTold : LineFault → (old new : Device) → (answered : ℕ) → Type 0
IsLineTold fault old new answered = IsTold old new (IsLineText fault) (line_status fault) answered
