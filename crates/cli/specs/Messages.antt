-- What the program prints, and the status that goes with it.
use Rattle.std.specs.Prelude.{◌≡◌, ℕ, zero, suc, List, [], ◌++◌, Bool, true, false, codes, string_bytes}
use Rattle.std.specs.Fmt.{decimal}
use Rattle.classification.specs.declared.classification.Summary.{Summary}
use Rattle.telling.specs.Messages.{IsDocumentText, cannot_write, out_of_memory}
use Rattle.telling.specs.declared.messages.Message.{Message}
use Rattle.cli.specs.declared.fault.ClassifyFault.{ClassifyFault}
use Rattle.cli.specs.declared.fault.ClassifyFault.TheVariants as classifying
use Rattle.command_line.specs.declared.tasks.Paths.{Paths}
use Rattle.profile.specs.Messages.{status_of}
use Rattle.program.specs.declared.limits.Limits.{Limits}
use Rattle.program.specs.declared.release.TheConstants.{VERSION}
use Rattle.program.specs.declared.status.Status.{Status}
use Rattle.program.specs.declared.status.Status.TheVariants as statuses

-- ---- counts

abbrev pub consistency : Bool → List ℕ
consistency true = codes "consistent"
consistency false = codes "inconsistent"

abbrev pub summary_text : Summary → List ℕ
summary_text s =
    consistency s.consistent ++ (codes " classes " ++ (decimal s.classes ++ (codes " individuals " ++ (decimal s.individuals ++ (codes " facts " ++ (decimal s.facts ++ codes "\n"))))))

-- ---- the version

abbrev pub version_text : List ℕ
version_text = codes "elc " ++ (VERSION.now ++ codes "\n")

-- ---- faults

-- the path of the sink of that number
abbrev pub written_path : Paths → ℕ → List ℕ
written_path paths (suc zero) = paths.taxonomy.now
written_path paths (suc (suc zero)) = paths.instances.now
written_path paths (suc (suc (suc zero))) = paths.certificate.now
written_path paths n = []

abbrev pub classify_status : ClassifyFault → Status
classify_status (classifying.Document fault) = status_of fault
classify_status classifying.Memory = statuses.Memory
classify_status classifying.Limit = statuses.Limit
classify_status (classifying.Io n) = statuses.File

abbrev pub IsClassifyText : Paths → (max_bytes max_facts : ℕ) → ClassifyFault → List ℕ → Type 0
IsClassifyText paths bytes facts (classifying.Document fault) text = IsDocumentText paths.document.now bytes fault text
IsClassifyText paths bytes facts classifying.Memory text = text ≡ out_of_memory
IsClassifyText paths bytes facts classifying.Limit text = text ≡ codes "limit: more than " ++ (decimal facts ++ codes " facts\n")
IsClassifyText paths bytes facts (classifying.Io n) text = text ≡ cannot_write (written_path paths n)

-- the message tells of the fault of a classification, with its status
abbrev pub IsClassifyMessage : Paths → Limits → ClassifyFault → Message → Type 0
IsClassifyMessage paths limits fault m = IsClassifyText paths limits.max_bytes limits.max_facts fault (string_bytes m.text) × (m.status ≡ classify_status fault)
