-- What a run of `restrict` leaves.
use Rattle.std.specs.Prelude.{◌≡◌, ◌≤◌, ℕ, List, [], Bool, true, Option, Some, length}
use Rattle.axioms.specs.Numbering.{IsOntologyOf}
use Rattle.axioms.specs.Ontology.{Ontology}
use Rattle.fs_parser.specs.Document as parsed
use Rattle.profile.specs.Documents.{AreTextOf, ReadsAs}
use Rattle.program.specs.Status.{code_of}
use Rattle.program.specs.declared.limits.Limits.{Limits}
use Rattle.program.specs.declared.status.Status.TheVariants as statuses
use Rattle.program.specs.declared.version.Version.{Version}
use Rattle.receiving.specs.Files.{Store}
use Rattle.receiving.specs.HeldTexts.{AreOtherFilesKept}
use Rattle.restricting.specs.Reports.{report_by}
use Rattle.restricting.specs.Runs.{IsRestrictRun}
use Rattle.shapes.specs.Faults.{document_faults}
use Rattle.statements_text.specs.Restrictions.{faulty, kept_statements}
use Rattle.system_files.specs.Contents.{Content}
use Rattle.telling.specs.Devices.{Device, Takes}
use Rattle.telling.specs.Printing.{Output}

-- the one file held the text of a document, of at most so many bytes. The other holds a text that reads in the version as the ontology of
-- what the trees without faults of that document state; where it has no faults, it reads as the same ontology. A line for each of its faults
-- went out, with line and column or without, and one of how many statements are kept and how many trees are left out
pub record IsRestrictedInto (lines : Bool) (version : Version) (most : ℕ) (held held' : Option (List ℕ)) (old new : Device) : Type 0 where
  pub bytes : List ℕ
  pub held_is : held ≡ Some bytes
  pub within : length bytes ≤ most
  pub document : parsed.Document
  pub text : AreTextOf bytes document
  pub kept : List ℕ
  pub kept_is : held' ≡ Some kept
  pub ontology : Ontology
  pub numbered : IsOntologyOf (kept_statements version document.trees) ontology
  pub reads : ReadsAs version kept ontology
  pub whole : document_faults version document.trees ≡ [] → ReadsAs version bytes ontology
  pub reported : Takes old new (report_by lines bytes (document_faults version document.trees) (length (kept_statements version document.trees)) (faulty version document.trees))

-- after a run of `restrict` with status 0, over files whose content is known, that is what its two files hold and what standard output has
-- taken, and all other files hold what they did
abbrev pub WhatIsRestricted : Type 0
WhatIsRestricted =
    (lines : Bool) (document output : List ℕ) (limits : Limits) (s : Store) (content content' : Content) (old new : Output) →
    s.is_known ≡ true → IsRestrictRun lines document output limits s content content' old new (code_of statuses.Done) →
    IsRestrictedInto lines limits.version limits.max_bytes (content document) (content' output) old.out new.out × AreOtherFilesKept output content content'
