-- What is seen of the files of a run, and which of them the answers of its calls blame.
use Rattle.std.specs.Prelude.{ℕ, List, Bool, Option, Result, Ok, Err}
use Rattle.cli.specs.declared.fault.ClassifyFault.{ClassifyFault}
use Rattle.cli.specs.declared.fault.ClassifyFault.TheVariants as classifying
use Rattle.cli.specs.declared.fault.InferenceFault.{InferenceFault}
use Rattle.cli.specs.declared.fault.InferenceFault.TheVariants as inferring
use Rattle.session.specs.declared.question_fault.QuestionFault.{QuestionFault}
use Rattle.session.specs.declared.question_fault.QuestionFault.TheVariants as asking
use Rattle.session.specs.declared.run_fault.RunFault.TheVariants as running
use Rattle.system_files.specs.Contents.{IsThere}
use Rattle.receiving.specs.Files.{Store, NoWriteFails, SomeWriteFails, BlamesFile}

-- ---- the answers of the calls

-- what an answer of a classification says of the document's file, and of the writes that failed
abbrev pub ClassifiesFile : {X : Type 0} → Store → Option (List ℕ) → Result X ClassifyFault → Type 0
ClassifiesFile s held (Ok x) = IsThere s.is_known held × NoWriteFails s
ClassifiesFile s held (Err (classifying.Document fault)) = BlamesFile s.reads_fail s.is_known held fault × NoWriteFails s
ClassifiesFile s held (Err classifying.Memory) = IsThere s.is_known held × NoWriteFails s
ClassifiesFile s held (Err classifying.Limit) = IsThere s.is_known held × NoWriteFails s
ClassifiesFile s held (Err (classifying.Io n)) = IsThere s.is_known held × SomeWriteFails s

-- what an answer of a question says of the document's file
abbrev pub AsksFile : {X : Type 0} → (fails known : Bool) → Option (List ℕ) → Result X QuestionFault → Type 0
AsksFile fails known held (Ok x) = IsThere known held
AsksFile fails known held (Err (asking.Document fault)) = BlamesFile fails known held fault
AsksFile fails known held (Err fault) = IsThere known held

-- what an answer of an inference says of the document's file, and of the writes that failed
abbrev pub InfersFile : {X : Type 0} → Store → Option (List ℕ) → Result X InferenceFault → Type 0
InfersFile s held (Ok x) = IsThere s.is_known held × NoWriteFails s
InfersFile s held (Err (inferring.Run (running.Document fault))) = BlamesFile s.reads_fail s.is_known held fault × NoWriteFails s
InfersFile s held (Err (inferring.Run running.Limit)) = IsThere s.is_known held × NoWriteFails s
InfersFile s held (Err (inferring.Run running.Memory)) = IsThere s.is_known held × NoWriteFails s
InfersFile s held (Err inferring.Unwritten) = IsThere s.is_known held × SomeWriteFails s
