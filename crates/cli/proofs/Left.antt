-- What files hold where a classification ended with a fault.
use Rattle.std.proofs.Common.{ℕ, List, Bool, Option, Result, Ok, Err}
use Rattle.std.specs.Io.KnownBytes.{Keeps}
use Rattle.certificate.specs.declared.format.Format.{Format}
use Rattle.command_line.specs.declared.tasks.Paths.{Paths}
use Rattle.cli.proofs.Kept.{classified_file, fault_of_file}
use Rattle.cli.proofs.SomeTexts.{acceptable_are_some}
use Rattle.cli.proofs.Stored.{AreNew, AreSinksClosed, nothing_stored, texts_held, texts_held_until}
use Rattle.cli.specs.Runs.{AreLeft, IsClassifyAnswer}
use Rattle.cli.specs.Classifications.{IsClassification, IsUnwritten}
use Rattle.session.specs.WrittenTexts.{Sinks}
use Rattle.cli.specs.declared.fault.ClassifyFault.{ClassifyFault}
use Rattle.cli.specs.declared.fault.ClassifyFault.TheVariants.{Document, Memory, Limit, Io}
use Rattle.classification.specs.declared.classification.Summary.{Summary}
use Rattle.program.specs.declared.limits.Limits.{Limits}
use Rattle.system_files.specs.Contents.{Content}

pub files_left : (paths : Paths) (format : Format) (limits : Limits) (known : Bool) (content content' : Content) (left : Option (List ℕ)) (old new : Sinks) (fault : ClassifyFault) → Keeps (content paths.document.now) left → AreNew known old → IsUnwritten limits.version format limits.max_bytes limits.max_facts left old new fault → AreSinksClosed paths new content content' → AreLeft paths format limits known content content' fault
files_left paths format limits known content content' left old new (Document fault) kept fresh unwritten closed = λ path. nothing_stored known paths old new content content' fresh unwritten closed path
files_left paths format limits known content content' left old new Memory kept fresh unwritten closed = λ path. nothing_stored known paths old new content content' fresh unwritten closed path
files_left paths format limits known content content' left old new Limit kept fresh unwritten closed = λ path. nothing_stored known paths old new content content' fresh unwritten closed path
files_left paths format limits known content content' left old new (Io n) kept fresh unwritten closed =
    let summary = unwritten.0 in
    let texts = unwritten.1 in
    let is = classified_file limits.version format (content paths.document.now) left limits.max_bytes limits.max_facts summary texts kept unwritten.2 in
    (summary, texts, is, λ apart. texts_held_until n known paths old new texts content content' (acceptable_are_some is.ontology texts is.acceptable) fresh unwritten.3 closed apart)

-- what files hold where a classification ended with any answer
pub classify_answer : (paths : Paths) (format : Format) (limits : Limits) (known : Bool) (content content' : Content) (left : Option (List ℕ)) (old new : Sinks) (answer : Result Summary ClassifyFault) → Keeps (content paths.document.now) left → AreNew known old → IsClassification limits.version format limits.max_bytes limits.max_facts left old new answer → AreSinksClosed paths new content content' → IsClassifyAnswer paths format limits known content content' answer
classify_answer paths format limits known content content' left old new (Ok summary) kept fresh is closed =
    let made = classified_file limits.version format (content paths.document.now) left limits.max_bytes limits.max_facts summary is.0 kept is.1 in
    (is.0, made, λ apart. texts_held known paths old new is.0 content content' (acceptable_are_some made.ontology is.0 made.acceptable) fresh is.2 closed apart)
classify_answer paths format limits known content content' left old new (Err fault) kept fresh is closed =
    (fault_of_file limits.version format (content paths.document.now) left limits.max_bytes limits.max_facts fault kept is.0, files_left paths format limits known content content' left old new fault kept fresh is.1 closed)
