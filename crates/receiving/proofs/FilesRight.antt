-- Texts in files that a run of `check` accepts are right.
use Rattle.std.proofs.Common.{◌≡◌, ℕ, List, Option, Result, Ok, Err, Some, refl, subst}
use Rattle.axioms.specs.Ontology.{Ontology}
use Rattle.cert_check.specs.declared.verdict.Verdict.{Verdict}
use Rattle.cert_check.specs.declared.verdict.Verdict.TheVariants.{Accepted, Rejected}
use Rattle.receiving.proofs.AcceptedRight.{accepted_right}
use Rattle.receiving.proofs.NotDone.{document_not_done, printed_not_done, told_not_done}
use Rattle.telling.specs.Printing.{IsAnswered, Output}
use Rattle.receiving.specs.Checks.{IsChecked}
use Rattle.receiving.specs.Messages.{IsCheckText, check_status, verdict_status, verdict_text}
use Rattle.receiving.specs.Runs.{IsCheckTold, IsCheckedFiles}
use Rattle.receiving.specs.Theorems.{AcceptedFilesAreRight, AreRightFor}
use Rattle.receiving.specs.declared.checking.Checked.{Checked}
use Rattle.receiving.specs.declared.fault.CheckFault.{CheckFault}
use Rattle.receiving.specs.declared.fault.CheckFault.TheVariants as checking
use Rattle.command_line.specs.declared.tasks.Paths.{Paths}
use Rattle.program.specs.Status.{code_of}
use Rattle.program.specs.declared.status.Status.TheVariants as statuses
use Rattle.program.specs.declared.version.Version.{Version}
use Rattle.system_files.specs.Contents.{Content}

-- a fault has another status than 0
fault_not_done : (fault : CheckFault) → code_of statuses.Done ≡ code_of (check_status fault) → ⊥
fault_not_done (checking.Document fault) e = document_not_done fault e
fault_not_done checking.Memory e = cc
fault_not_done (checking.Io n) e = cc

-- the verdict that is told with status 0
accepting : (o : Ontology) (verdict : Verdict) (old new : Output) → IsAnswered old new (verdict_text o verdict) (verdict_status verdict) (code_of statuses.Done) → verdict ≡ Accepted
accepting o Accepted old new told = refl
accepting o (Rejected reason) old new told = absurd (printed_not_done old.out new.out (verdict_text o (Rejected reason)) statuses.Rejected (λ e. cc) told.0)

-- a check of four texts in files is one of the texts that they hold
pub checked_texts : (version : Version) (most : ℕ) (content : Content) (paths : Paths) (bytes t i c : List ℕ) (o : Ontology) (verdict : Verdict) → content paths.document.now ≡ Some bytes → content paths.taxonomy.now ≡ Some t → content paths.instances.now ≡ Some i → content paths.certificate.now ≡ Some c → IsChecked version most (content paths.document.now) (content paths.taxonomy.now) (content paths.instances.now) (content paths.certificate.now) o verdict → IsChecked version most (Some bytes) (Some t) (Some i) (Some c) o verdict
checked_texts version most content paths bytes t i c o verdict document taxonomy instances certificate checked =
    let of_document : Option (List ℕ) → Type 0 = λ d. IsChecked version most d (content paths.taxonomy.now) (content paths.instances.now) (content paths.certificate.now) o verdict in
    let of_taxonomy : Option (List ℕ) → Type 0 = λ x. IsChecked version most (Some bytes) x (content paths.instances.now) (content paths.certificate.now) o verdict in
    let of_instances : Option (List ℕ) → Type 0 = λ x. IsChecked version most (Some bytes) (Some t) x (content paths.certificate.now) o verdict in
    let of_certificate : Option (List ℕ) → Type 0 = λ x. IsChecked version most (Some bytes) (Some t) (Some i) x o verdict in
    subst of_certificate certificate (subst of_instances instances (subst of_taxonomy taxonomy (subst of_document document checked)))

-- what was checked with status 0 is right
answer_right : (paths : Paths) (version : Version) (most : ℕ) (content : Content) (old new : Output) (document t i c : List ℕ) (answer : Result Checked CheckFault) → content paths.document.now ≡ Some document → content paths.taxonomy.now ≡ Some t → content paths.instances.now ≡ Some i → content paths.certificate.now ≡ Some c → IsCheckedFiles paths version most content answer → IsCheckTold paths most answer old new (code_of statuses.Done) → AreRightFor version document t i c
answer_right paths version most content old new document t i c (Ok answer) holds taxonomy instances certificate is told =
    accepted_right version most document t i c answer
    (checked_texts version most content paths document t i c answer.ontology answer.verdict holds taxonomy instances certificate is) (accepting answer.ontology answer.verdict old new told)
answer_right paths version most content old new document t i c (Err fault) holds taxonomy instances certificate is told =
    absurd (told_not_done old.err new.err (IsCheckText paths most fault) (check_status fault) (fault_not_done fault) told.1)

pub files_are_right : AcceptedFilesAreRight
files_are_right paths version most s content old new document taxonomy instances certificate holds holds_taxonomy holds_instances holds_certificate run =
    answer_right paths version most content old new document taxonomy instances certificate run.answer holds holds_taxonomy holds_instances holds_certificate run.checked run.told
