-- Which files the answers of calls blame.
use Rattle.std.proofs.Common.{◌≡◌, ◌∙◌, ◌+◌, ◌<◌, ℕ, zero, suc, List, Bool, Option, Result, Ok, Err, refl, sym, ap, subst}
use Rattle.std.specs.Prelude.{IsErrOf}
use Rattle.certificate.specs.declared.format.Format.{Format}
use Rattle.telling.specs.Devices.{Device}
use Rattle.source_lines.specs.Sources.{SourceState}
use Rattle.receiving.proofs.ReadFiles.{IsOfFiles, read_blamed, read_there}
use Rattle.cli.specs.Files.{AsksFile, ClassifiesFile}
use Rattle.receiving.specs.Files.{IsSourceOf, Store}
use Rattle.cli.specs.Classifications.{IsClassification, IsDocumentRead}
use Rattle.session.specs.WrittenTexts.{AreWritten, AreWrittenUntil, Sinks, Texts}
use Rattle.cli.specs.declared.fault.ClassifyFault.{ClassifyFault}
use Rattle.cli.specs.declared.fault.ClassifyFault.TheVariants as classifying
use Rattle.classification.specs.declared.classification.Summary.{Summary}
use Rattle.device.specs.Device.{HasFailed}
use Rattle.profile.specs.declared.fault.DocumentFault.{DocumentFault}
use Rattle.profile.specs.declared.fault.DocumentFault.TheVariants as reading
use Rattle.program.specs.declared.version.Version.{Version}
use Rattle.session.specs.TextAnswers.{IsRead}
use Rattle.session.specs.declared.question_fault.QuestionFault.{QuestionFault}
use Rattle.session.specs.declared.question_fault.QuestionFault.TheVariants as asking
use Rattle.receiving.proofs.Counted.{IsCounted, some_failed}

-- ---- questions

pub asks_file : {X : Type 0} (fails known : Bool) (held : Option (List ℕ)) (answer : Result X QuestionFault) (limit : ℕ) (old new : SourceState) → IsSourceOf known held old → IsOfFiles fails known new → IsRead answer old new → (IsErrOf answer (asking.Document reading.TooLarge) → new.most + limit < old.most) → AsksFile fails known held answer
asks_file fails known held (Ok x) limit old new is of read beyond = read_there known held old new is read
asks_file fails known held (Err (asking.Document fault)) limit old new is of read beyond =
    read_blamed fails known held fault limit old new is of read (λ same. beyond (ap (λ (f : DocumentFault). Err (asking.Document f)) same))
asks_file fails known held (Err asking.Limit) limit old new is of read beyond = read_there known held old new is read
asks_file fails known held (Err (asking.UnknownName name)) limit old new is of read beyond = read_there known held old new is read
asks_file fails known held (Err (asking.Expression fault)) limit old new is of read beyond = read_there known held old new is read
asks_file fails known held (Err asking.Memory) limit old new is of read beyond = read_there known held old new is read

-- ---- writes that failed

-- how many writes had failed, before three sinks were closed one after the other and behind that
pub record AreCounted (sinks : Sinks) (before behind : ℕ) : Type 0 where
  pub first : ℕ
  pub second : ℕ
  pub third : ℕ
  pub same : first ≡ before
  pub taxonomy : IsCounted first second sinks.taxonomy.1
  pub instances : IsCounted second third sinks.instances.1
  pub certificate : IsCounted third behind sinks.certificate.1

-- the three had not failed
pub record AreWorking (sinks : Sinks) : Type 0 where
  pub taxonomy : sinks.taxonomy.1 ≡ 0
  pub instances : sinks.instances.1 ≡ 0
  pub certificate : sinks.certificate.1 ≡ 0

pub none : (sinks : Sinks) (before behind : ℕ) → AreCounted sinks before behind → AreWorking sinks → behind ≡ before
none sinks before behind counted working =
    counted.certificate.unfailed working.certificate ∙ counted.instances.unfailed working.instances ∙ counted.taxonomy.unfailed working.taxonomy ∙ counted.same

pub untouched : (old new : Sinks) → AreWorking old → new ≡ old → AreWorking new
untouched old new working same = let P : Sinks → Type 0 = AreWorking in subst P (sym same) working

pub written_none : (old new : Sinks) (texts : Texts) (before behind : ℕ) → AreWorking old → AreCounted new before behind → AreWritten old new texts → behind ≡ before
written_none old new texts before behind working counted written =
    none new before behind counted (record { taxonomy = written.0.1 ∙ working.taxonomy; instances = written.1.1 ∙ working.instances; certificate = written.2.1 ∙ working.certificate })

same_device : (old new : Device) → new ≡ old → old.1 ≡ 0 → new.1 ≡ 0
same_device old new same none = ap (λ (d : Device). d.1) same ∙ none

fails_from : (a b before behind : ℕ) → a ≡ before → behind ≡ b → HasFailed a b → HasFailed before behind
fails_from a b before behind first last failed =
    let P : ℕ → Type 0 = λ n. HasFailed n behind in
    let Q : ℕ → Type 0 = λ n. HasFailed a n in
    subst P first (subst Q (sym last) failed)

pub written_some : (n : ℕ) (old new : Sinks) (texts : Texts) (before behind : ℕ) → AreWorking old → AreCounted new before behind → AreWrittenUntil n old new texts → HasFailed before behind
written_some zero old new texts before behind working counted written = absurd written
written_some (suc zero) old new texts before behind working counted written =
    fails_from _ _ before behind counted.same
    (counted.certificate.unfailed (same_device old.certificate new.certificate written.2 working.certificate) ∙ counted.instances.unfailed (same_device old.instances new.instances written.1 working.instances))
    (counted.taxonomy.failed (some_failed old.taxonomy new.taxonomy texts.taxonomy working.taxonomy written.0))
written_some (suc (suc zero)) old new texts before behind working counted written =
    fails_from _ _ before behind (counted.taxonomy.unfailed (written.0.1 ∙ working.taxonomy) ∙ counted.same)
    (counted.certificate.unfailed (same_device old.certificate new.certificate written.2 working.certificate))
    (counted.instances.failed (some_failed old.instances new.instances texts.instances working.instances written.1))
written_some (suc (suc (suc zero))) old new texts before behind working counted written =
    fails_from _ _ before behind (counted.instances.unfailed (written.1.1 ∙ working.instances) ∙ counted.taxonomy.unfailed (written.0.1 ∙ working.taxonomy) ∙ counted.same) refl
    (counted.certificate.failed (some_failed old.certificate new.certificate texts.certificate working.certificate written.2))
written_some (suc (suc (suc (suc n)))) old new texts before behind working counted written = absurd written

-- ---- classifications

pub classifies_file : (s : Store) (version : Version) (format : Format) (facts bytes : ℕ) (held left : Option (List ℕ)) (answer : Result Summary ClassifyFault) (source source' : SourceState) (old new : Sinks) → IsSourceOf s.is_known held source → IsOfFiles s.reads_fail s.is_known source' → AreWorking old → AreCounted new s.failed_before s.failed_behind → IsDocumentRead answer source source' → (IsErrOf answer (classifying.Document reading.TooLarge) → source'.most + bytes < source.most) → IsClassification version format bytes facts left old new answer → ClassifiesFile s held answer
classifies_file s version format facts bytes held left (Ok summary) source source' old new file of working counted read beyond is = (read_there s.is_known held source source' file read, written_none old new is.0 _ _ working counted is.2)
classifies_file s version format facts bytes held left (Err (classifying.Document fault)) source source' old new file of working counted read beyond is =
    (read_blamed s.reads_fail s.is_known held fault bytes source source' file of read (λ same. beyond (ap (λ (f : DocumentFault). Err (classifying.Document f)) same)), none new _ _ counted (untouched old new working is.1))
classifies_file s version format facts bytes held left (Err classifying.Memory) source source' old new file of working counted read beyond is = (read_there s.is_known held source source' file read, none new _ _ counted (untouched old new working is.1))
classifies_file s version format facts bytes held left (Err classifying.Limit) source source' old new file of working counted read beyond is = (read_there s.is_known held source source' file read, none new _ _ counted (untouched old new working is.1))
classifies_file s version format facts bytes held left (Err (classifying.Io n)) source source' old new file of working counted read beyond is = (read_there s.is_known held source source' file read, written_some n old new is.1.1 _ _ working counted is.1.3)
