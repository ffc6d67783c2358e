-- A check of sources of files is one of the files, and says which of them are there.
use Rattle.std.proofs.Common.{◌+◌, ◌<◌, ℕ, zero, suc, List, Bool, Option, Result, Ok, Err, ap, inl, inr}
use Rattle.std.specs.Prelude.{IsErrOf}
use Rattle.std.specs.Io.KnownBytes.{Keeps}
use Rattle.cert_check.specs.declared.verdict.Verdict.{Verdict}
use Rattle.receiving.proofs.Kept.{check_fault_of_file, checked_files}
use Rattle.receiving.proofs.ReadFiles.{IsOfFiles, begun_there, read_blamed, read_there, unreadable}
use Rattle.receiving.specs.Checks.{AreRead, AreTextsReadUntil, IsCertificateRead, IsCheckAnswer, Sources}
use Rattle.receiving.specs.Files.{ChecksFiles, IsSourceOf}
use Rattle.receiving.specs.Runs.{IsCheckedFiles}
use Rattle.receiving.specs.declared.checking.Checked.{Checked}
use Rattle.receiving.specs.declared.fault.CheckFault.{CheckFault}
use Rattle.receiving.specs.declared.fault.CheckFault.TheVariants as checking
use Rattle.command_line.specs.declared.tasks.Paths.{Paths}
use Rattle.profile.specs.declared.fault.DocumentFault.{DocumentFault}
use Rattle.profile.specs.declared.fault.DocumentFault.TheVariants as reading
use Rattle.program.specs.declared.version.Version.{Version}
use Rattle.source_lines.specs.Sources.{SourceState}
use Rattle.system_files.specs.Contents.{Content, IsThere}

-- what an answer says of the bytes of sources it says of those of their files
pub check_answer : (paths : Paths) (version : Version) (most : ℕ) (content : Content) (d t i c : Option (List ℕ)) (answer : Result Checked CheckFault) → Keeps (content paths.document.now) d → Keeps (content paths.taxonomy.now) t → Keeps (content paths.instances.now) i → Keeps (content paths.certificate.now) c → IsCheckAnswer version most d t i c answer → IsCheckedFiles paths version most content answer
check_answer paths version most content d t i c (Ok checked) kd kt ki kc is =
    checked_files version most (content paths.document.now) d (content paths.taxonomy.now) t (content paths.instances.now) i (content paths.certificate.now) c checked.ontology checked.verdict kd kt ki kc is
check_answer paths version most content d t i c (Err fault) kd kt ki kc is = check_fault_of_file version (content paths.document.now) d most fault kd is

-- the sources are those of the four files, of which nothing is read
pub record AreSourcesOf (known : Bool) (content : Content) (paths : Paths) (s : Sources) : Type 0 where
  pub document : IsSourceOf known (content paths.document.now) s.document
  pub taxonomy : IsSourceOf known (content paths.taxonomy.now) s.texts.taxonomy
  pub instances : IsSourceOf known (content paths.instances.now) s.texts.instances
  pub certificate : IsSourceOf known (content paths.certificate.now) s.texts.certificate

-- and these are such at any time
pub record AreOfFiles (fails known : Bool) (s : Sources) : Type 0 where
  pub document : IsOfFiles fails known s.document
  pub taxonomy : IsOfFiles fails known s.texts.taxonomy
  pub instances : IsOfFiles fails known s.texts.instances
  pub certificate : IsOfFiles fails known s.texts.certificate

certificate_there : (known : Bool) (held : Option (List ℕ)) (verdict : Verdict) (old new : SourceState) → IsSourceOf known held old → IsCertificateRead verdict old new → IsThere known held
certificate_there known held verdict old new is (inl whole) = read_there known held old new is whole
certificate_there known held verdict old new is (inr begun) = begun_there known held old new is begun.1

-- the file of a text that was not read, and those before it
text_blamed : (n : ℕ) (fails known : Bool) (content : Content) (paths : Paths) (old new : Sources) → AreSourcesOf known content paths old → AreOfFiles fails known new → IsThere known (content paths.document.now) → AreTextsReadUntil (checking.Io n) old.texts new.texts → ChecksFiles {X = Checked} fails known content paths (Err (checking.Io n))
text_blamed zero fails known content paths old new is of there read = absurd read
text_blamed (suc zero) fails known content paths old new is of there read = absurd read
text_blamed (suc (suc zero)) fails known content paths old new is of there read =
    (there, tt, unreadable fails known _ old.texts.taxonomy new.texts.taxonomy is.taxonomy of.taxonomy read.0)
text_blamed (suc (suc (suc zero))) fails known content paths old new is of there read =
    (there, read_there known _ old.texts.taxonomy new.texts.taxonomy is.taxonomy read.0, unreadable fails known _ old.texts.instances new.texts.instances is.instances of.instances read.1)
text_blamed (suc (suc (suc (suc zero)))) fails known content paths old new is of there read = (
  there,
  (read_there known _ old.texts.taxonomy new.texts.taxonomy is.taxonomy read.0, read_there known _ old.texts.instances new.texts.instances is.instances read.1),
  unreadable fails known _ old.texts.certificate new.texts.certificate is.certificate of.certificate read.2,
)
text_blamed (suc (suc (suc (suc (suc n))))) fails known content paths old new is of there read = absurd read

pub checks_files : (fails known : Bool) (content : Content) (paths : Paths) (limit : ℕ) (old new : Sources) (answer : Result Checked CheckFault) → AreSourcesOf known content paths old → AreOfFiles fails known new → AreRead answer old new → (IsErrOf answer (checking.Document reading.TooLarge) → new.document.most + limit < old.document.most) → ChecksFiles fails known content paths answer
checks_files fails known content paths limit old new (Ok checked) is of read beyond = (
  read_there known _ old.document new.document is.document read.0,
  record {
    taxonomy = read_there known _ old.texts.taxonomy new.texts.taxonomy is.taxonomy read.1.0;
    instances = read_there known _ old.texts.instances new.texts.instances is.instances read.1.1;
    certificate = certificate_there known _ checked.verdict old.texts.certificate new.texts.certificate is.certificate read.1.2;
  },
)
checks_files fails known content paths limit old new (Err (checking.Document fault)) is of read beyond =
    read_blamed fails known _ fault limit old.document new.document is.document of.document read.0 (λ same. beyond (ap (λ (f : DocumentFault). Err (checking.Document f)) same))
checks_files fails known content paths limit old new (Err checking.Memory) is of read beyond = read_there known _ old.document new.document is.document read.0
checks_files fails known content paths limit old new (Err (checking.Io n)) is of read beyond =
    text_blamed n fails known content paths old new is of (read_there known _ old.document new.document is.document read.0) read.1
