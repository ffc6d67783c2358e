-- Known bytes that stay, and known bytes that are all read.
use Rattle.std.proofs.Common.{ℕ, ◌++◌, ◌≤◌, List, length, Option, Some, None, sym, ap, subst, ◌∙◌}
use Rattle.std.proofs.lemmas.List.{append-nil}
use Rattle.std.specs.Io.KnownBytes.{Consumes, IsAtEnd, Keeps}
use Rattle.axioms.specs.Ontology.{Ontology}
use Rattle.cert_check.specs.declared.verdict.Verdict.{Verdict}
use Rattle.receiving.specs.Checks.{AreKnown, IsChecked, IsCheckFault}
use Rattle.receiving.specs.declared.fault.CheckFault.{CheckFault}
use Rattle.receiving.specs.declared.fault.CheckFault.TheVariants as checking
use Rattle.profile.specs.Documents.{ReadsAs}
use Rattle.profile.specs.Faults.{ReadsKnown, RefusesKnown}
use Rattle.profile.specs.declared.fault.DocumentFault.{DocumentFault}
use Rattle.profile.specs.declared.fault.DocumentFault.TheVariants as reading
use Rattle.program.specs.declared.version.Version.{Version}

pub all_known : (left rest : Option (List ℕ)) (bytes : List ℕ) → Consumes left rest bytes → IsAtEnd rest → AreKnown left bytes
all_known None rest bytes all end = tt
all_known (Some xs) None bytes all end = absurd all
all_known (Some xs) (Some ys) bytes all end = all ∙ ap (λ zs. bytes ++ zs) end ∙ append-nil bytes

pub reads_file : (version : Version) (file left : Option (List ℕ)) (most : ℕ) (o : Ontology) → Keeps file left → ReadsKnown version left most o → ReadsKnown version file most o
reads_file version None left most o kept reads = tt
reads_file version (Some xs) None most o kept reads = absurd kept
reads_file version (Some xs) (Some ys) most o kept reads =
    let P : List ℕ → Type 0 = λ bytes. ReadsAs version bytes o × (length bytes ≤ most) in
    subst P kept reads

pub refuses_file : (version : Version) (file left : Option (List ℕ)) (most : ℕ) (fault : DocumentFault) → Keeps file left → RefusesKnown version left most fault → RefusesKnown version file most fault
refuses_file version None left most fault kept refuses = tt
refuses_file version (Some xs) None most fault kept refuses = absurd kept
refuses_file version (Some xs) (Some ys) most fault kept refuses =
    let P : List ℕ → Type 0 = λ bytes. RefusesKnown version (Some bytes) most fault in
    subst P kept refuses

-- any document may be refused for want of memory
pub refused_memory : (version : Version) (file : Option (List ℕ)) (most : ℕ) → RefusesKnown version file most reading.Memory
refused_memory version None most = tt
refused_memory version (Some bytes) most = tt

pub known_file : (file left : Option (List ℕ)) (bytes : List ℕ) → Keeps file left → AreKnown left bytes → AreKnown file bytes
known_file None left bytes kept known = tt
known_file (Some xs) None bytes kept known = absurd kept
known_file (Some xs) (Some ys) bytes kept known = sym kept ∙ known

pub check_fault_of_file : (version : Version) (file left : Option (List ℕ)) (most : ℕ) (fault : CheckFault) → Keeps file left → IsCheckFault version most left fault → IsCheckFault version most file fault
check_fault_of_file version file left most (checking.Document fault) kept is = refuses_file version file left most fault kept is
check_fault_of_file version file left most checking.Memory kept is = (is.0, reads_file version file left most is.0 kept is.1)
check_fault_of_file version file left most (checking.Io n) kept is = (is.0, is.1, (is.2.0, reads_file version file left most is.2.0 kept is.2.1))

-- a check of sources is one of their files
pub checked_files : (version : Version) (most : ℕ) (d d' t t' i i' c c' : Option (List ℕ)) (o : Ontology) (verdict : Verdict) → Keeps d d' → Keeps t t' → Keeps i i' → Keeps c c' → IsChecked version most d' t' i' c' o verdict → IsChecked version most d t i c o verdict
checked_files version most d d' t t' i i' c c' o verdict kd kt ki kc checked = record {
  reads = reads_file version d d' most o kd checked.reads;
  well_formed = checked.well_formed;
  taxonomy_text = checked.taxonomy_text;
  instances_text = checked.instances_text;
  certificate_text = checked.certificate_text;
  taxonomy_is = known_file t t' checked.taxonomy_text kt checked.taxonomy_is;
  instances_is = known_file i i' checked.instances_text ki checked.instances_is;
  certificate_is = known_file c c' checked.certificate_text kc checked.certificate_is;
  judged = checked.judged;
  lines = checked.lines;
  accepted = checked.accepted;
  right = checked.right;
}
