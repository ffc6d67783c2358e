-- Known bytes that stay, and known bytes that are all read.
use Rattle.std.proofs.Common.{ℕ, ◌≤◌, List, length, Option, Some, None, subst}
use Rattle.std.specs.Io.KnownBytes.{Keeps}
use Rattle.certificate.specs.declared.format.Format.{Format}
use Rattle.cli.specs.Classifications.{IsFaultOf}
use Rattle.session.specs.Classifications.{IsClassified}
use Rattle.session.specs.WrittenTexts.{Texts}
use Rattle.classification.specs.declared.classification.Summary.{Summary}
use Rattle.cli.specs.declared.fault.ClassifyFault.{ClassifyFault}
use Rattle.cli.specs.declared.fault.ClassifyFault.TheVariants as classifying
use Rattle.profile.specs.Documents.{OpensAs}
use Rattle.profile.specs.Faults.{OpensKnown}
use Rattle.profile.specs.declared.opened.Opened.{Opened}
use Rattle.program.specs.declared.version.Version.{Version}
use Rattle.receiving.proofs.Kept.{reads_file, refuses_file}

-- ---- what holds of a source's bytes holds of those of its file

pub opens_file : (version : Version) (file left : Option (List ℕ)) (most : ℕ) (d : Opened) → Keeps file left → OpensKnown version left most d → OpensKnown version file most d
opens_file version None left most d kept opens = tt
opens_file version (Some xs) None most d kept opens = absurd kept
opens_file version (Some xs) (Some ys) most d kept opens =
    let P : List ℕ → Type 0 = λ bytes. OpensAs version bytes d × (length bytes ≤ most) in
    subst P kept opens

pub classified_file : (version : Version) (format : Format) (file left : Option (List ℕ)) (bytes facts : ℕ) (summary : Summary) (texts : Texts) → Keeps file left → IsClassified version format bytes facts left summary texts → IsClassified version format bytes facts file summary texts
classified_file version format file left bytes facts summary texts kept is = record {
  ontology = is.ontology;
  reads = reads_file version file left bytes is.ontology kept is.reads;
  well_formed = is.well_formed;
  counts = is.counts;
  within = is.within;
  texts_are = is.texts_are;
  acceptable = is.acceptable;
  right = is.right;
  written = is.written;
}

pub fault_of_file : (version : Version) (format : Format) (file left : Option (List ℕ)) (bytes facts : ℕ) (fault : ClassifyFault) → Keeps file left → IsFaultOf version format bytes facts left fault → IsFaultOf version format bytes facts file fault
fault_of_file version format file left bytes facts (classifying.Document fault) kept is = refuses_file version file left bytes fault kept is
fault_of_file version format file left bytes facts classifying.Memory kept is = (is.0, reads_file version file left bytes is.0 kept is.1)
fault_of_file version format file left bytes facts classifying.Limit kept is = (is.0, reads_file version file left bytes is.0 kept is.1, is.2)
fault_of_file version format file left bytes facts (classifying.Io n) kept is = (is.0, is.1, (is.2.0, is.2.1, classified_file version format file left bytes facts is.2.0 is.2.1 kept is.2.2))
