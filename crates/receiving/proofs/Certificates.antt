-- What is read of a certificate's source, and what the verdict on it is on.
use Rattle.std.proofs.Common.{◌≡◌, ℕ, zero, suc, List, [], ◌++◌, Option, Some, None, Err, inl, inr, refl, sym, subst, arith}
use Rattle.std.proofs.lemmas.List.Elements.{All-nil}
use Rattle.std.specs.Prelude.{IsErrOf}
use Rattle.std.specs.Io.KnownBytes.{Consumes}
use Rattle.std.proofs.KnownBytes.{Consumes-nil}
use Rattle.axioms.specs.Ontology.{Ontology}
use Rattle.axioms.specs.WellFormedness.{IsOntology}
use Rattle.cert_check.specs.SourceVerdicts.{IsBadText, IsJudgedFrom, IsVerdictWith}
use Rattle.cert_check.specs.declared.verdict.Reason.TheVariants.{AxiomFails, BadLine, BadText, ClaimDisagrees, ClaimMissing, IndividualDisagrees, InstancesDiffer, NoContradiction, TaxonomyDiffers}
use Rattle.cert_check.specs.declared.verdict.Verdict.{Verdict}
use Rattle.cert_check.specs.declared.verdict.Verdict.TheVariants.{Accepted, Rejected}
use Rattle.certificate.specs.Certificate.{Certificate}
use Rattle.certificate.specs.declared.format.Format.TheVariants.{One}
use Rattle.certificate.specs.Prefixes.{IsNoText}
use Rattle.certificate.specs.SourceReading.{StopsGoingOn}
use Rattle.certificate.specs.Text.{certificate_text}
use Rattle.certificate.specs.Writability.{IsSomeTextOf}
use Rattle.receiving.proofs.Kept.{all_known}
use Rattle.receiving.specs.Checks.{AreKnown, AreRead, AreTwoTextsRead, IsCertificateJudged, IsCertificateRead, IsCheckFault, IsChecked, IsRead, IsTextRead, IsUnjudged, Sources}
use Rattle.receiving.specs.declared.fault.CheckFault.{CheckFault}
use Rattle.receiving.specs.declared.fault.CheckFault.TheVariants.{Document, Memory, Io}
use Rattle.profile.specs.Faults.{ReadsKnown}
use Rattle.profile.specs.declared.fault.DocumentFault.{DocumentFault}
use Rattle.program.specs.declared.version.Version.{Version}
use Rattle.source_lines.specs.Sources.{FailsInReading, Gives, IsReadOn, IsReadToItsEnd, SourceState}

-- a source that gave some bytes and did not fail is read on
read_on : (old new : SourceState) (taken : List ℕ) → Gives old new taken → new.failures ≡ old.failures → IsReadOn old new
read_on old new taken given unfailed = record { lost = (taken, given.consumed, given.fell); unfailed = unfailed }

-- a certificate of no lines, which lists nothing
abbrev empty : Certificate
empty = record { lines = []; listed = None }

abbrev empty_text : List ℕ
empty_text = certificate_text One empty

empty_is : (o : Ontology) → IsSomeTextOf o empty_text empty
empty_is o = (One, record { has_text = record { lines = All-nil _; listed = tt; premises = All-nil _; numbers = All-nil _; written = tt }; spelled = refl })

-- not every text is that of none
some_text : (o : Ontology) (t i taken : List ℕ) (at : ℕ) → taken ≡ [] → ((rest : List ℕ) → IsVerdictWith o t i (taken ++ rest) (Rejected (BadText at))) → ⊥
some_text o t i taken at none is =
    let P : List ℕ → Type 0 = λ front. IsNoText o (front ++ empty_text) at in
    let bad : IsNoText o empty_text at = subst P none (is empty_text).verdict in
    bad.none empty (empty_is o)

-- so where it is that the text is that of none, whatever comes behind what the source gave, it gave something
some_given : (o : Ontology) (t i taken : List ℕ) (v : Verdict) → IsBadText v → ((rest : List ℕ) → IsVerdictWith o t i (taken ++ rest) v) → ¬ (taken ≡ [])
some_given o t i taken (Rejected (BadText at)) bad is none = some_text o t i taken at none is
some_given o t i taken (Rejected (BadLine number)) bad is none = bad
some_given o t i taken (Rejected (AxiomFails a)) bad is none = bad
some_given o t i taken (Rejected (ClaimMissing c)) bad is none = bad
some_given o t i taken (Rejected (ClaimDisagrees c)) bad is none = bad
some_given o t i taken (Rejected (IndividualDisagrees a)) bad is none = bad
some_given o t i taken (Rejected NoContradiction) bad is none = bad
some_given o t i taken (Rejected (TaxonomyDiffers at)) bad is none = bad
some_given o t i taken (Rejected (InstancesDiffer at)) bad is none = bad
some_given o t i taken Accepted bad is none = bad

-- what was read of a certificate on which there is a verdict
pub certificate_read : (o : Ontology) (taxonomy instances : List ℕ) (old new : SourceState) (verdict : Verdict) → IsJudgedFrom o taxonomy instances old new verdict → IsCertificateRead verdict old new
certificate_read o taxonomy instances old new verdict is =
    elim is.judged [
      | inl whole ↦ inl (record { on = read_on old new is.taken is.given is.unfailed; end = whole.0 })
      | inr bad ↦ inr (bad.0, record { taken = is.taken; some = some_given o taxonomy instances is.taken verdict bad.0 bad.1; given = is.given; unfailed = is.unfailed })
    ]

-- a source that stops the check failed
certificate_failed : (o : Ontology) (old new : SourceState) → StopsGoingOn o old new → FailsInReading old new
certificate_failed o old new stops = record { lost = (stops.taken, stops.given.consumed, stops.given.fell); failed = stops.failed }

-- the bytes that a source gave, and those that it has left, are all that it had
with_rest : (left rest : Option (List ℕ)) (bytes : List ℕ) → Consumes left rest bytes → (others : List ℕ) × AreKnown left (bytes ++ others)
with_rest None rest bytes all = ([], tt)
with_rest (Some xs) None bytes all = absurd all
with_rest (Some xs) (Some ys) bytes all = (ys, all)

on_all : (o : Ontology) (taxonomy instances : List ℕ) (old new : SourceState) (verdict : Verdict) → IsJudgedFrom o taxonomy instances old new verdict → IsCertificateJudged o taxonomy instances old.left verdict
on_all o taxonomy instances old new verdict is =
    elim is.judged [
      | inl whole ↦ record { certificate_text = is.taken; certificate_is = all_known old.left new.left is.taken is.given.consumed whole.0; judged = whole.1 }
      | inr bad ↦
          let all = with_rest old.left new.left is.taken is.given.consumed in
          record { certificate_text = is.taken ++ all.0; certificate_is = all.1; judged = bad.1 all.0 }
    ]

-- the verdict is on the two texts, and on all the bytes of the source
pub certificate_judged : (o : Ontology) (taxonomy instances given given' : List ℕ) (old new : SourceState) (verdict : Verdict) → given ≡ taxonomy → given' ≡ instances → IsJudgedFrom o given given' old new verdict → IsCertificateJudged o taxonomy instances old.left verdict
certificate_judged o taxonomy instances given given' old new verdict same same' is =
    let P : List ℕ → Type 0 = λ t. IsCertificateJudged o t instances old.left verdict in
    let Q : List ℕ → Type 0 = λ i. IsCertificateJudged o given i old.left verdict in
    subst P same (subst Q same' (on_all o given given' old new verdict is))

-- ---- the first two texts

unmoved : (s : SourceState) → IsReadOn s s
unmoved s = record { lost = ([], Consumes-nil s.left, omega arith); unfailed = refl }

-- the first of them is not read
pub taxonomy_unread : (X Y : Type 0) (fault : CheckFault) (old new instances : SourceState) → IsTextRead {X = X} 2 (Err fault) old new → AreTwoTextsRead {X = Y} (Err fault) (old, instances) (new, instances)
taxonomy_unread X Y (Document other) old new instances read = absurd read
taxonomy_unread X Y Memory old new instances read = (read, unmoved instances)
taxonomy_unread X Y (Io n) old new instances read =
    let P : ℕ → Type 0 = λ number. AreTwoTextsRead {X = Y} (Err (Io number)) (old, instances) (new, instances) in
    subst P (sym read.0) (read.1, refl)

-- the second is not
pub instances_unread : (X Y : Type 0) (fault : CheckFault) (taxonomy taxonomy' old new : SourceState) → IsReadToItsEnd taxonomy taxonomy' → IsTextRead {X = X} 3 (Err fault) old new → AreTwoTextsRead {X = Y} (Err fault) (taxonomy, old) (taxonomy', new)
instances_unread X Y (Document other) taxonomy taxonomy' old new all read = absurd read
instances_unread X Y Memory taxonomy taxonomy' old new all read = (all.on, read)
instances_unread X Y (Io n) taxonomy taxonomy' old new all read =
    let P : ℕ → Type 0 = λ number. AreTwoTextsRead {X = Y} (Err (Io number)) (taxonomy, old) (taxonomy', new) in
    subst P (sym read.0) (all, read.1)

-- ---- a check that ends without a verdict behind the document

pub same_fault : (X : Type 0) (fault other : CheckFault) → IsErrOf {T = X} (Err fault) other → fault ≡ other
same_fault X fault other same = cc

-- the fault is one of the texts, and this was read of the sources
pub record EndsIn (version : Version) (most : ℕ) (document : Option (List ℕ)) (old new : Sources) (fault : CheckFault) : Type 0 where
  pub answered : IsCheckFault version most document fault
  pub read : AreRead (Err fault) old new
  pub read_document : (other : DocumentFault) → fault ≡ Document other → ⊥

-- it is one of the first two texts, and the certificate's source is not touched
pub ends_before : (X : Type 0) (version : Version) (most : ℕ) (document : Option (List ℕ)) (old new : Sources) (fault : CheckFault) → IsRead version most document → IsReadToItsEnd old.document new.document → new.texts.certificate ≡ old.texts.certificate → AreTwoTextsRead {X = X} (Err fault) (old.texts.taxonomy, old.texts.instances) (new.texts.taxonomy, new.texts.instances) → EndsIn version most document old new fault
ends_before X version most document old new (Document other) is all same read = absurd read
ends_before X version most document old new Memory is all same read =
    let P : SourceState → Type 0 = λ s. IsReadOn old.texts.certificate s in
    record { answered = is; read = (all, (read.0, read.1, subst P (sym same) (unmoved old.texts.certificate))); read_document = λ other e. cc }
ends_before X version most document old new (Io zero) is all same read = absurd read
ends_before X version most document old new (Io (suc zero)) is all same read = absurd read
ends_before X version most document old new (Io (suc (suc zero))) is all same read =
    record { answered = (omega arith, omega arith, is); read = (all, (read.0, read.1, same)); read_document = λ other e. cc }
ends_before X version most document old new (Io (suc (suc (suc zero)))) is all same read =
    record { answered = (omega arith, omega arith, is); read = (all, (read.0, read.1, same)); read_document = λ other e. cc }
ends_before X version most document old new (Io (suc (suc (suc (suc n))))) is all same read = absurd read

-- so it is not one of the certificate
pub never_fourth : (X : Type 0) (old new : SourceState × SourceState) (fault : CheckFault) → AreTwoTextsRead {X = X} (Err fault) old new → fault ≡ Io 4 → ⊥
never_fourth X old new fault read same = let P : CheckFault → Type 0 = λ f. AreTwoTextsRead {X = X} (Err f) old new in subst P same read

-- it is one of the certificate, behind the other two
pub ends_unjudged : (version : Version) (most : ℕ) (document : Option (List ℕ)) (o : Ontology) (old new : Sources) (fault : CheckFault) → IsRead version most document → IsReadToItsEnd old.document new.document → IsReadToItsEnd old.texts.taxonomy new.texts.taxonomy → IsReadToItsEnd old.texts.instances new.texts.instances → IsUnjudged o old.texts.certificate new.texts.certificate fault → EndsIn version most document old new fault
ends_unjudged version most document o old new (Document other) is all taxonomy instances unjudged = absurd unjudged
ends_unjudged version most document o old new Memory is all taxonomy instances unjudged =
    record { answered = is; read = (all, (taxonomy.on, instances.on, unjudged)); read_document = λ other e. cc }
ends_unjudged version most document o old new (Io n) is all taxonomy instances unjudged =
    let P : ℕ → Type 0 = λ number. EndsIn version most document old new (Io number) in
    subst P (sym unjudged.0)
    (record { answered = (omega arith, omega arith, is); read = (all, (taxonomy, instances, certificate_failed o old.texts.certificate new.texts.certificate unjudged.1)); read_document = λ other e. cc })

-- ---- a check that ends with one

pub checked : (version : Version) (most : ℕ) (d t i c : Option (List ℕ)) (o : Ontology) (taxonomy instances : List ℕ) (verdict : Verdict) → ReadsKnown version d most o → IsOntology o → AreKnown t taxonomy → AreKnown i instances → IsCertificateJudged o taxonomy instances c verdict → IsChecked version most d t i c o verdict
checked version most d t i c o taxonomy instances verdict reads well_formed taxonomy_is instances_is is = record {
  reads = reads;
  well_formed = well_formed;
  taxonomy_text = taxonomy;
  instances_text = instances;
  certificate_text = is.certificate_text;
  taxonomy_is = taxonomy_is;
  instances_is = instances_is;
  certificate_is = is.certificate_is;
  judged = is.judged.verdict;
  lines = is.judged.lines;
  accepted = is.judged.accepted;
  right = is.judged.says;
}
