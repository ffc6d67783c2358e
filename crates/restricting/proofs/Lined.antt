-- Reports by lines.
use Rattle.std.proofs.Common.{◌≡◌, ◌∙◌, ℕ, List, [], Bool, true, false, Result, Ok, Err, ap, length, refl, string_bytes, subst, sym}
use Rattle.std.specs.Prelude.{IfOk}
use Rattle.fs_parser.specs.Document.{Document}
use Rattle.profile.proofs.OneReading.{one_document}
use Rattle.profile.specs.Documents.{AreTextOf}
use Rattle.profile.specs.Faults.{HaveFaults}
use Rattle.profile.specs.declared.fault.DocumentFault.{DocumentFault}
use Rattle.program.specs.declared.version.Version.{Version}
use Rattle.restricting.specs.Reports.{AreReported, report_by}
use Rattle.shapes.specs.Faults.{Fault, document_faults}
use Rattle.shapes.specs.View.{faults_of}
use Rattle.shapes.specs.declared.fault.Fault as code
use Rattle.statements_text.specs.Restrictions.{AreRestricted, faulty, kept_statements, report_text}
use Rattle.statements_text.specs.declared.restriction.Restriction.{Restriction}

-- a report without lines
pub plainly : (version : Version) (bytes : List ℕ) (answer : Result Restriction DocumentFault) (lines : Bool) → lines ≡ false → IfOk answer (AreRestricted version bytes) → IfOk answer (AreReported lines version bytes)
plainly version bytes (Ok r) lines unlined are =
    let P : Bool → Type 0 = λ l. AreReported l version bytes r in
    subst P (sym unlined) (record { plain = r; are = are; text = refl; report = are.restricted.report })
plainly version bytes (Err e) lines unlined are = tt

-- a report by lines, in the place of one without
pub with_lines : (version : Version) (bytes : List ℕ) (found : List code.Fault) (plain r : Restriction) (given : List ℕ) → r.text ≡ plain.text → HaveFaults version bytes found → AreRestricted version bytes plain → given ≡ string_bytes plain.report → ((kept left_out : ℕ) → given ≡ report_text (faults_of found) kept left_out → string_bytes r.report ≡ report_by true bytes (faults_of found) kept left_out) → AreReported true version bytes r
with_lines version bytes found plain r given text has are same told =
    let d = are.document in
    let all : document_faults version d.trees ≡ faults_of found = ap (λ (e : Document). document_faults version e.trees) (one_document bytes d has.document are.text has.text) ∙ has.all in
    let kept = length (kept_statements version d.trees) in
    let left_out = faulty version d.trees in
    let R : List Fault → Type 0 = λ fs. given ≡ report_text fs kept left_out in
    let T : List Fault → Type 0 = λ fs. string_bytes r.report ≡ report_by true bytes fs kept left_out in
    record { plain = plain; are = are; text = text; report = subst T (sym all) (told kept left_out (subst R all (same ∙ are.restricted.report))) }

-- of a document without faults both are one
pub faultless_lines : (version : Version) (bytes : List ℕ) (faultless : Document) (answer : Result Restriction DocumentFault) → AreTextOf bytes faultless → document_faults version faultless.trees ≡ [] → IfOk answer (AreRestricted version bytes) → IfOk answer (AreReported true version bytes)
faultless_lines version bytes faultless (Ok r) text none are =
    let d = are.document in
    let silent : document_faults version d.trees ≡ [] = ap (λ (e : Document). document_faults version e.trees) (one_document bytes d faultless are.text text) ∙ none in
    let kept = length (kept_statements version d.trees) in
    let left_out = faulty version d.trees in
    let R : List Fault → Type 0 = λ fs. string_bytes r.report ≡ report_text fs kept left_out in
    let T : List Fault → Type 0 = λ fs. string_bytes r.report ≡ report_by true bytes fs kept left_out in
    record { plain = r; are = are; text = refl; report = subst T (sym silent) (subst R silent are.restricted.report) }
faultless_lines version bytes faultless (Err e) text none are = tt
