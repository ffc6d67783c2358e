-- What is kept of a document, and why it may be nothing.
use Rattle.std.proofs.Common.{◌≡◌, ◌∙◌, ℕ, List, [], ◌∷◌, ◌++◌, codes, length, refl, sym, ap, subst}
use Rattle.axioms.specs.Numbering.{Statement}
use Rattle.axioms.specs.Ontology.{Ontology}
use Rattle.axioms.specs.WellFormedness.{IsOntology}
use Rattle.fs_parser.specs.Document.{Document}
use Rattle.fs_parser.specs.Tree.{Tree}
use Rattle.fs_parser.specs.View.{trees_from}
use Rattle.profile.specs.Documents.{AreTextOf, ReadsAs}
use Rattle.profile.specs.Faults.{IsOfForms, Refuses, of_refusal}
use Rattle.profile.specs.Reading.{AreReadAs, Refuses as RefusesTrees}
use Rattle.profile.specs.declared.acceptance.Refusal.{Refusal}
use Rattle.profile.specs.declared.acceptance.Refusal.TheVariants as refusing
use Rattle.profile.specs.declared.fault.DocumentFault.{DocumentFault}
use Rattle.profile.specs.declared.fault.DocumentFault.TheVariants as faults
use Rattle.program.specs.declared.version.Version.{Version}
use Rattle.shapes.specs.Faults.{Fault, document_faults}
use Rattle.shapes.specs.View.{faults_of}
use Rattle.shapes.specs.declared.fault.Fault as code
use Rattle.std.specs.Prelude.{string_bytes}
use Rattle.statements_text.specs.Restricting.{IsWhole, IsWholeOf}
use Rattle.statements_text.specs.Restrictions.{AreRestricted, IsNotRestricted, IsRestricted, kept_statements, kept_trees, report_text}
use Rattle.statements_text.specs.Terms.{lines_text, statement_terms}
use Rattle.statements_text.specs.Texts.{document_text}
use Rattle.statements_text.specs.declared.restriction.Restricting.{Restricting}
use Rattle.statements_text.specs.declared.restriction.Restriction.{Restriction}
use Rattle.statements_text.proofs.Keeping.{all_sound, kept_count, kept_faultless, kept_said, kept_terms}
use Rattle.statements_text.proofs.Read.{reads}
use Rattle.statements_text.proofs.Texts.{same_text}

module _ (version : Version) (d : Document) (made : Restricting) (whole : IsWhole version d.trees made) where
  abbrev kept : List Tree
  kept = kept_trees version d.trees

  abbrev ss : List Statement
  ss = kept_statements version d.trees

  lines_are : made.lines.items ≡ lines_text (statement_terms ss)
  lines_are = whole.lines ∙ ap lines_text (kept_terms version kept (all_sound version d.trees))

  restricted_to : (r : Restriction) → r.text.items ≡ codes "Ontology(\n" ++ (made.lines.items ++ codes ")\n") → string_bytes r.report ≡ report_text (faults_of made.faults.items) made.kept made.left_out →
      (o : Ontology) → AreReadAs version (trees_from kept) o → IsOntology o → (bytes : List ℕ) → AreTextOf bytes d → IsRestricted version d r
  restricted_to r text_is report_is o read well bytes text =
      let is : r.text.items ≡ document_text ss =
      text_is ∙ ap (λ (lines : List ℕ). codes "Ontology(\n" ++ (lines ++ codes ")\n")) lines_are ∙ sym (same_text ss) in
      record {
        text = is;
        ontology = o;
        numbered = read.ontology;
        reads = subst (λ (b : List ℕ). ReadsAs version b o) (sym is) (reads version ss o (kept_said version bytes d text) read.ontology read.few_names well);
        report =
            report_is
            ∙ ap (λ (fs : List Fault). report_text fs made.kept made.left_out) whole.faults
            ∙ ap (λ (n : ℕ). report_text (document_faults version d.trees) n made.left_out) (whole.kept ∙ sym (kept_count version kept (all_sound version d.trees)))
            ∙ ap (λ (n : ℕ). report_text (document_faults version d.trees) (length ss) n) whole.left_out;
      }

-- kept trees have no faults
none_found : (found : List code.Fault) → faults_of found ≡ [] → found ≡ []
none_found [] h = refl
none_found (f ∷ fs) h = absurd (cc)

module _ (version : Version) (bytes : List ℕ) (made : Restricting) (h : IsWholeOf version bytes made) where
  pub are_restricted : (r : Restriction) → r.text.items ≡ codes "Ontology(\n" ++ (made.lines.items ++ codes ")\n") → string_bytes r.report ≡ report_text (faults_of made.faults.items) made.kept made.left_out →
      (o : Ontology) → AreReadAs version (trees_from (kept_trees version h.document.trees)) o → IsOntology o → AreRestricted version bytes r
  are_restricted r text_is report_is o read well =
      record { document = h.document; text = h.text; restricted = restricted_to version h.document made h.whole r text_is report_is o read well bytes h.text }

  pub are_not_restricted : (r : Refusal) → RefusesTrees version r (trees_from (kept_trees version h.document.trees)) → IsNotRestricted version (of_refusal r) bytes
  are_not_restricted (refusing.Faults found) k = k.1 (none_found found.items (sym k.0 ∙ kept_faultless version (kept_trees version h.document.trees) (all_sound version h.document.trees)))
  are_not_restricted refusing.TooManyNames k = record { document = h.document; text = h.text; many = k.1 }
  are_not_restricted refusing.Memory k = tt

-- a fault of tokens or of forms is one of the whole
pub no_forms : (version : Version) (e : DocumentFault) (bytes : List ℕ) → Refuses version e bytes → IsOfForms e → IsNotRestricted version e bytes
no_forms version (faults.Lex fault) bytes h k = h
no_forms version (faults.Parse fault) bytes h k = h
no_forms version faults.Memory bytes h k = tt
no_forms version _ bytes h k = absurd k
