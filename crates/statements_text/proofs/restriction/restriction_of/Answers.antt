use Rattle.std.proofs.Common.{◌∙◌, ◌++◌, ℕ, List, ap, codes, subst, sym}
use Rattle.profile.specs.declared.fault.DocumentFault.{DocumentFault}
use Rattle.shapes.specs.View.{faults_of}
use Rattle.shapes.specs.declared.fault.Fault.{Fault}
use Rattle.statements_text.specs.Restrictions.{IsNotRestricted, kept_trees, report_text}
use Rattle.statements_text.proofs.KeptText.{are_not_restricted, are_restricted}
use Rattle.statements_text.proofs.restriction.restriction_of.Goals as goal

pub returns-in-Ok-written-clause-restricted : goal.returns-in-Ok-written-clause-restricted
returns-in-Ok-written-clause-restricted c = λ version bytes h.
    let made = c.args.made in
    are_restricted version bytes made h c.in-Ok-written.restriction
    (c.in-Ok-written.ensures.text ∙ ap (λ (lines : List ℕ). codes "Ontology(\n" ++ (lines ++ codes ")\n")) c.deref.ensures.value)
    (c.in-Ok-written.ensures.report ∙ ap (λ (found : List Fault). report_text (faults_of found) made.kept made.left_out) c.deref-2.ensures.value)
    c.in-Ok.ontology (c.in-Ok.ensures.read version (kept_trees version h.document.trees) h.whole.reader) c.well_formed-in-Ok.ensures

pub returns-in-Err-clause-refused : goal.returns-in-Err-clause-refused
returns-in-Err-clause-refused c = λ version bytes h.
    subst (λ (e : DocumentFault). IsNotRestricted version e bytes) (sym c.from.ensures)
    (are_not_restricted version bytes c.args.made h c.in-Err.refusal (c.in-Err.ensures.refused version (kept_trees version h.document.trees) h.whole.reader))
