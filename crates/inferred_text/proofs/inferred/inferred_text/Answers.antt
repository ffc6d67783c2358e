use Rattle.std.proofs.Common.{◌++◌, ℕ, List, ap, ◌∙◌, sym}
use Rattle.std.specs.List.{flat_map}
use Rattle.std.specs.Prelude.{codes}
use Rattle.std.proofs.lemmas.List.Concat.{flat_map-append}
use Rattle.inferred_text.specs.Inferred.{declarations, inferred_axioms}
use Rattle.statements_text.specs.Texts.{statement_line}
use Rattle.inferred_text.proofs.Pieces.{document_made}
use Rattle.inferred_text.proofs.inferred.inferred_text.Goals as goal

pub returns : goal.returns
returns c =
    let names = c.args.ontology.now.names in
    let axioms = inferred_axioms names c.args.outcome.now in
    document_made (codes "Ontology(\n") (flat_map statement_line (declarations names)) (flat_map statement_line axioms) (codes ")\n")
    c.extend_from_slice.new.self.items c.push_declarations.new.out.items c.push_outcome.new.out.items c.extend_from_slice-2.new.self.items
    (c.in_ok-extend_from_slice.ensures.items ∙ ap (λ (t : List ℕ). t ++ codes "Ontology(\n") c.new-out.ensures.items)
    c.in_ok-push_declarations.ensures c.in_ok-push_outcome.ensures c.in_ok-extend_from_slice-2.ensures.items
    ∙ ap (λ (t : List ℕ). (codes "Ontology(\n" ++ t) ++ codes ")\n") (sym (flat_map-append statement_line (declarations names) axioms))
