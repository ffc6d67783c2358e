use Rattle.std.proofs.Common.{◌≡◌, ◌++◌, ℕ, List, OnOk, ap, ◌∙◌, sym, subst}
use Rattle.std.specs.List.{flat_map}
use Rattle.std.proofs.lemmas.List.Concat.{flat_map-append}
use Rattle.inferred_text.specs.Inferred.{class_axioms, individual_axioms}
use Rattle.statements_text.specs.Texts.{statement_line}
use Rattle.taxonomy.specs.Relation.{is_listed, lies_below}
use Rattle.inferred_text.proofs.Pieces.{behind}
use Rattle.inferred_text.proofs.inferred.push_found.Goals as goal

pub returns : goal.returns
returns c =
    let names = c.args.ontology.now.names in
    let r = lies_below c.args.taxonomy.now in
    let belongs = is_listed c.args.types.now in
    let out = c.args.out.now.items in
    let classes = class_axioms names r in
    let individuals = individual_axioms names r belongs in
    let rows = ap (λ g. g.rows) c.in_ok-groups.ensures in
    let first : c.push_classes.new.out.items ≡ out ++ flat_map statement_line classes =
    c.in_ok-push_classes.ensures.lines ∙ ap (λ rows. out ++ flat_map statement_line (class_axioms names (lies_below rows))) rows in
    let whole =
    ap (λ rows. c.push_classes.new.out.items ++ flat_map statement_line (individual_axioms names (lies_below rows) belongs)) (ap (λ g. g.rows) c.push_classes.ensures.same ∙ rows)
    ∙ behind out (flat_map statement_line classes) (flat_map statement_line individuals) c.push_classes.new.out.items first
    ∙ ap (λ (t : List ℕ). out ++ t) (sym (flat_map-append statement_line classes individuals)) in
    subst (λ (t : List ℕ). OnOk c.push_individuals.result (c.push_individuals.new.out.items ≡ t)) whole c.push_individuals.ensures
