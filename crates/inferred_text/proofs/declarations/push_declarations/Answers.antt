use Rattle.std.proofs.Common.{◌≡◌, ◌++◌, ℕ, List, OnOk, ap, ◌∙◌, subst}
use Rattle.std.specs.Prelude.{codes}
use Rattle.inferred_text.proofs.Declared.{all_declared, lines_from}
use Rattle.inferred_text.proofs.Pieces.{in_a_row}
use Rattle.inferred_text.proofs.declarations.push_declarations.Goals as goal

pub returns : goal.returns
returns c =
    let names = c.args.ontology.now.names in
    let out = c.args.out.now.items in
    let classes = lines_from (codes "Class") names.classes 2 in
    let properties = lines_from (codes "ObjectProperty") names.properties 0 in
    let individuals = lines_from (codes "NamedIndividual") names.individuals 0 in
    let first : c.push_names.new.out.items ≡ out ++ classes =
    c.in_ok-push_names.ensures ∙ ap (λ ns. out ++ lines_from (codes "Class") ns 2) c.classes.ensures.names in
    let second : c.push_names-2.new.out.items ≡ c.push_names.new.out.items ++ properties =
    c.in_ok-push_names-2.ensures ∙ ap (λ ns. c.push_names.new.out.items ++ lines_from (codes "ObjectProperty") ns 0) c.properties.ensures.names in
    let whole =
    ap (λ ns. c.push_names-2.new.out.items ++ lines_from (codes "NamedIndividual") ns 0) c.individuals.ensures.names
    ∙ in_a_row out classes properties individuals c.push_names.new.out.items c.push_names-2.new.out.items first second
    ∙ ap (λ t. out ++ t) (all_declared names) in
    subst (λ (t : List ℕ). OnOk c.push_names-3.result (c.push_names-3.new.out.items ≡ t)) whole c.push_names-3.ensures
