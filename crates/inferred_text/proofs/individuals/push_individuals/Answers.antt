use Rattle.std.proofs.Common.{◌≡◌, ◌+◌, ◌++◌, ℕ, Bool, List, refl, drop, get_or, length, map, ap, ◌∙◌, sym, append_assoc}
use Rattle.std.specs.List.{filter, flat_map}
use Rattle.std.proofs.lemmas.List.{append-nil, at_drop_all, at_drop_more}
use Rattle.inferred_text.specs.Inferred.{is_no_top, type_axiom, type_axioms}
use Rattle.statements_text.specs.Texts.{statement_line}
use Rattle.taxonomy.specs.Relation.{is_listed, lies_below}
use Rattle.taxonomy.specs.Superclasses.{is_among}
use Rattle.taxonomy.specs.Texts.{in_byte_order, least_among, least_groups}
use Rattle.taxonomy.proofs.Arranged.{order_below}
use Rattle.inferred_text.proofs.Distinct.{chosen_within}
use Rattle.inferred_text.proofs.Pieces.{lines_of_pieces}
use Rattle.inferred_text.proofs.individuals.push_individuals.Goals as goal

pub push_types-requires-clause-individual : goal.push_types-requires-clause-individual
push_types-requires-clause-individual c =
    let names = c.args.ontology.now.names.individuals in
    order_below names (length names) c.deref-individual-items.result.now
    (c.deref-individual-items.ensures.value ∙ c.in_ok-order.ensures ∙ ap in_byte_order c.individuals.ensures.names) refl c.loop-individual.individual-index 0 c.loop-individual-test.true

pub push_types-requires-clause-classes : goal.push_types-requires-clause-classes
push_types-requires-clause-classes c =
    let r = lies_below c.loop-individual.groups.rows in
    let names = c.args.ontology.now.names.classes in
    let belongs = is_among c.at.result.now in
    chosen_within (least_among (length names) r belongs) r names c.deref.result.now
    (c.deref.ensures.value ∙ c.in_ok-least.ensures.least ∙ ap (λ ns. least_groups ns r belongs) (ap (λ g. g.names) c.loop-individual.invariant.same ∙ c.requires))

pub loop-individual-preserved : goal.loop-individual-preserved
loop-individual-preserved c =
    let names = c.args.ontology.now.names in
    let r = lies_below c.args.groups.now.rows in
    let lines = λ (a : ℕ). flat_map statement_line (type_axioms names r (is_listed c.args.types.now) a) in
    let order = c.deref-individual-items.result.now in
    let i = c.loop-individual.individual-index in
    let a = get_or order i 0 in
    let out = c.loop-individual.out.items in
    let rest = flat_map lines (drop (i + 1) order) in
    let told : (g : List (List Bool)) → List ℕ → List ℕ = λ g cs. out ++ flat_map statement_line (map (type_axiom names a) (filter (is_no_top (lies_below g)) cs)) in
    let written : c.push_types.new.out.items ≡ out ++ lines a =
    c.in_ok-push_types.ensures
    ∙ ap (λ g. told g.rows c.deref.result.now) (c.least.ensures.same ∙ c.loop-individual.invariant.same)
    ∙ ap (told c.args.groups.now.rows)
    (c.deref.ensures.value ∙ c.in_ok-least.ensures.least
    ∙ ap (λ g. least_groups g.names (lies_below g.rows) (is_among c.at.result.now)) c.loop-individual.invariant.same
    ∙ ap (λ ns. least_groups ns r (is_among c.at.result.now)) c.requires
    ∙ ap (λ ts. least_groups names.classes r (is_among ts)) c.at.ensures) in
    record {
      same = c.least.ensures.same ∙ c.loop-individual.invariant.same;
      text = rw written (append_assoc out (lines a) rest ∙ ap (λ (t : List ℕ). out ++ t) (sym (at_drop_more (flat_map lines) order i 0 c.loop-individual-test.true)) ∙ c.loop-individual.invariant.text);
    }

pub returns : goal.returns
returns c =
    let names = c.args.ontology.now.names in
    let axioms = type_axioms names (lies_below c.args.groups.now.rows) (is_listed c.args.types.now) in
    let lines = λ (a : ℕ). flat_map statement_line (axioms a) in
    let order = c.deref-individual-items.result.now in
    let out = c.args.out.now.items in
    let last = c.loop-individual.out.items in
    sym (append-nil last) ∙ ap (λ (t : List ℕ). last ++ t) (sym (at_drop_all (flat_map lines) order c.loop-individual.individual-index c.loop-individual-test.false)) ∙ c.loop-individual.invariant.text
    ∙ ap (λ as'. out ++ flat_map lines as') (c.deref-individual-items.ensures.value ∙ c.in_ok-order.ensures ∙ ap in_byte_order c.individuals.ensures.names)
    ∙ ap (λ (t : List ℕ). out ++ t) (sym (lines_of_pieces statement_line axioms (in_byte_order names.individuals)))
