use Rattle.std.proofs.Common.{◌<◌, ◌++◌, ℕ, List, All, length, ap, ◌∙◌, sym, subst}
use Rattle.std.specs.List.{filter, flat_map}
use Rattle.inferred_text.specs.Inferred.{group_axioms}
use Rattle.statements_text.specs.Texts.{statement_line}
use Rattle.taxonomy.specs.Relation.{lies_below}
use Rattle.taxonomy.specs.Texts.{groups, in_byte_order, is_no_bottom}
use Rattle.inferred_text.proofs.Distinct.{groups_within}
use Rattle.inferred_text.proofs.Pieces.{lines_of_pieces, none_left}
use Rattle.inferred_text.proofs.classes.push_groups.Goals as goal

pub push_group-requires-clause-class : goal.push_group-requires-clause-class
push_group-requires-clause-class c =
    let r = lies_below c.args.groups.now.rows in
    let names = c.args.ontology.now.names.classes in
    let firsts = c.deref-class-items.result.now in
    let all : All (λ d. d < length names) firsts =
    subst (λ cs. All (λ d. d < length names) cs) (sym (c.deref-class-items.ensures.value ∙ c.in_ok-firsts.ensures ∙ ap (λ ns. groups r (in_byte_order ns)) c.requires)) (groups_within r names) in
    all c.loop-class.class-index 0 c.loop-class-test.true

pub returns-clause-lines : goal.returns-clause-lines
returns-clause-lines c =
    let r = lies_below c.args.groups.now.rows in
    let names = c.args.ontology.now.names in
    let axioms = group_axioms names r (in_byte_order names.classes) in
    let lines = λ (g : ℕ). flat_map statement_line (axioms g) in
    let firsts = c.deref-class-items.result.now in
    let out = c.args.out.now.items in
    none_left lines (is_no_bottom r) firsts c.loop-class.class-index c.loop-class.out.items (out ++ flat_map lines (filter (is_no_bottom r) firsts)) c.loop-class-test.false c.loop-class.invariant.text
    ∙ ap (λ cs. out ++ flat_map lines (filter (is_no_bottom r) cs)) (c.deref-class-items.ensures.value ∙ c.in_ok-firsts.ensures ∙ ap (λ ns. groups r (in_byte_order ns)) c.requires)
    ∙ ap (λ (t : List ℕ). out ++ t) (sym (lines_of_pieces statement_line axioms (filter (is_no_bottom r) (groups r (in_byte_order names.classes)))))
