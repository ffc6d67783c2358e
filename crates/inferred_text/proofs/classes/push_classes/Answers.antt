use Rattle.std.proofs.Common.{◌≡◌, ◌++◌, ℕ, List, OnOk, ap, ◌∙◌, sym, subst}
use Rattle.std.specs.List.{filter, flat_map}
use Rattle.std.proofs.lemmas.List.Concat.{flat_map-append}
use Rattle.inferred_text.specs.Inferred.{group_axioms, sameness}
use Rattle.statements_text.specs.Texts.{statement_line}
use Rattle.taxonomy.specs.Relation.{lies_below}
use Rattle.taxonomy.specs.Texts.{group, groups, in_byte_order, is_no_bottom, nothing_class}
use Rattle.inferred_text.proofs.Distinct.{group_distinct, group_within}
use Rattle.inferred_text.proofs.Pieces.{behind}
use Rattle.inferred_text.proofs.classes.push_classes.Goals as goal

pub push_sameness-requires-clause-within : goal.push_sameness-requires-clause-within
push_sameness-requires-clause-within c =
    group_within (lies_below c.push_groups.new.groups.rows) c.args.ontology.now.names.classes nothing_class c.deref.result.now
    (c.deref.ensures.value ∙ c.in_ok-bottom.ensures
    ∙ ap (λ ns. group (lies_below c.push_groups.new.groups.rows) (in_byte_order ns) nothing_class) (ap (λ g. g.names) c.push_groups.ensures.same ∙ c.requires))

pub push_sameness-requires-clause-distinct : goal.push_sameness-requires-clause-distinct
push_sameness-requires-clause-distinct c =
    group_distinct (lies_below c.push_groups.new.groups.rows) c.push_groups.new.groups.names nothing_class c.deref.result.now (c.deref.ensures.value ∙ c.in_ok-bottom.ensures)

pub returns-clause-lines : goal.returns-clause-lines
returns-clause-lines c =
    let r = lies_below c.args.groups.now.rows in
    let names = c.args.ontology.now.names in
    let out = c.args.out.now.items in
    let all = in_byte_order names.classes in
    let upper = flat_map (group_axioms names r all) (filter (is_no_bottom r) (groups r all)) in
    let bottom = sameness names (group r all nothing_class) in
    let members : c.deref.result.now ≡ group r all nothing_class =
    c.deref.ensures.value ∙ c.in_ok-bottom.ensures
    ∙ ap (λ g. group (lies_below g.rows) (in_byte_order g.names) nothing_class) c.push_groups.ensures.same
    ∙ ap (λ ns. group r (in_byte_order ns) nothing_class) c.requires in
    let whole =
    ap (λ cs. c.push_groups.new.out.items ++ flat_map statement_line (sameness names cs)) members
    ∙ behind out (flat_map statement_line upper) (flat_map statement_line bottom) c.push_groups.new.out.items c.in_ok-push_groups.ensures.lines
    ∙ ap (λ (t : List ℕ). out ++ t) (sym (flat_map-append statement_line upper bottom)) in
    subst (λ (t : List ℕ). OnOk c.push_sameness.result (c.push_sameness.new.out.items ≡ t)) whole c.push_sameness.ensures
