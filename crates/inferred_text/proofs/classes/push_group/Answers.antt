use Rattle.std.proofs.Common.{◌≡◌, ◌++◌, ℕ, List, OnOk, length, map, ap, ◌∙◌, sym, subst}
use Rattle.std.specs.List.{filter, flat_map}
use Rattle.std.proofs.lemmas.List.Concat.{flat_map-append}
use Rattle.inferred_text.specs.Inferred.{is_no_top, sameness, subclass_axiom}
use Rattle.statements_text.specs.Texts.{statement_line}
use Rattle.taxonomy.specs.Relation.{lies_below}
use Rattle.taxonomy.specs.Texts.{group, groups, in_byte_order, is_directly_above}
use Rattle.inferred_text.proofs.Distinct.{chosen_within, group_distinct, group_within}
use Rattle.inferred_text.proofs.Pieces.{behind}
use Rattle.inferred_text.proofs.classes.push_group.Goals as goal

pub push_sameness-requires-clause-within : goal.push_sameness-requires-clause-within
push_sameness-requires-clause-within c =
    let r = lies_below c.args.groups.now.rows in
    group_within r c.args.ontology.now.names.classes c.args.class c.deref.result.now
    (c.deref.ensures.value ∙ c.in_ok-members.ensures ∙ ap (λ ns. group r (in_byte_order ns) c.args.class) c.requires.names)

pub push_sameness-requires-clause-distinct : goal.push_sameness-requires-clause-distinct
push_sameness-requires-clause-distinct c =
    group_distinct (lies_below c.args.groups.now.rows) c.args.groups.now.names c.args.class c.deref.result.now (c.deref.ensures.value ∙ c.in_ok-members.ensures)

pub push_above-requires-clause-above : goal.push_above-requires-clause-above
push_above-requires-clause-above c =
    let r = lies_below c.args.groups.now.rows in
    let names = c.args.ontology.now.names.classes in
    chosen_within (is_directly_above r (length names) c.args.class) r names c.deref-2.result.now
    (c.deref-2.ensures.value ∙ c.in_ok-above.ensures.above
    ∙ ap (λ (ns : List (List ℕ)). filter (is_directly_above r (length ns) c.args.class) (groups r (in_byte_order ns))) c.requires.names)

pub returns-clause-line : goal.returns-clause-line
returns-clause-line c =
    let r = lies_below c.args.groups.now.rows in
    let names = c.args.ontology.now.names in
    let class = c.args.class in
    let out = c.args.out.now.items in
    let members = group r (in_byte_order names.classes) class in
    let above = filter (is_directly_above r (length names.classes) class) (groups r (in_byte_order names.classes)) in
    let same = sameness names members in
    let below = map (subclass_axiom names class) (filter (is_no_top r) above) in
    let first : c.push_sameness.new.out.items ≡ out ++ flat_map statement_line same =
    c.in_ok-push_sameness.ensures
    ∙ ap (λ cs. out ++ flat_map statement_line (sameness names cs))
    (c.deref.ensures.value ∙ c.in_ok-members.ensures ∙ ap (λ ns. group r (in_byte_order ns) class) c.requires.names) in
    let whole =
    ap (λ g. c.push_sameness.new.out.items ++ flat_map statement_line (map (subclass_axiom names class) (filter (is_no_top (lies_below g.rows)) c.deref-2.result.now))) c.directly_above.ensures.same
    ∙ ap (λ cs. c.push_sameness.new.out.items ++ flat_map statement_line (map (subclass_axiom names class) (filter (is_no_top r) cs)))
    (c.deref-2.ensures.value ∙ c.in_ok-above.ensures.above
    ∙ ap (λ (ns : List (List ℕ)). filter (is_directly_above r (length ns) class) (groups r (in_byte_order ns))) c.requires.names)
    ∙ behind out (flat_map statement_line same) (flat_map statement_line below) c.push_sameness.new.out.items first
    ∙ ap (λ (t : List ℕ). out ++ t) (sym (flat_map-append statement_line same below)) in
    subst (λ (t : List ℕ). OnOk c.push_above.result (c.push_above.new.out.items ≡ t)) whole c.push_above.ensures
