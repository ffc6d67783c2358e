use Rattle.std.proofs.Common.{◌≡◌, ◌+◌, ◌++◌, drop, get_or, map, sym, ap, ◌∙◌, append_assoc}
use Rattle.std.specs.List.{flat_map}
use Rattle.std.specs.String.{string_bytes}
use Rattle.std.proofs.lemmas.List.{at_drop_more}
use Rattle.axioms.specs.Ontology.{name_at}
use Rattle.taxonomy.specs.Grouped.{Grouped}
use Rattle.taxonomy.specs.Relation.{is_listed, lies_below}
use Rattle.taxonomy.specs.Superclasses.{is_among}
use Rattle.taxonomy.specs.Texts.{individual_line, least_groups, line_with}
use Rattle.taxonomy.proofs.instances_text.write_individuals.Goals as goal

pub loop-a-preserved : goal.loop-a-preserved
loop-a-preserved c =
    let grouped : Grouped = c.args.groups.now in
    let names = grouped.names in
    let individuals = map string_bytes c.args.individuals.now in
    let r = lies_below grouped.rows in
    let line = individual_line names individuals r (is_listed c.args.types.now) in
    let order = c.args.order.now in
    let i = c.loop-a.a-index in
    let a = get_or order i 0 in
    let out = c.loop-a.out.items in
    let rest = flat_map line (drop (i + 1) order) in
    let step : flat_map line (drop i order) ≡ line a ++ rest = at_drop_more (flat_map line) order i 0 c.loop-a-test.true in
    let same : c.put_least.new.self ≡ grouped = c.put_least.ensures.same ∙ c.loop-a.invariant.same in
    let found = c.in_ok-put_least.ensures.least
    ∙ ap (λ (g : Grouped). least_groups g.names (lies_below g.rows) (is_among c.at.result.now)) c.loop-a.invariant.same
    ∙ ap (λ ts. least_groups names r (is_among ts)) c.at.ensures in
    let written : c.write_line.new.out.items ≡ out ++ line a =
    c.in_ok-write_line.ensures
    ∙ ap (λ ns. out ++ line_with ns (name_at individuals a) c.deref.result.now) (c.names.ensures ∙ ap (λ (g : Grouped). g.names) same)
    ∙ ap (λ ts. out ++ line_with names (name_at individuals a) ts) (c.deref.ensures.value ∙ found) in
    record {
      same = same;
      text = rw written (append_assoc out (line a) rest ∙ ap (λ t. out ++ t) (sym step) ∙ c.loop-a.invariant.text);
    }
