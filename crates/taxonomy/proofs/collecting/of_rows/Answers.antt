use Rattle.std.proofs.Common.{ap, map, filter, ◌∙◌}
use Rattle.number_sets.specs.Members.{has}
use Rattle.taxonomy.proofs.Collected.{collected_sets, collected_rows}
use Rattle.taxonomy.proofs.collecting.of_rows.Goals as goal

pub returns-clause-sets : goal.returns-clause-sets
returns-clause-sets c =
    collected_sets c.args.rows.now c.in_ok-all.all.items c.in_ok-apart.apart c.in_ok-lists.lists c.in_ok-all.ensures c.in_ok-apart.ensures
    (c.in_ok-lists.ensures ∙ ap (λ ns. map (λ row. filter (has row) ns) c.args.rows.now) c.deref.ensures.value)

pub returns-clause-rows : goal.returns-clause-rows
returns-clause-rows c =
    collected_rows c.args.rows.now c.in_ok-all.all.items c.in_ok-apart.apart c.in_ok-lists.lists c.in_ok-all.ensures c.in_ok-apart.ensures
    (c.in_ok-lists.ensures ∙ ap (λ ns. map (λ row. filter (has row) ns) c.args.rows.now) c.deref.ensures.value) c.requires
