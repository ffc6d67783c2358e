use Rattle.std.proofs.Common.{◌++◌, ◌≡◌, drop}
use Rattle.std.specs.List.{filter, flat_map}
use Rattle.taxonomy.specs.Relation.{lies_below}
use Rattle.taxonomy.specs.Texts.{group_line, groups, in_byte_order, is_no_bottom}
use Rattle.taxonomy.proofs.taxonomy_text.write_groups.Given as goal

abbrev pub invariant-loop-g : goal.invariant-loop-g
invariant-loop-g l =
    let r = lies_below l.fn.groups.rows in
    let order = in_byte_order l.fn.groups.names in
    let line = group_line l.fn.groups.names r order in record {
      same : l.groups ≡ l.fn.groups;
      text : l.out.items ++ flat_map line (filter (is_no_bottom r) (drop l.g-index l.g-items)) ≡ l.fn.out.items ++ flat_map line (filter (is_no_bottom r) (groups r order));
    }
