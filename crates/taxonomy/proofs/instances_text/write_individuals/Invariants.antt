use Rattle.std.proofs.Common.{◌++◌, ◌≡◌, drop, map}
use Rattle.std.specs.List.{flat_map}
use Rattle.std.specs.String.{string_bytes}
use Rattle.taxonomy.specs.Relation.{is_listed, lies_below}
use Rattle.taxonomy.specs.Texts.{individual_line}
use Rattle.taxonomy.proofs.instances_text.write_individuals.Given as goal

abbrev pub invariant-loop-a : goal.invariant-loop-a
invariant-loop-a l =
    let line = individual_line l.fn.groups.names (map string_bytes l.individuals) (lies_below l.fn.groups.rows) (is_listed l.types) in record {
      same : l.groups ≡ l.fn.groups;
      text : l.out.items ++ flat_map line (drop l.a-index l.order) ≡ l.fn.out.items ++ flat_map line l.order;
    }
