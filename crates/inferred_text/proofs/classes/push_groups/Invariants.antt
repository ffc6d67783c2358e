use Rattle.std.proofs.Common.{◌++◌, ◌≡◌, drop, ℕ}
use Rattle.std.specs.List.{filter, flat_map}
use Rattle.inferred_text.specs.Inferred.{group_axioms}
use Rattle.statements_text.specs.Texts.{statement_line}
use Rattle.taxonomy.specs.Relation.{lies_below}
use Rattle.taxonomy.specs.Texts.{in_byte_order, is_no_bottom}
use Rattle.inferred_text.proofs.classes.push_groups.Given as goal

abbrev pub invariant-loop-class : goal.invariant-loop-class
invariant-loop-class l =
    let names = l.ontology.names in
    let r = lies_below l.fn.groups.rows in
    let lines = λ (g : ℕ). flat_map statement_line (group_axioms names r (in_byte_order names.classes) g) in
    let told = is_no_bottom r in record {
      same : l.groups ≡ l.fn.groups;
      text : l.out.items ++ flat_map lines (filter told (drop l.class-index l.class-items)) ≡ l.fn.out.items ++ flat_map lines (filter told l.class-items);
    }
