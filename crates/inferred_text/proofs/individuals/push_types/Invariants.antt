use Rattle.std.proofs.Common.{◌++◌, ◌≡◌, drop, ℕ}
use Rattle.std.specs.List.{filter, flat_map}
use Rattle.inferred_text.specs.Inferred.{is_no_top, type_axiom}
use Rattle.statements_text.specs.Texts.{statement_line}
use Rattle.taxonomy.specs.Relation.{lies_below}
use Rattle.inferred_text.proofs.individuals.push_types.Given as goal

abbrev pub invariant-loop-class : goal.invariant-loop-class
invariant-loop-class l =
    let line = λ (c : ℕ). statement_line (type_axiom l.ontology.names l.individual c) in
    let told = is_no_top (lies_below l.groups.rows) in
    l.out.items ++ flat_map line (filter told (drop l.class-index l.classes)) ≡ l.fn.out.items ++ flat_map line (filter told l.classes)
