use Rattle.std.proofs.Common.{◌++◌, ◌≡◌, drop, ℕ}
use Rattle.std.specs.List.{filter, flat_map}
use Rattle.inferred_text.specs.Inferred.{is_no_top, subclass_axiom}
use Rattle.statements_text.specs.Texts.{statement_line}
use Rattle.taxonomy.specs.Relation.{lies_below}
use Rattle.inferred_text.proofs.classes.push_above.Given as goal

abbrev pub invariant-loop-h : goal.invariant-loop-h
invariant-loop-h l =
    let line = λ (h : ℕ). statement_line (subclass_axiom l.ontology.names l.class h) in
    let told = is_no_top (lies_below l.groups.rows) in
    l.out.items ++ flat_map line (filter told (drop l.h-index l.above)) ≡ l.fn.out.items ++ flat_map line (filter told l.above)
