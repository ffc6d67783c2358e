use Rattle.std.proofs.Common.{◌++◌, ◌≡◌, drop, ℕ}
use Rattle.std.specs.List.{flat_map}
use Rattle.inferred_text.specs.Inferred.{type_axioms}
use Rattle.statements_text.specs.Texts.{statement_line}
use Rattle.taxonomy.specs.Relation.{is_listed, lies_below}
use Rattle.inferred_text.proofs.individuals.push_individuals.Given as goal

abbrev pub invariant-loop-individual : goal.invariant-loop-individual
invariant-loop-individual l =
    let lines = λ (a : ℕ). flat_map statement_line (type_axioms l.ontology.names (lies_below l.fn.groups.rows) (is_listed l.types) a) in record {
      same : l.groups ≡ l.fn.groups;
      text : l.out.items ++ flat_map lines (drop l.individual-index l.individual-items) ≡ l.fn.out.items ++ flat_map lines l.individual-items;
    }
