use Rattle.std.proofs.Common.{◌≡◌, All, map, take}
use Rattle.closure.specs.Denotations.{context_of}
use Rattle.answers.specs.Conditions.{IsRightOf, numbers_of, parts_of, stated_pair}
use Rattle.answers.specs.Findings.{IsFactOf}
use Rattle.answers.proofs.lacking.conditions_with_parts.Given as goal

abbrev pub invariant-loop-stated : goal.invariant-loop-stated
invariant-loop-stated l = record {
  stated : map numbers_of l.found.items ≡ map (λ (number, f). (number, parts_of l.indexed.ontology f)) (map stated_pair (take l.stated-index l.stated-items));
  right : All (λ condition. All (IsRightOf (IsFactOf l.indexed.ontology l.indexed.saturation.normal.asked (context_of l.subject))) condition.parts.items) l.found.items;
}
