use Rattle.std.proofs.Common.{◌≡◌, All, map, take}
use Rattle.axioms.specs.View.{expr_numbers}
use Rattle.closure.specs.Denotations.{context_of}
use Rattle.answers.specs.Conditions.{IsRightOf}
use Rattle.answers.specs.Findings.{IsFactOf}
use Rattle.answers.proofs.lacking.parts_among.Given as goal

abbrev pub invariant-loop-expression : goal.invariant-loop-expression
invariant-loop-expression l = record {
  numbers : map (λ part. part.expression.0) l.parts.items ≡ expr_numbers (take l.expression-index l.expressions);
  right : All (IsRightOf (IsFactOf l.indexed.ontology l.indexed.saturation.normal.asked (context_of l.subject))) l.parts.items;
}
