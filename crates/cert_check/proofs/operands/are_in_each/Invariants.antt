use Rattle.std.proofs.Common.{◌≡◌, ◌↔◌, map, drop}
use Rattle.axioms.specs.View.{expr_numbers}
use Rattle.certificate.specs.Certificate.{Sub}
use Rattle.certificate.specs.View.{conclusion_of, subject_of}
use Rattle.cert_check.proofs.operands.are_in_each.Given as goal

abbrev pub invariant-loop-operand : goal.invariant-loop-operand
invariant-loop-operand l =
    (map conclusion_of l.fn.premises ≡ map (Sub (subject_of l.subject)) (expr_numbers l.operands))
    ↔ (map conclusion_of l.left ≡ map (Sub (subject_of l.subject)) (expr_numbers (drop l.operand-index l.operands)))
