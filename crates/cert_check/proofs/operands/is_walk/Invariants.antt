use Rattle.std.proofs.Common.{◌↔◌, map, drop}
use Rattle.axioms.specs.View.{prop_numbers}
use Rattle.certificate.specs.View.{conclusion_of, subject_of}
use Rattle.cert_check.specs.Lines.{IsWalk}
use Rattle.cert_check.proofs.operands.is_walk.Given as goal

abbrev pub invariant-loop-property : goal.invariant-loop-property
invariant-loop-property l =
    IsWalk (subject_of l.fn.source) (prop_numbers l.chain) (subject_of l.target) (map conclusion_of l.fn.premises)
    ↔ IsWalk (subject_of l.reached) (prop_numbers (drop l.property-index l.chain)) (subject_of l.target) (map conclusion_of l.left)
