use Rattle.std.proofs.Common.{◌≡◌, Some, sym, ap, ◌∙◌, slice_get}
use Rattle.axioms.specs.Ontology.{And}
use Rattle.axioms.specs.View.{expr_numbers}
use Rattle.cert_check.proofs.Places.{of_the_operands}
use Rattle.cert_check.proofs.rules.is_in_each_operand.Goals as goal

pub returns-in-Some-And : goal.returns-in-Some-And
returns-in-Some-And c =
    let node = rw c.in-Some-And.field-0-is at c.in-Some-And.ensures.node in
    let there : slice_get c.args.ontology.now.nodes c.args.intersection.0 ≡ Some (And (expr_numbers c.deref.result.now)) =
    sym node ∙ ap (λ xs. Some (And (expr_numbers xs))) (sym c.deref.ensures.value) in
    of_the_operands _ _ _ _ c.are_in_each.result there c.are_in_each.ensures
