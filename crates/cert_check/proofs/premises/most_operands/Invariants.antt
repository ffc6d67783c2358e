use Rattle.std.proofs.Common.{ℕ, ◌<◌, ◌≤◌, slice_get}
use Rattle.cert_check.specs.Premises.{operand_count}
use Rattle.cert_check.proofs.premises.most_operands.Given as goal

abbrev pub invariant-loop-number : goal.invariant-loop-number
invariant-loop-number l = (c : ℕ) → c < l.number → operand_count (slice_get l.ontology.nodes c) ≤ l.most
