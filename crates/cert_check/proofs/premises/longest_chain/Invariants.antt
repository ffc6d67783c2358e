use Rattle.std.proofs.Common.{◌≡◌, ℕ, ◌<◌, ◌≤◌, slice_get, Some}
use Rattle.axioms.specs.View.{axiom_of}
use Rattle.axioms.specs.declared.terms.Axiom.{Axiom}
use Rattle.cert_check.specs.Premises.{chain_length}
use Rattle.cert_check.proofs.premises.longest_chain.Given as goal

abbrev pub invariant-loop-stated : goal.invariant-loop-stated
invariant-loop-stated l = (k : ℕ) (a : Axiom) → k < l.stated-index → slice_get l.stated-items k ≡ Some a → chain_length (axiom_of a) ≤ l.longest
