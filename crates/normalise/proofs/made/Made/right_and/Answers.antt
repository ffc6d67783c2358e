use Rattle.normalise.proofs.Giving.{operand_once}
use Rattle.std.proofs.Common.{ℕ, arith}
use Rattle.std.proofs.lemmas.List.{length-map}
use Rattle.axioms.specs.View.{expr_numbers}
use Rattle.lemmas.proofs.Members.{Contains-from_slice_get, slice_get-from_Contains}
use Rattle.std.proofs.lemmas.Option.{slice_get_within}
use Rattle.normalise.specs.Steps.{BelowOperand}
use Rattle.normalise.proofs.Adding.{below_none, below_more, below_all, from_same}
use Rattle.normalise.proofs.made.Made.right_and.Goals as goal

pub loop-k-init : goal.loop-k-init
loop-k-init c = below_none _ _ _

pub loop-k-preserved : goal.loop-k-preserved
loop-k-preserved c = below_more _ _ _ (operand_once (expr_numbers c.args.operands.now) c.args.whole.0 c.requires) c.loop-k.invariant c.in_ok-right_operand.ensures

pub returns : goal.returns
returns c = from_same c.args.origin (λ g. (n : ℕ) × BelowOperand (expr_numbers c.args.operands.now) c.args.whole.0 n g) _ (λ g h. (h.1.0, Contains-from_slice_get (expr_numbers c.args.operands.now) h.0 h.1.0 h.1.1, h.1.2)) (λ g h. (let p = slice_get-from_Contains (expr_numbers c.args.operands.now) h.0 h.1 in (p.0, (h.0, p.1, h.2))))
    (below_all c.args.origin (BelowOperand (expr_numbers c.args.operands.now) c.args.whole.0) c.loop-k.k (λ n g h. omega (arith, slice_get_within (expr_numbers c.args.operands.now) n h.0 h.1, length-map c.args.operands.now (λ e. e.0), c.loop-k-test.false)) c.loop-k.invariant)
