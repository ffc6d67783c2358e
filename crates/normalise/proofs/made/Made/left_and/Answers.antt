use Rattle.normalise.proofs.Giving.{and_once}
use Rattle.std.proofs.Common.{arith}
use Rattle.std.proofs.lemmas.List.{length-map}
use Rattle.axioms.specs.View.{expr_numbers}
use Rattle.std.proofs.lemmas.Option.{slice_get_within}
use Rattle.normal_forms.specs.Origins.{AndGives}
use Rattle.normalise.proofs.Adding.{from_none, below_more, below_all}
use Rattle.normalise.proofs.Giving.{take_first}
use Rattle.normalise.proofs.made.Made.left_and.Goals as goal

pub loop-k-init : goal.loop-k-init
loop-k-init c = (λ l. take_first (expr_numbers c.args.operands.now) c.expr_at.result.0 c.expr_at.ensures, from_none c.args.self.now c.args.origin _ (λ g h. omega (arith, h.1, h.2.1)))

pub loop-k-preserved : goal.loop-k-preserved
loop-k-preserved c =
    (λ l. c.in_ok-shorter.ensures.starts (omega (arith, l, length-map c.args.operands.now (λ e. e.0))), below_more _ _ _ (and_once (expr_numbers c.args.operands.now) c.args.whole.0) c.loop-k.invariant.1 c.in_ok-shorter.ensures.adds)

pub returns : goal.returns
returns c = below_all c.args.origin (AndGives (expr_numbers c.args.operands.now) c.args.whole.0) c.loop-k.k (λ n g h. omega (arith, slice_get_within (expr_numbers c.args.operands.now) n h.0 h.2, length-map c.args.operands.now (λ e. e.0), c.loop-k-test.false)) c.loop-k.invariant.1
