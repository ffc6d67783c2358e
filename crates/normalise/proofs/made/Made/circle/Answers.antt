use Rattle.normalise.proofs.Giving.{circle_once, subsumed_first}
use Rattle.std.proofs.Common.{arith}
use Rattle.std.proofs.lemmas.List.{length-map}
use Rattle.axioms.specs.View.{expr_numbers}
use Rattle.std.proofs.lemmas.Option.{slice_get_within}
use Rattle.normal_forms.specs.Origins.{CircleGives, subsumed}
use Rattle.normalise.proofs.Adding.{below_none, below_more, below_all}
use Rattle.normalise.proofs.made.Made.circle.Goals as goal

pub loop-k-init : goal.loop-k-init
loop-k-init c = below_none _ _ _

pub loop-k-preserved : goal.loop-k-preserved
loop-k-preserved c = below_more _ _ _ (circle_once subsumed subsumed_first (expr_numbers c.args.classes.now) c.requires) c.loop-k.invariant c.in_ok-circle_step.ensures

pub returns : goal.returns
returns c = below_all c.args.origin (CircleGives subsumed (expr_numbers c.args.classes.now)) c.loop-k.k (λ n g h. omega (arith, slice_get_within (expr_numbers c.args.classes.now) n h.0 h.2, length-map c.args.classes.now (λ e. e.0), c.loop-k-test.false)) c.loop-k.invariant
