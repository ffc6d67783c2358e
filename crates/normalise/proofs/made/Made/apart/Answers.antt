use Rattle.normalise.proofs.Giving.{disjoint_second, pair_once}
use Rattle.normalise.proofs.Adding.{from_none}
use Rattle.normalise.specs.View.{Below}
use Rattle.std.proofs.Common.{◌+◌}
use Rattle.std.proofs.Common.{arith}
use Rattle.std.proofs.lemmas.List.{length-map}
use Rattle.axioms.specs.View.{expr_numbers}
use Rattle.std.proofs.lemmas.Option.{slice_get_within}
use Rattle.normal_forms.specs.Origins.{PairGives, disjoint}
use Rattle.normalise.proofs.Adding.{below_more, below_all}
use Rattle.normalise.proofs.made.Made.apart.Goals as goal

pub loop-n-init : goal.loop-n-init
loop-n-init c = from_none c.args.self.now c.args.origin (Below (PairGives disjoint (expr_numbers c.args.classes.now) c.args.m) (c.args.m + 1)) (λ g h. omega (arith, h.1, h.2.2))

pub loop-n-preserved : goal.loop-n-preserved
loop-n-preserved c = below_more _ _ _ (pair_once disjoint disjoint_second (expr_numbers c.args.classes.now) c.requires.distinct c.args.m) c.loop-n.invariant c.in_ok-pair.ensures

pub returns : goal.returns
returns c = below_all c.args.origin (PairGives disjoint (expr_numbers c.args.classes.now) c.args.m) c.loop-n.n (λ n g h. omega (arith, slice_get_within (expr_numbers c.args.classes.now) n h.1 h.4, length-map c.args.classes.now (λ e. e.0), c.loop-n-test.false)) c.loop-n.invariant
