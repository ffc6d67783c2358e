use Rattle.normalise.proofs.Giving.{disjoint_first, row_once}
use Rattle.std.proofs.Common.{ℕ, arith}
use Rattle.std.proofs.lemmas.List.{length-map}
use Rattle.axioms.specs.View.{expr_numbers}
use Rattle.std.proofs.lemmas.Option.{slice_get_within}
use Rattle.normal_forms.specs.Origins.{PairGives, disjoint}
use Rattle.normalise.proofs.Adding.{below_none, below_more, below_all}
use Rattle.normalise.proofs.made.Made.each_apart.Goals as goal

pub loop-m-init : goal.loop-m-init
loop-m-init c = below_none _ _ _

pub loop-m-preserved : goal.loop-m-preserved
loop-m-preserved c = below_more _ _ _ (row_once disjoint disjoint_first (expr_numbers c.args.classes.now) c.requires) c.loop-m.invariant c.in_ok-apart.ensures

pub returns : goal.returns
returns c = below_all c.args.origin (λ m g. (n : ℕ) × PairGives disjoint (expr_numbers c.args.classes.now) m n g) c.loop-m.m (λ m g h. omega (arith, slice_get_within (expr_numbers c.args.classes.now) m h.1.0 h.1.3, length-map c.args.classes.now (λ e. e.0), c.loop-m-test.false)) c.loop-m.invariant
