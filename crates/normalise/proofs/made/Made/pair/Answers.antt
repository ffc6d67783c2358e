use Rattle.std.proofs.Common.{refl}
use Rattle.axioms.specs.View.{expr_numbers}
use Rattle.normal_forms.specs.Forms.{Whole}
use Rattle.normalise.proofs.Giving.{pair_adds}
use Rattle.normal_forms.specs.Origins.{disjoint}
use Rattle.axioms.specs.Ontology.{nothing}
use Rattle.normalise.proofs.made.Made.pair.Goals as goal

pub returns : goal.returns
returns c = pair_adds c.args.origin disjoint (expr_numbers c.args.classes.now) c.args.m c.args.n c.expr_at.result.0 c.expr_at-2.result.0 c.requires.later c.expr_at.ensures c.expr_at-2.ensures (c.in_ok-add.ensures.forms (disjoint c.expr_at.result.0 c.expr_at-2.result.0) (Whole c.expr_at.result.0, Whole c.expr_at-2.result.0, Whole nothing, refl, refl, refl, refl))
