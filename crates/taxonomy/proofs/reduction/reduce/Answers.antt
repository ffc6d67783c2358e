use Rattle.std.proofs.Common.{◌∙◌}
use Rattle.taxonomy.proofs.Sizes.{preorder_listed}
use Rattle.taxonomy.proofs.reduction.reduce.Goals as goal

pub invariant_of-result : goal.invariant_of-result
invariant_of-result c = preorder_listed c.in_ok-above.above c.args.relation.now c.in_ok-above.ensures.sets (c.in_ok-above.ensures.rows ∙ c.relation.view_is) c.requires
