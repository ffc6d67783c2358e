use Rattle.std.proofs.Common.{arith}
use Rattle.listed_model.proofs.Given.{ascends_pairs}
use Rattle.narrowing.proofs.Each.{is_narrowed}
use Rattle.narrowing.proofs.listing.narrowed.Goals as goal

pub returns-then-branch : goal.returns-then-branch
returns-then-branch c = is_narrowed c.args.listed (c.in_ok-stands_in_each.ensures.0 c.if-branch.true)

pub invariant_of-renumbered : goal.invariant_of-renumbered
invariant_of-renumbered c = record { ascend = ascends_pairs c.in_ok-used.used.items c.in_ok-used.ensures.ascend; few = omega arith }

pub returns : goal.returns
returns c = record {
  used = c.in_ok-used.used.items;
  ascend = c.in_ok-used.ensures.ascend;
  exact = c.in_ok-used.ensures.exact;
  narrowed = c.renumbered.ensures;
}
