use Rattle.std.proofs.Common.{◌≡◌, length}
use Rattle.inference.specs.Plans.{ArePlans}
use Rattle.inference.proofs.plans.all_plans.Given as goal

abbrev pub invariant-loop-number : goal.invariant-loop-number
invariant-loop-number l = record {
  are : ArePlans l.problem.forms l.plans;
  long : length l.plans ≡ l.number;
}
