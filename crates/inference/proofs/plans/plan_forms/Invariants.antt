use Rattle.std.proofs.Common.{take, Contains}
use Rattle.inference.specs.Plans.{PlansAlso}
use Rattle.inference.proofs.plans.plan_forms.Given as goal

abbrev pub invariant-loop-number : goal.invariant-loop-number
invariant-loop-number l = PlansAlso l.problem.forms (Contains (take l.number-index l.numbers)) l.fn.plan.items l.plan.items
