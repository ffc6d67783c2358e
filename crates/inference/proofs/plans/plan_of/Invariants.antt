use Rattle.std.proofs.Common.{take, Contains}
use Rattle.normal_forms.specs.declared.forms.PropId2.{PropId2}
use Rattle.inference.specs.Plans.{HasChainsFrom, SayTheirChains}
use Rattle.inference.proofs.plans.plan_of.Given as goal

abbrev pub invariant-loop-above : goal.invariant-loop-above
invariant-loop-above l = record {
  say : SayTheirChains l.problem.forms l.plan.items;
  has : (r : PropId2) → Contains (take l.above-index l.above-items) r → HasChainsFrom l.problem.forms l.plan.items r;
}
