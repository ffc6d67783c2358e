use Rattle.std.proofs.Common.{◌≡◌, length, take}
use Rattle.normal_forms.specs.declared.forms.Class2.TheVariants as classes
use Rattle.inference.specs.declared.predicates.Predicate.TheVariants as predicates
use Rattle.inference.specs.Predicates.{SaysAt}
use Rattle.saturate.specs.Flags.{AreFlaggedToo, IsSuchForOne}
use Rattle.saturate.proofs.asked_facts.flag_list.Given as goal

abbrev pub invariant-loop-place : goal.invariant-loop-place
invariant-loop-place l = record {
  long : length l.flags ≡ length l.facts.facts;
  too : AreFlaggedToo (IsSuchForOne (λ c. SaysAt (predicates.Class (classes.Expr c)) l.facts.facts) (take l.place l.list)) l.fn.flags l.flags;
}
