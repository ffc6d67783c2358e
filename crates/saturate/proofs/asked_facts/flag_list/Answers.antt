use Rattle.std.proofs.Common.{arith}
use Rattle.std.proofs.lemmas.Option.{slice_get-get_or}
use Rattle.normal_forms.specs.declared.forms.Class2.TheVariants as classes
use Rattle.inference.specs.declared.predicates.Predicate.TheVariants as predicates
use Rattle.inference.specs.Predicates.{SaysAt}
use Rattle.saturate.proofs.Flagging.{flagged_as, for_all, for_none, for_one_more}
use Rattle.saturate.proofs.Listed.{says_in_list}
use Rattle.saturate.proofs.asked_facts.flag_list.Goals as goal

pub loop-place-init : goal.loop-place-init
loop-place-init c = record {
  long = c.requires;
  too = for_none (λ e. SaysAt (predicates.Class (classes.Expr e)) c.args.facts.now.facts) c.args.list.now c.args.flags.now;
}

pub loop-place-preserved : goal.loop-place-preserved
loop-place-preserved c = record {
  long = omega (arith, c.flag_all.ensures.long, c.loop-place.invariant.long);
  too = for_one_more (λ e. SaysAt (predicates.Class (classes.Expr e)) c.args.facts.now.facts) c.args.list.now c.loop-place.place _ (slice_get-get_or c.args.list.now c.loop-place.place _ c.loop-place-test.true) c.loop-place.invariant.too c.in_ok-flag_all.ensures.ok;
}

pub returns-clause-ok : goal.returns-clause-ok
returns-clause-ok c = flagged_as _ _ (says_in_list c.args.list.now c.args.facts.now.facts)
    (for_all (λ e. SaysAt (predicates.Class (classes.Expr e)) c.args.facts.now.facts) c.args.list.now c.loop-place.place (omega (arith, c.loop-place-test.false)) c.loop-place.invariant.too)
