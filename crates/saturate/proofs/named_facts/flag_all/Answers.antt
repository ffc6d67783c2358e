use Rattle.std.proofs.Common.{ap, arith}
use Rattle.std.proofs.lemmas.Option.{slice_get_within}
use Rattle.inference.specs.Predicates.{end_of}
use Rattle.inference.proofs.Listing.{before_as, none_from}
use Rattle.saturate.proofs.Flagging.{all_walked, flagged_as, flagged_both, flagged_one, none_too, walked_on}
use Rattle.saturate.proofs.named_facts.flag_all.Goals as goal

pub loop-next-init : goal.loop-next-init
loop-next-init c = record {
  long = c.requires;
  says = c.last_of-next.ensures.there;
  too = none_too _ c.args.flags.now (λ n w. none_from c.args.predicate c.args.facts.now.facts _ c.last_of-next.ensures n w.0 w.1);
}

pub loop-next-preserved : goal.loop-next-preserved
loop-next-preserved c =
    let facts = c.args.facts.now.facts in
    let q = c.args.predicate in
    let number = c.in-Some.number in
    let before = c.loop-next.invariant in
    let says = before.says number (ap end_of c.in-Some.is) in
    let last = before_as q facts number _ says c.before-next.ensures in
    record {
      long = omega (arith, c.add.ensures.long, before.long);
      says = last.there;
      too = flagged_as _ _ (walked_on q facts c.loop-next.next number _ c.in-Some.is says last) (flagged_both _ _ before.too (flagged_one number c.in_ok-add.ensures.ok));
    }

pub add-requires : goal.add-requires
add-requires c =
    let says = c.loop-next.invariant.says c.in-Some.number (ap end_of c.in-Some.is) in
    omega (arith, slice_get_within c.args.facts.now.facts c.in-Some.number says.0 says.1, c.loop-next.invariant.long)

pub loop-next-smaller : goal.loop-next-smaller
loop-next-smaller c =
    let says = c.loop-next.invariant.says c.in-Some.number (ap end_of c.in-Some.is) in
    let last = before_as c.args.predicate c.args.facts.now.facts c.in-Some.number _ says c.before-next.ensures in
    omega (arith, last.within, ap end_of c.in-Some.is)

pub returns-clause-ok : goal.returns-clause-ok
returns-clause-ok c = flagged_as _ _ (all_walked c.args.predicate c.args.facts.now.facts c.loop-next.next c.in_default.is) c.loop-next.invariant.too
