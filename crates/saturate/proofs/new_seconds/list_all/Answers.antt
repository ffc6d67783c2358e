use Rattle.std.proofs.Common.{⊎_elim, ap, subst, sym, arith}
use Rattle.std.proofs.lemmas.Option.{slice_get_within}
use Rattle.inference.specs.Predicates.{end_of}
use Rattle.inference.proofs.Listing.{before_as, none_from}
use Rattle.saturate.specs.NewSeconds.{IsListedAsSecond}
use Rattle.inference.specs.declared.predicates.Predicate.TheVariants as predicates
use Rattle.saturate.proofs.Flagging.{walked_on}
use Rattle.saturate.proofs.NewSeconds.{more_seconds, same_seconds, still_listed_for}
use Rattle.saturate.proofs.new_seconds.list_all.Goals as goal

pub loop-next-init : goal.loop-next-init
loop-next-init c = record {
  more = same_seconds c.args.facts.now.facts c.args.index.now;
  says = c.last_of-next.ensures.there;
  each = λ from n high says. absurd (none_from (predicates.Property c.args.property) c.args.facts.now.facts _ c.last_of-next.ensures n high says);
}

pub loop-next-preserved : goal.loop-next-preserved
loop-next-preserved c =
    let k = c.args.ground.now in
    let d = c.args.facts.now in
    let q = predicates.Property c.args.property in
    let number = c.in-Some.number in
    let before = c.loop-next.invariant in
    let says = before.says number (ap end_of c.in-Some.is) in
    let last = before_as q d.facts number _ says c.before-next.ensures in
    record {
      more = more_seconds before.more c.in_ok-list_second.ensures.more;
      says = last.there;
      each = λ from n high is. ⊎_elim
          (λ w. still_listed_for from k n c.in_ok-list_second.ensures.more (before.each from n w.0 w.1))
          (λ e. subst (IsListedAsSecond from k d c.list_second.new.index) (sym e) (c.in_ok-list_second.ensures.listed from))
          ((walked_on q d.facts c.loop-next.next number _ c.in-Some.is says last n).1 (high, is));
    }

pub list_second-requires-clause-number : goal.list_second-requires-clause-number
list_second-requires-clause-number c =
    let says = c.loop-next.invariant.says c.in-Some.number (ap end_of c.in-Some.is) in
    slice_get_within c.args.facts.now.facts c.in-Some.number says.0 says.1

pub loop-next-smaller : goal.loop-next-smaller
loop-next-smaller c =
    let says = c.loop-next.invariant.says c.in-Some.number (ap end_of c.in-Some.is) in
    let last = before_as (predicates.Property c.args.property) c.args.facts.now.facts c.in-Some.number _ says c.before-next.ensures in
    omega (arith, last.within, ap end_of c.in-Some.is)

pub returns-in_err-list_second-clause-more : goal.returns-in_err-list_second-clause-more
returns-in_err-list_second-clause-more c = more_seconds c.loop-next.invariant.more c.in_err-list_second.ensures.more

pub returns-clause-listed : goal.returns-clause-listed
returns-clause-listed c = λ from n says. c.loop-next.invariant.each from n (omega (arith, ap end_of c.in_default.is)) says
