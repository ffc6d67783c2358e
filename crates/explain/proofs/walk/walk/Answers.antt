use Rattle.std.proofs.Common.{sym, subst, arith}
use Rattle.std.proofs.lemmas.Option.{slice_get-get_or}
use Rattle.explain.specs.Search.{IsTrace}
use Rattle.explain.proofs.WalkingUp.{TracesOn, traces_more, traces_all, no_way}
use Rattle.explain.proofs.walk.walk.Goals as goal

pub loop-at-preserved : goal.loop-at-preserved
loop-at-preserved c =
    let reached = c.args.reached.now in
    let at = c.loop-at.at in
    let way = c.in-Some.way in
    let here = slice_get-get_or reached at _ c.loop-at.invariant.there in record {
      there = omega (arith, c.requires.earlier at _ way here c.in-Some.is, c.loop-at.invariant.there);
      on = subst (TracesOn reached c.args.place way.from) (sym c.in_ok-push.ensures.items) (traces_more reached c.args.place at c.loop-at.numbers.items _ way here c.in-Some.is c.loop-at.invariant.on);
    }

pub returns : goal.returns
returns c =
    let reached = c.args.reached.now in
    let here = slice_get-get_or reached c.loop-at.at _ c.loop-at.invariant.there in
    subst (IsTrace reached c.args.place) (sym c.reverse.ensures.items)
    (traces_all reached c.args.place c.loop-at.at c.loop-at.numbers.items _ here (no_way _ c.in_default.not-Some) c.loop-at.invariant.on)
