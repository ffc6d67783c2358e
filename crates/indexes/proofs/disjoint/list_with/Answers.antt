use Rattle.std.proofs.Common.{get_or, arith}
use Rattle.std.proofs.lemmas.List.Elements.{Contains-get_or}
use Rattle.std.proofs.lemmas.Option.{slice_get-get_or}
use Rattle.indexes.proofs.Pairing.{blank, first_passed, found, no_first}
use Rattle.indexes.proofs.disjoint.list_with.Goals as goal

pub bounds-operands-place : goal.bounds-operands-place
bounds-operands-place c = c.requires.there _ (Contains-get_or c.args.firsts.now c.loop-first.first 0 c.loop-first-test.true)

pub returns-then-other-place-2-clause-some : goal.returns-then-other-place-2-clause-some
returns-then-other-place-2-clause-some c =
    let operands = c.args.operands.now in
    let firsts = c.args.firsts.now in
    let i = c.loop-first.first in
    let p = get_or firsts i 0 in
    found operands c.requires.lists firsts c.args.seconds.now i c.loop-first.second c.loop-first.invariant c.requires.firsts c.requires.seconds c.loop-first-test.true c.if-second-seconds.false
    (get_or operands p blank) (slice_get-get_or operands p blank (c.requires.there p (Contains-get_or firsts i 0 c.loop-first-test.true))) c.if-other-place.false (omega (arith, c.if-other-place.false, c.if-other-place-2.true))

pub loop-first-preserved : goal.loop-first-preserved
loop-first-preserved c =
    let operands = c.args.operands.now in
    let firsts = c.args.firsts.now in
    let i = c.loop-first.first in
    let p = get_or firsts i 0 in
    first_passed operands c.requires.lists firsts c.args.seconds.now i c.loop-first.second c.loop-first.invariant c.requires.firsts c.requires.seconds c.loop-first-test.true c.if-second-seconds.false
    (get_or operands p blank) (slice_get-get_or operands p blank (c.requires.there p (Contains-get_or firsts i 0 c.loop-first-test.true))) (omega (arith, c.if-other-place.false, c.if-other-place-2.false))

pub returns-clause-none : goal.returns-clause-none
returns-clause-none c = λ _. no_first c.args.operands.now c.requires.lists c.args.firsts.now c.args.seconds.now c.loop-first.first c.loop-first.second c.loop-first.invariant c.loop-first-test.false
