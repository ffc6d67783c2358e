use Rattle.std.proofs.Common.{◌≡◌, ◌≤◌, ℕ, List, get_or, length, slice_get, Some, refl, subst}
use Rattle.std.proofs.lemmas.Option.{slice_get-get_or}
use Rattle.number_sets.specs.Pieces.{list_at}
use Rattle.answers.specs.Neighbours.{IsFartherOf}
use Rattle.answers.proofs.MarkedFacts.{At, no_step, one_mark, only_at}
use Rattle.answers.proofs.Nearing.{far_from}
use Rattle.answers.proofs.nearest.mark_farther.Goals as goal

pub loop-high-init : goal.loop-high-init
loop-high-init c = no_step _ _ _ refl

pub loop-high-preserved : goal.loop-high-preserved
loop-high-preserved c =
    let xs = list_at c.args.lists.now c.args.low in
    let gives = IsFartherOf c.args.lists.now c.args.marks.now c.args.side c.args.low in
    let k = c.loop-high.high-index in
    let x = get_or c.at-high-items.result.now k 0 in
    let at = subst (λ (l : List ℕ). slice_get l k ≡ Some x) c.at-high-items.ensures (slice_get-get_or c.at-high-items.result.now k 0 c.loop-high-test.true) in
    one_mark (At xs gives) c.args.far.now k c.loop-high.far c.mark.new.marks c.farther_of.result c.loop-high.invariant
    (only_at xs gives k x at c.farther_of.result c.farther_of.ensures) c.mark.ensures.long c.mark.ensures.exact

pub returns-clause-long : goal.returns-clause-long
returns-clause-long c = c.loop-high.invariant.long

pub returns-clause-exact : goal.returns-clause-exact
returns-clause-exact c =
    far_from c.args.lists.now c.args.marks.now c.args.side c.args.low c.args.far.now c.loop-high.high-index c.loop-high.far
    (subst (λ (l : List ℕ). length l ≤ c.loop-high.high-index) c.at-high-items.ensures c.loop-high-test.false) c.loop-high.invariant
