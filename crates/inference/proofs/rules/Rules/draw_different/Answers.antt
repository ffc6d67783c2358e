use Rattle.std.proofs.Common.{◌≡◌, ◌<◌, ◌∙◌, [], Some, ap, get_or, length, subst, sym}
use Rattle.std.proofs.lemmas.Option.{slice_get-get_or}
use Rattle.inference.specs.Sameness.{IsDifferenceDrawn}
use Rattle.inference.proofs.Growth.{grows_trans}
use Rattle.inference.proofs.Differing.{all_lists, lists_more}
use Rattle.inference.proofs.Drawing.{draws}
use Rattle.inference.proofs.rules.Rules.draw_different.Goals as goal

pub draw_list-requires-clause-list : goal.draw_list-requires-clause-list
draw_list-requires-clause-list c =
    let lists = c.args.self.now.problem.now.apart.individuals in
    let number = c.loop-number.number in
    let at : c.at.result.now ≡ get_or lists number [] = rw c.apart.ensures at c.at.ensures in
    let low : number < length lists = rw (c.len-number-end.ensures, c.apart.ensures) at c.loop-number-test.true in
    rw (c.in-Ok.ensures.1) (slice_get-get_or lists number [] low ∙ ap Some (sym at))

pub loop-number-preserved : goal.loop-number-preserved
loop-number-preserved c =
    let s = c.draw_list.ensures.grows in
    record {
      grows = grows_trans c.loop-number.invariant.grows s;
      drawn = lists_more c.loop-number.number s c.loop-number.invariant.drawn
          (subst (IsDifferenceDrawn c.args.self.now.problem.now c.draw_list.new.facts.facts) (c.in-Ok.ensures.1) c.in_ok-draw_list.ensures.drawn);
    }

pub returns : goal.returns
returns c = draws c.loop-number.invariant.grows (all_lists c.args.self.now.problem.now c.loop-number.facts.facts c.loop-number.number (rw (c.len-number-end.ensures, c.apart.ensures) at c.loop-number-test.false) c.loop-number.invariant.drawn)
