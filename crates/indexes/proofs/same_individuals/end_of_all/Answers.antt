use Rattle.std.proofs.Common.{◌≤◌, rules, arith}
use Rattle.std.proofs.lemmas.List.{take_all}
use Rattle.std.proofs.lemmas.List.Elements.{All-push, All-weaker}
use Rattle.lemmas.proofs.Places.{take_push}
use Rattle.indexes.specs.Groups.{IsBelow}
use Rattle.indexes.proofs.Grouping.{below_more}
use Rattle.indexes.proofs.same_individuals.end_of_all.Goals as goal

pub loop-number-preserved : goal.loop-number-preserved
loop-number-preserved c =
    let end = c.max-end.result in
    let before : c.loop-number.end ≤ end = search rules in
    let here : c.end_of.result ≤ end = search rules in
    record {
      below = rw (take_push c.args.forms.now c.loop-number.number c.at.result c.at.ensures)
          (All-push (IsBelow end) _ c.at.result (All-weaker (IsBelow c.loop-number.end) (IsBelow end) (λ form. below_more c.loop-number.end end form before) _ c.loop-number.invariant.below)
          (below_more c.end_of.result end c.at.result here c.end_of.ensures.below));
      few = search rules;
    }

pub returns-clause-below : goal.returns-clause-below
returns-clause-below c = rw (take_all c.loop-number.number c.args.forms.now (omega (arith, c.loop-number-test.false, c.len-number-end.ensures))) at c.loop-number.invariant.below
