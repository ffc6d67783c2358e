use Rattle.std.proofs.Common.{◌∙◌, ap, get_or, slice_get, Some, sym, subst, ◌≡◌}
use Rattle.std.proofs.lemmas.Option.{slice_get-get_or}
use Rattle.countermodel.specs.FactsOf.{AddsFacts}
use Rattle.std.proofs.Common.{take, ◌+◌}
use Rattle.countermodel.proofs.PartFacts.{all_pushed, one_pushed}
use Rattle.countermodel.proofs.facts_of.push_facts.Goals as goal

pub loop-number-preserved : goal.loop-number-preserved
loop-number-preserved c =
    let all = c.args.all.now in
    let numbers = c.args.numbers.now in
    let k = c.loop-number.number-index in
    let fact = c.in_ok-clone.field-0 in
    let at : slice_get all (get_or numbers k 0) ≡ Some fact = slice_get-get_or all (get_or numbers k 0) _ (c.requires k 0 c.loop-number-test.true) ∙ ap Some (sym (c.in_ok-clone.ensures.cases ∙ c.index-all-number.is)) in
    subst (AddsFacts all (take (k + 1) numbers) c.args.facts.now.items) (sym c.in_ok-push.ensures.items) (one_pushed all numbers c.args.facts.now.items c.loop-number.facts.items k 0 fact c.loop-number-test.true at c.loop-number.invariant)

pub returns : goal.returns
returns c = all_pushed c.args.all.now c.args.numbers.now c.args.facts.now.items c.loop-number.facts.items c.loop-number.number-index c.loop-number-test.false c.loop-number.invariant
