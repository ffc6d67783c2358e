use Rattle.std.proofs.Common.{refl}
use Rattle.std.proofs.lemmas.List.Elements.{Contains-get_or}
use Rattle.normal_forms.specs.declared.forms.PropId2.{PropId2}
use Rattle.normal_forms.proofs.Suffice.{suffice}
use Rattle.saturate.specs.Requests.{BeginsWith, HasForm, NamesAbove}
use Rattle.saturate.proofs.Asking.{asked_as, begins_above, names_above}
use Rattle.inference.proofs.Drawing.{each_more, each}
use Rattle.saturate.proofs.asked_facts.asks_for_edges.Goals as goal

pub returns-then-begins_with-clause-yes : goal.returns-then-begins_with-clause-yes
returns-then-begins_with-clause-yes c = λ _ all closed.
    let items = c.supers-above-items.result.now in
    let p = c.args.property in
    let there = Contains-get_or items c.loop-above.above-index _ c.loop-above-test.true in
    let low = ((c.supers-above-items.ensures.exact _).0 there).1 in
    asked_as (λ form. BeginsWith form _) (λ form. NamesAbove all form p) c.args.added.now.forms (begins_above all p _ ((suffice all p _ (p, p)).0.0 (rw (← closed.same) low))) (c.begins_with.ensures.yes c.if-begins_with.true)

pub loop-above-preserved : goal.loop-above-preserved
loop-above-preserved c =
    let items = c.supers-above-items.result.now in
    let P : PropId2 → Type 0 = λ r. HasForm (λ form. BeginsWith form r) c.args.added.now.forms → ⊥ in
    each_more P P items items c.loop-above.above-index _ refl c.loop-above-test.true c.loop-above.invariant (λ r none. none) (c.begins_with.ensures.no c.if-begins_with.false)

pub returns-clause-no : goal.returns-clause-no
returns-clause-no c = λ _ all closed named.
    let items = c.supers-above-items.result.now in
    let p = c.args.property in
    let P : PropId2 → Type 0 = λ r. HasForm (λ form. BeginsWith form r) c.args.added.now.forms → ⊥ in
    let above = names_above all p named.0 named.2 in
    each P items items c.loop-above.above-index refl c.loop-above-test.false c.loop-above.invariant above.0
    ((c.supers-above-items.ensures.exact above.0).1 (c.requires, rw closed.same ((suffice all p above.0 (p, p)).0.1 above.1)))
    (named.0, named.1, above.2)
