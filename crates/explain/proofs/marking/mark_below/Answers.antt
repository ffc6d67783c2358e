use Rattle.std.proofs.Common.{[], ◌∷◌, ◌∙◌, ap, arith}
use Rattle.facts.specs.Births.{reason}
use Rattle.lemmas.proofs.Members.{Contains-first, Contains-later}
use Rattle.normalise.specs.Listing.{Listing}
use Rattle.explain.specs.OlderFacts.{rests_on}
use Rattle.explain.proofs.Below.{adds_rests, adds_two, named_below, all_below}
use Rattle.explain.proofs.marking.mark_below.Goals as goal

pub mark-requires : goal.mark-requires
mark-requires c =
    let below = named_below c.args.closed.now.saturation c.normal.result.now c.args.fact.0 (reason c.in-Some.birth.now) _ _ c.normal.ensures c.requires.there c.in-Some.ensures.reason (λ f at. c.well_formed-2.ensures.saturated.born.born c.args.fact.0 f (reason c.in-Some.birth.now) at c.in-Some.ensures.reason) c.in-One.ensures (Contains-first c.in-One.only.0 []) in
    omega (arith, c.requires.marked)

pub mark-requires-in-Two : goal.mark-requires-in-Two
mark-requires-in-Two c =
    let below = named_below c.args.closed.now.saturation c.normal.result.now c.args.fact.0 (reason c.in-Some.birth.now) _ _ c.normal.ensures c.requires.there c.in-Some.ensures.reason (λ f at. c.well_formed-2.ensures.saturated.born.born c.args.fact.0 f (reason c.in-Some.birth.now) at c.in-Some.ensures.reason) c.in-Two.ensures (Contains-first c.in-Two.first.0 (c.in-Two.second.0 ∷ [])) in
    omega (arith, c.requires.marked)

pub mark-requires-in-Two-2 : goal.mark-requires-in-Two-2
mark-requires-in-Two-2 c =
    let below = named_below c.args.closed.now.saturation c.normal.result.now c.args.fact.0 (reason c.in-Some.birth.now) _ _ c.normal.ensures c.requires.there c.in-Some.ensures.reason (λ f at. c.well_formed-2.ensures.saturated.born.born c.args.fact.0 f (reason c.in-Some.birth.now) at c.in-Some.ensures.reason) c.in-Two.ensures (Contains-later c.in-Two.first.0 c.in-Two.second.0 (c.in-Two.second.0 ∷ []) (Contains-first c.in-Two.second.0 [])) in
    omega (arith, c.requires.marked, c.mark-in-Two.ensures.long)

pub returns-in-One-clause-older : goal.returns-in-One-clause-older
returns-in-One-clause-older c = all_below c.args.closed.now.saturation c.args.fact.0 (reason c.in-Some.birth.now) c.requires.there c.in-Some.ensures.reason (λ f at. c.well_formed-2.ensures.saturated.born.born c.args.fact.0 f (reason c.in-Some.birth.now) at c.in-Some.ensures.reason)

pub returns-in-Two-clause-exact : goal.returns-in-Two-clause-exact
returns-in-Two-clause-exact c =
    let r = reason c.in-Some.birth.now in
    adds_rests c.args.closed.now.saturation c.args.fact.0 r (c.in-Two.first.0 ∷ c.in-Two.second.0 ∷ []) c.args.marks.now _ c.in-Some.ensures.reason
    (c.in-Two.ensures ∙ ap (λ (v : Listing). rests_on v.entries r) c.normal.ensures)
    (adds_two c.args.marks.now c.mark-in-Two.new.marks _ c.in-Two.first.0 c.in-Two.second.0 c.mark-in-Two.ensures.exact c.mark-in-Two-2.ensures.exact)

pub returns-in-Two-clause-older : goal.returns-in-Two-clause-older
returns-in-Two-clause-older c = all_below c.args.closed.now.saturation c.args.fact.0 (reason c.in-Some.birth.now) c.requires.there c.in-Some.ensures.reason (λ f at. c.well_formed-2.ensures.saturated.born.born c.args.fact.0 f (reason c.in-Some.birth.now) at c.in-Some.ensures.reason)
