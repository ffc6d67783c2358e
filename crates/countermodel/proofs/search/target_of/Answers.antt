use Rattle.std.proofs.Common.{◌≡◌, Contains, sym, ap, ◌∙◌, subst}
use Rattle.std.proofs.lemmas.Bool.{both_ways}
use Rattle.closure.specs.Denotations.{context_of}
use Rattle.engine.specs.Closed.{Closed}
use Rattle.engine.specs.Saturations.{IsSaturated}
use Rattle.facts.specs.declared.contexts.Fact.TheVariants as said
use Rattle.normalise.specs.Problem.{prefixes_of}
use Rattle.countermodel.specs.Searching.{HasElement}
use Rattle.countermodel.proofs.Leading.{leads_by}
use Rattle.countermodel.proofs.Searching.{never_nothing, target_has}
use Rattle.countermodel.proofs.search.target_of.Goals.{else-leads-via-then-leads+else-not-has_nothing, else-leads-via-else-leads}
use Rattle.countermodel.proofs.search.target_of.Goals as goal

pub returns-then-not-has_nothing : goal.returns-then-not-has_nothing
returns-then-not-has_nothing c =
    let o = c.args.indexed.now.ontology in
    let s = c.args.indexed.now.saturation in
    let saturated = subst (λ (k : Closed). IsSaturated k.ontology k.saturation) c.closed-closed.ensures c.well_formed-2.ensures.saturated in
    let x = c.in-Edge.field-0 in
    let y = c.in-Edge.target in
    let is = sym c.get.ensures ∙ c.in-Edge.is ∙ ap (λ p. said.Edge x p y) c.in-Property.is in
    let leads = (leads_by o s.normal.asked c.args.groups.now c.requires.groups (context_of y)).0 (c.leads.ensures.0 c.if-leads.true) in
    let has = target_has o s.normal.asked (prefixes_of s.normal) s.state.facts saturated.facts x y c.in-Property.field-0 (subst (Contains s.state.facts) is c.requires.there) leads
    (λ there. both_ways c.has_nothing.result c.if-not-has_nothing.true (c.has_nothing.ensures.1 there)) in
    (x, c.in-Property.field-0, is, has)

pub returns : goal.returns
returns c = λ y edge.
    let o = c.args.indexed.now.ontology in
    let s = c.args.indexed.now.saturation in
    let saturated = subst (λ (k : Closed). IsSaturated k.ontology k.saturation) c.closed-closed.ensures c.well_formed-2.ensures.saturated in
    let target = c.in-Edge.target in
    let is = sym c.get.ensures ∙ c.in-Edge.is in
    let same : y ≡ target = (let both = sym edge.2 ∙ is in cc) in
    let has : HasElement o s.normal.asked target = subst (HasElement o s.normal.asked) same edge.3 in
    elim c.else-leads.branch [
      | else-leads-via-then-leads+else-not-has_nothing w ↦
          never_nothing o s.normal.asked (prefixes_of s.normal) s.state.facts saturated.facts target has (w.has_nothing.ensures.0 w.if-not-has_nothing.false)
      | else-leads-via-else-leads w ↦
          both_ways c.leads.result w.if-leads.false (c.leads.ensures.1 ((leads_by o s.normal.asked c.args.groups.now c.requires.groups (context_of target)).1 has.1))
    ]
