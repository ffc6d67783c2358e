use Rattle.std.proofs.Common.{◌≡◌, ◌<◌, ◌≤◌, ◌↔◌, Contains, length, slice_get, Some, sym, ap, ◌∙◌, subst, arith}
use Rattle.std.proofs.lemmas.Option.{slice_get-get_or}
use Rattle.axioms.specs.Ontology.{Ontology}
use Rattle.closure.specs.Denotations.{context_of}
use Rattle.engine.specs.Closed.{Closed}
use Rattle.engine.specs.Saturations.{IsSaturated}
use Rattle.facts.specs.declared.contexts.Context.{Context}
use Rattle.indexes.specs.FactIndex.{IsFrom}
use Rattle.normalise.specs.Problem.{prefixes_of}
use Rattle.countermodel.specs.Leading.{AreGroupsOf}
use Rattle.countermodel.specs.Searching.{IsSearch, IsStart, LeadByFacts}
use Rattle.countermodel.specs.Sets.{IsWithin}
use Rattle.countermodel.proofs.PartFacts.{numbers_within}
use Rattle.countermodel.proofs.Searching.{IsStep, begun, followed, led_step, same_added, seen_reached}
use Rattle.countermodel.proofs.search.reached_from.Goals as goal

pub begun-requires-clause-groups : goal.begun-requires-clause-groups
begun-requires-clause-groups c =
    let is = c.ontology-ontology.ensures ∙ ap (λ (k : Closed). k.ontology) c.closed-closed.ensures in
    (c.args.indexed.now.saturation.normal.asked, subst (λ (o : Ontology). AreGroupsOf o c.args.indexed.now.saturation.normal.asked c.args.groups.now) (sym is) c.requires.groups)

pub begun-requires-clause-within : goal.begun-requires-clause-within
begun-requires-clause-within c =
    let is = c.ontology-ontology.ensures ∙ ap (λ (k : Closed). k.ontology) c.closed-closed.ensures in
    subst (λ (o : Ontology). IsWithin o (context_of c.args.from)) (sym is) c.requires.within

pub loop-next-init : goal.loop-next-init
loop-next-init c =
    let is = c.ontology-ontology.ensures ∙ ap (λ (k : Closed). k.ontology) c.closed-closed.ensures in
    let search = c.in_ok-search.search in
    begun c.args.indexed.now.ontology c.args.indexed.now.saturation.normal.asked c.args.from search.found.items search.seen (subst (λ (o : Ontology). IsSearch o search) is c.in_ok-search.ensures.search)
    (subst (λ (o : Ontology). (x : Context) → Contains search.found.items x ↔ IsStart o c.args.from (length o.names.individuals) x) is c.in_ok-search.ensures.started)

pub returns-then-next-len-clause-search : goal.returns-then-next-len-clause-search
returns-then-next-len-clause-search c = c.loop-next.invariant.marked

pub returns-then-next-len-clause-reached : goal.returns-then-next-len-clause-reached
returns-then-next-len-clause-reached c =
    let found = c.loop-next.search.found.items in
    let done : length found ≤ c.loop-next.next = omega (arith, c.if-next-len.true, c.len.ensures, c.loop-next.search.found.ok) in
    seen_reached c.args.indexed.now.ontology c.args.indexed.now.saturation.normal.asked c.args.from c.loop-next.next found c.loop-next.search.seen c.loop-next.invariant done

pub follow-requires-clause-there : goal.follow-requires-clause-there
follow-requires-clause-there c = numbers_within (IsFrom c.index.result.now) c.args.indexed.now.saturation.state.facts c.edges_from-edges.result.now c.edges_from-edges.ensures

pub loop-next-preserved : goal.loop-next-preserved
loop-next-preserved c =
    let o = c.args.indexed.now.ontology in
    let s = c.args.indexed.now.saturation in
    let saturated = subst (λ (k : Closed). IsSaturated k.ontology k.saturation) c.closed-closed.ensures c.well_formed-2.ensures.saturated in
    let next = c.loop-next.next in
    let found = c.loop-next.search.found.items in
    let now = c.follow.new.search.found.items in
    let x = c.index.result.now in
    let edges = c.edges_from-edges.result.now in
    let low : next < length found = omega (arith, c.if-next-len.false, c.len.ensures, c.loop-next.search.found.ok) in
    let here : slice_get found next ≡ Some x = slice_get-get_or found next x low ∙ ap Some (sym c.index.ensures) in
    let step = led_step o s.normal.asked (prefixes_of s.normal) s.state.facts saturated.facts x edges c.edges_from-edges.ensures in
    followed o s.normal.asked c.args.from next found c.loop-next.search.seen c.loop-next.invariant x now c.follow.new.search.seen here c.in_ok-follow.ensures.search
    (same_added (LeadByFacts o s.normal.asked s.state.facts edges) (IsStep o s.normal.asked x) found now step c.in_ok-follow.ensures.adds)

pub returns-clause-search : goal.returns-clause-search
returns-clause-search c = c.loop-next.invariant.marked

pub returns-clause-reached : goal.returns-clause-reached
returns-clause-reached c =
    let found = c.loop-next.search.found.items in
    let done : length found ≤ c.loop-next.next = omega (arith, c.loop-next-test.false, c.loop-next.search.found.ok) in
    seen_reached c.args.indexed.now.ontology c.args.indexed.now.saturation.normal.asked c.args.from c.loop-next.next found c.loop-next.search.seen c.loop-next.invariant done
