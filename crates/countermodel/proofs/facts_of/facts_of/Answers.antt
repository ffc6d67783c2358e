use Rattle.std.proofs.Common.{List, ◌<◌, All, length, sym, ap, ◌∙◌, subst, ◌≡◌}
use Rattle.std.proofs.lemmas.Option.{slice_get-get_or}
use Rattle.facts.specs.declared.contexts.Fact.{Fact}
use Rattle.indexes.specs.FactIndex.{IsFrom, IsIn}
use Rattle.countermodel.specs.FactsOf.{AddsFacts}
use Rattle.countermodel.proofs.PartFacts.{numbers_within, of_one_more}
use Rattle.countermodel.proofs.facts_of.facts_of.Goals as goal

pub push_facts-requires : goal.push_facts-requires
push_facts-requires c =
    let is = c.facts-all.ensures ∙ ap (λ k. k.saturation.state.facts) c.closed-closed.ensures in
    subst (λ (fs : List Fact). All (λ n. n < length fs) c.classes_in.result.now) (sym is)
    (numbers_within (IsIn _) c.args.indexed.now.saturation.state.facts c.classes_in.result.now c.classes_in.ensures)

pub push_facts-requires-in-loop-context : goal.push_facts-requires-in-loop-context
push_facts-requires-in-loop-context c =
    let is = c.facts-all.ensures ∙ ap (λ k. k.saturation.state.facts) c.closed-closed.ensures in
    subst (λ (fs : List Fact). All (λ n. n < length fs) c.edges_from.result.now) (sym is)
    (numbers_within (IsFrom _) c.args.indexed.now.saturation.state.facts c.edges_from.result.now c.edges_from.ensures)

pub loop-context-preserved : goal.loop-context-preserved
loop-context-preserved c =
    let facts = c.args.indexed.now.saturation.state.facts in
    let is : c.facts-all.result.now ≡ facts = c.facts-all.ensures ∙ ap (λ k. k.saturation.state.facts) c.closed-closed.ensures in
    let k = c.loop-context.context-index in
    let old = c.loop-context.facts.items in
    let now = c.push_facts.new.facts.items in
    let new = c.push_facts-in-loop-context.new.facts.items in
    of_one_more facts c.args.contexts.now k _ c.loop-context-test.true (slice_get-get_or c.args.contexts.now k _ c.loop-context-test.true) c.classes_in.result.now c.classes_in.ensures c.edges_from.result.now c.edges_from.ensures old now new c.loop-context.invariant
    (subst (λ (fs : List Fact). AddsFacts fs c.classes_in.result.now old now) is c.in_ok-push_facts.ensures)
    (subst (λ (fs : List Fact). AddsFacts fs c.edges_from.result.now now new) is c.in_ok-push_facts-2.ensures)
