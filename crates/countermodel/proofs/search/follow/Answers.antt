use Rattle.std.proofs.Common.{◌≡◌, ◌<◌, ◌+◌, inl, inr, ℕ, List, length, get_or, take, slice_get, Some, sym, ap, ◌∙◌, subst}
use Rattle.std.proofs.lemmas.Option.{slice_get-get_or}
use Rattle.axioms.specs.WellFormedness.{IsOntology}
use Rattle.closure.specs.Denotations.{context_of}
use Rattle.engine.specs.Closed.{Closed}
use Rattle.facts.specs.declared.contexts.Fact.{Fact}
use Rattle.countermodel.specs.Searching.{AddsContexts, IsSearch, LeadByFacts}
use Rattle.countermodel.specs.declared.search.ContextSearch.{ContextSearch}
use Rattle.countermodel.proofs.Facts.{satisfiable_within}
use Rattle.countermodel.proofs.Searching.{both_added, edge_to_one, led_by_more, same_added}
use Rattle.countermodel.proofs.search.follow.Goals.{in-Some+in_ok-add, in_default}
use Rattle.countermodel.proofs.search.follow.Goals as goal

pub loop-number-preserved : goal.loop-number-preserved
loop-number-preserved c =
    let o = c.args.indexed.now.ontology in
    let asked = c.args.indexed.now.saturation.normal.asked in
    let facts = c.args.indexed.now.saturation.state.facts in
    let is : c.facts-facts.result.now ≡ facts = c.facts-facts.ensures ∙ ap (λ (k : Closed). k.saturation.state.facts) c.closed-closed.ensures in
    let ontology = subst (λ (k : Closed). IsOntology k.ontology) c.closed-closed.ensures c.well_formed-2.ensures.ontology in
    let numbers = c.args.numbers.now in
    let k = c.loop-number.number-index in
    let n : ℕ = get_or numbers k 0 in
    let fact = c.index-facts-number.result in
    let there : n < length c.facts-facts.result.now = subst (λ (fs : List Fact). n < length fs) (sym is) (c.requires.there k 0 c.loop-number-test.true) in
    let read : slice_get c.facts-facts.result.now n ≡ Some fact = slice_get-get_or c.facts-facts.result.now n _ there ∙ ap Some (sym c.index-facts-number.is) in
    let at : slice_get facts n ≡ Some fact = subst (λ (fs : List Fact). slice_get fs n ≡ Some fact) is read in
    let more = led_by_more o asked facts numbers k 0 c.loop-number-test.true fact at in
    let start = c.args.search.now.found.items in
    let now = c.loop-number.search.found.items in
    let was = c.loop-number.invariant in
    let before = LeadByFacts o asked facts (take k numbers) in
    let after = LeadByFacts o asked facts (take (k + 1) numbers) in
    let holds : ContextSearch → Type 0 = λ s. IsSearch o s × AddsContexts after start s.found.items in
    elim c.match-target_of.branch [
      | in-Some+in_ok-add w ↦
          let target = w.in-Some.target in
          let one = edge_to_one o asked fact target w.in-Some.ensures in
          let within = satisfiable_within o asked ontology (context_of target) w.in-Some.ensures.3.0 in
          subst holds (sym w.search-is) (
            w.in_ok-add.ensures.search o within was.0,
            both_added before (λ x. x ≡ target) after start now w.add.new.self.found.items was.1 (w.in_ok-add.ensures.adds o was.0)
                (λ y. (
                  λ h. elim ((more y).0 h) [ inl p ↦ inl p | inr e ↦ inr ((one y).0 e) ],
                  λ h. (more y).1 (elim h [ inl p ↦ inl p | inr same ↦ inr ((one y).1 same) ]),
                )),
          )
      | in_default w ↦
          subst holds (sym w.search-is) (
            was.0,
            same_added before after start now (λ y. (
              λ h. elim ((more y).0 h) [ inl p ↦ p | inr e ↦ absurd (w.in_default.ensures y e) ],
              λ p. (more y).1 (inl p),
            )) was.1,
          )
    ]
