use Rattle.std.proofs.Common.{◌≡◌, ◌↔◌, ◌<◌, ◌≤◌, ℕ, Contains, length, ap, arith, subst}
use Rattle.axioms.specs.declared.ids.IndId.{IndId}
use Rattle.facts.specs.Closure as numbered
use Rattle.facts.specs.declared.contexts.Context.{Context}
use Rattle.facts.specs.declared.contexts.Context.TheVariants.{Individual}
use Rattle.closure.proofs.Names.{ind_id}
use Rattle.countermodel.specs.Searching.{IsStart}
use Rattle.countermodel.proofs.Leading.{IsLeastBy, least_is}
use Rattle.countermodel.proofs.Searching.{first_start, start_more}
use Rattle.countermodel.proofs.search.begun.Goals as goal

pub loop-number-init : goal.loop-number-init
loop-number-init c = (
  c.in_ok-add.ensures.search c.args.ontology.now c.requires.within c.in_ok-search.ensures.search,
  first_start c.args.ontology.now c.args.from c.in_ok-search.search.found.items c.add.new.self.found.items c.in_ok-search.ensures.none (c.in_ok-add.ensures.adds c.args.ontology.now c.in_ok-search.ensures.search),
)

pub loop-number-preserved : goal.loop-number-preserved
loop-number-preserved c =
    let o = c.args.ontology.now in
    let groups = c.args.groups.now in
    let (asked, of) = c.requires.groups in
    let n = c.loop-number.number in
    let a : IndId = record { 0 = n } in
    let least = c.least-least.result in
    let is : IsLeastBy groups a least = record { same = c.least-least.ensures.same groups of.links; low = λ b. c.least-least.ensures.low groups b of.links } in
    let below : least.0 ≤ n = is.low a numbered.itself in
    let within : least.0 < length o.names.individuals = omega (arith, below, c.loop-number-test.true, c.individuals-number-end.ensures.count) in
    let was = c.loop-number.invariant in (
      c.in_ok-add-2.ensures.search o within was.0,
      start_more o c.args.from n c.loop-number.search.found.items c.add-in-loop-number.new.self.found.items (Individual least) (ap (λ (m : ℕ). Individual (ind_id m)) (least_is o asked groups of a least is))
          (c.in_ok-add-2.ensures.adds o was.0) was.1,
    )

pub returns-clause-started : goal.returns-clause-started
returns-clause-started c =
    let all : c.loop-number.number ≡ length c.args.ontology.now.names.individuals = omega (arith, c.loop-number-test.false, c.loop-number.auto.number-end, c.individuals-number-end.ensures.count) in
    subst (λ (n : ℕ). (x : Context) → Contains c.loop-number.search.found.items x ↔ IsStart c.args.ontology.now c.args.from n x) all c.loop-number.invariant.1
