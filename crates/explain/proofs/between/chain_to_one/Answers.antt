use Rattle.std.proofs.Common.{List, sym, ◌∙◌, subst}
use Rattle.explain.specs.Search.{LeadsOver, StandsAt}
use Rattle.explain.specs.declared.reached.Reached.{Reached}
use Rattle.explain.proofs.Places.{stands_within}
use Rattle.explain.proofs.Reaching.{bounded, found_in, not_seen}
use Rattle.explain.proofs.WalkingUp.{chain_along, earlier, leads_along}
use Rattle.explain.proofs.between.chain_to_one.Goals as goal

pub run-requires-clause-bounded : goal.run-requires-clause-bounded
run-requires-clause-bounded c = bounded (LeadsOver c.args.problem.now.forms) c.args.individuals c.in_ok-links.links c.in_ok-links.ensures c.requires.within

pub returns-in_default : goal.returns-in_default
returns-in_default c i there = not_seen c.args.individuals c.args.problem.now.forms c.in_ok-links.links c.args.first i c.run.new.self.seen c.in_ok-links.ensures c.in_ok-run.ensures.seen (c.in_default.ensures i there)

pub unreachable-requires : goal.unreachable-requires
unreachable-requires c =
    let at = c.in_ok-run.ensures.found.all c.in-Some.last.0 ((c.in_ok-run.ensures.seen c.in-Some.last.0).0 c.in-Some.ensures.1) in
    c.in_default-place_of.ensures at.0 (subst (λ (l : List Reached). StandsAt l c.in-Some.last.0 at.0) (sym c.deref.ensures.value) at.1)

pub walk-requires-clause-earlier : goal.walk-requires-clause-earlier
walk-requires-clause-earlier c =
    let found = found_in (LeadsOver c.args.problem.now.forms) c.args.individuals c.in_ok-links.links c.in_ok-links.ensures c.args.first.0 c.run.new.self.found.items c.deref-2.result.now c.in_ok-run.ensures.found c.deref-2.ensures.value in
    earlier (LeadsOver c.args.problem.now.forms) c.args.first.0 c.deref-2.result.now found.ways

pub walk-requires-clause-there : goal.walk-requires-clause-there
walk-requires-clause-there c =
    stands_within c.deref-2.result.now c.in-Some.last.0 c.in-Some-place_of.place (subst (λ (l : List Reached). StandsAt l c.in-Some.last.0 c.in-Some-place_of.place) (c.deref.ensures.value ∙ sym c.deref-2.ensures.value) c.in-Some-place_of.ensures)

pub returns : goal.returns
returns c =
    let last = c.in-Some.last in
    let found = found_in (LeadsOver c.args.problem.now.forms) c.args.individuals c.in_ok-links.links c.in_ok-links.ensures c.args.first.0 c.run.new.self.found.items c.deref-2.result.now c.in_ok-run.ensures.found c.deref-2.ensures.value in
    let stands = subst (λ (l : List Reached). StandsAt l last.0 c.in-Some-place_of.place) (c.deref.ensures.value ∙ sym c.deref-2.ensures.value) c.in-Some-place_of.ensures in (
      last,
      c.in-Some.ensures.0,
      chain_along c.args.problem.now.forms c.args.first _ last (leads_along (LeadsOver c.args.problem.now.forms) c.args.first.0 last.0 c.deref-2.result.now c.in-Some-place_of.place _ found.ways stands c.in_ok-walk.ensures),
    )
