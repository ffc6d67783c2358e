use Rattle.std.proofs.Common.{sym, ap, ◌∙◌, subst, arith}
use Rattle.std.proofs.lemmas.Bool.Decides.{nat_tests}
use Rattle.axioms.specs.declared.ids.PropId.{PropId}
use Rattle.explain.specs.Search.{AreReached, LeadsUp}
use Rattle.explain.proofs.Reaching.{bounded, found_in}
use Rattle.explain.proofs.WalkingUp.{beyond, earlier, way_is}
use Rattle.explain.proofs.paths.PropertyPaths.path.Goals as goal

pub returns-in-Some-clause-path : goal.returns-in-Some-clause-path
returns-in-Some-clause-path c =
    let forms = c.self.inside.problem.now.forms in
    let there = sym (c.copied.ensures ∙ c.get.ensures.value) ∙ c.in-Some.is in
    let (low, reached) = c.self.invariant.kept c.args.from.0 c.in-Some.place there in
    rw (← c.self.view_is)
    (way_is (λ v. v.items) forms c.args.from c.args.to c.at.result.now c.way_to.result (subst (AreReached (LeadsUp forms) c.args.from.0) (sym c.at.ensures) reached) c.way_to.ensures)

pub returns-then-index-self-clause-path : goal.returns-then-index-self-clause-path
returns-then-index-self-clause-path c =
    rw (← c.self.view_is)
    (beyond c.self.inside.properties c.self.inside.problem.now.forms c.args.from c.args.to c.self.invariant.within (omega (arith, c.if-index-self.true, c.index.ensures)) (λ e. grind (arith, nat_tests, c.if-eq.ensures, ap (λ (p : PropId). p.0) e)))

pub run-requires-clause-bounded : goal.run-requires-clause-bounded
run-requires-clause-bounded c =
    bounded (LeadsUp c.self.inside.problem.now.forms) c.self.inside.properties c.tell.new.told c.in_ok-tell.ensures.told c.self.invariant.within

pub invariant_of-self-in_err-keep : goal.invariant_of-self-in_err-keep
invariant_of-self-in_err-keep c =
    let forms = c.self.inside.problem.now.forms in
    let found = found_in (LeadsUp forms) c.self.inside.properties c.tell.new.told c.in_ok-tell.ensures.told c.args.from.0 c.run.new.self.found.items c.deref.result.now c.in_ok-run.ensures.found c.deref.ensures.value in record {
      few = c.self.invariant.few;
      within = c.self.invariant.within;
      leads = c.tell.ensures.behind;
      kept = c.keep.ensures forms c.self.invariant.kept found;
    }

pub invariant_of-self-2 : goal.invariant_of-self-2
invariant_of-self-2 c =
    let forms = c.self.inside.problem.now.forms in
    let found = found_in (LeadsUp forms) c.self.inside.properties c.tell.new.told c.in_ok-tell.ensures.told c.args.from.0 c.run.new.self.found.items c.deref.result.now c.in_ok-run.ensures.found c.deref.ensures.value in record {
      few = c.self.invariant.few;
      within = c.self.invariant.within;
      leads = c.tell.ensures.behind;
      kept = c.keep.ensures forms c.self.invariant.kept found;
    }

pub way_to-requires-2 : goal.way_to-requires-2
way_to-requires-2 c =
    let forms = c.self.inside.problem.now.forms in
    let found = found_in (LeadsUp forms) c.self.inside.properties c.tell.new.told c.in_ok-tell.ensures.told c.args.from.0 c.run.new.self.found.items c.deref-2.result.now c.in_ok-run.ensures.found c.deref-2.ensures.value in
    earlier (LeadsUp forms) c.args.from.0 c.deref-2.result.now found.ways

pub returns-clause-path : goal.returns-clause-path
returns-clause-path c =
    let forms = c.self.inside.problem.now.forms in
    let found = found_in (LeadsUp forms) c.self.inside.properties c.tell.new.told c.in_ok-tell.ensures.told c.args.from.0 c.run.new.self.found.items c.deref-2.result.now c.in_ok-run.ensures.found c.deref-2.ensures.value in
    rw (← c.self.view_is)
    (way_is (λ v. v.items) forms c.args.from c.args.to c.deref-2.result.now c.way_to-2.result found c.way_to-2.ensures)
