use Rattle.std.proofs.Common.{List, ℕ, Contains, get_or, sym, subst, arith}
use Rattle.std.proofs.lemmas.List.Elements.{Contains-get_or}
use Rattle.std.proofs.lemmas.Option.{slice_get-get_or}
use Rattle.explain.specs.Search.{LeadsOver}
use Rattle.explain.proofs.Telling.{all_of, over_listed, told_next}
use Rattle.explain.proofs.told.links_from.Goals as goal

pub tell_over-requires : goal.tell_over-requires
tell_over-requires c =
    let items = c.deref-form-items.result.now in
    let number = get_or items c.loop-form.form-index 0 in
    (c.in_ok-numbers.ensures number).0 (subst (λ (l : List ℕ). Contains l number) c.deref-form-items.ensures.value (Contains-get_or items c.loop-form.form-index 0 c.loop-form-test.true))

pub loop-form-preserved : goal.loop-form-preserved
loop-form-preserved c =
    let items = c.deref-form-items.result.now in
    let place = c.loop-form.form-index in
    told_next (LeadsOver c.args.problem.now.forms) c.args.individual.0 items place (get_or items place 0) c.loop-form.links.items c.tell_over.new.links.items (slice_get-get_or items place 0 c.loop-form-test.true)
    c.in_ok-tell_over.ensures c.loop-form.invariant

pub returns : goal.returns
returns c =
    all_of (LeadsOver c.args.problem.now.forms) c.args.individual.0 c.deref-form-items.result.now c.loop-form.form-index c.loop-form.links.items
    (λ n s leads. subst (λ (l : List ℕ). Contains l n) (sym c.deref-form-items.ensures.value) ((c.in_ok-numbers.ensures n).1 (over_listed c.args.problem.now.forms c.args.individual n s leads))) (omega (arith, c.loop-form-test.false)) c.loop-form.invariant
