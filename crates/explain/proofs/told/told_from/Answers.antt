use Rattle.std.proofs.Common.{get_or, arith}
use Rattle.std.proofs.lemmas.List.Elements.{Contains-get_or}
use Rattle.std.proofs.lemmas.Option.{slice_get-get_or}
use Rattle.explain.specs.Search.{LeadsUp}
use Rattle.explain.proofs.Telling.{all_of, leads_listed, told_next}
use Rattle.explain.proofs.told.told_from.Goals as goal

pub tell_up-requires : goal.tell_up-requires
tell_up-requires c =
    let items = c.plain_from-form-items.result.now in
    (c.plain_from-form-items.ensures (get_or items c.loop-form.form-index 0)).0 (Contains-get_or items c.loop-form.form-index 0 c.loop-form-test.true)

pub loop-form-preserved : goal.loop-form-preserved
loop-form-preserved c =
    let items = c.plain_from-form-items.result.now in
    let place = c.loop-form.form-index in
    told_next (LeadsUp c.args.problem.now.forms) c.args.property.0 items place (get_or items place 0) c.loop-form.told.items c.tell_up.new.told.items (slice_get-get_or items place 0 c.loop-form-test.true)
    c.in_ok-tell_up.ensures c.loop-form.invariant

pub returns : goal.returns
returns c =
    all_of (LeadsUp c.args.problem.now.forms) c.args.property.0 c.plain_from-form-items.result.now c.loop-form.form-index c.loop-form.told.items (λ n s leads. (c.plain_from-form-items.ensures n).1 (leads_listed c.args.problem.now.forms c.args.property n s leads))
    (omega (arith, c.loop-form-test.false)) c.loop-form.invariant
