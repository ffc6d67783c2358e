use Rattle.std.proofs.Common.{◌+◌, subst, sym, take}
use Rattle.indexes.specs.ListedForms.{AreOf}
use Rattle.indexes.proofs.Led.{one_more}
use Rattle.indexes.proofs.listed_forms.put_forms.Goals as goal

pub loop-number-preserved : goal.loop-number-preserved
loop-number-preserved c =
    let forms = c.args.forms.now in
    let numbers = c.args.numbers.now in
    let i = c.loop-number.number-index in
    subst (AreOf forms (take (i + 1) numbers)) (sym c.in_ok-push.ensures.items)
    (one_more forms numbers i c.loop-number.listed.items c.at.result c.loop-number-test.true c.at.ensures.number c.at.ensures.says c.loop-number.invariant)
