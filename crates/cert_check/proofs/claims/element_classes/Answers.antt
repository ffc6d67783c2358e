use Rattle.std.proofs.Common.{length, refl}
use Rattle.std.proofs.lemmas.Option.{slice_get_read}
use Rattle.cert_check.proofs.Listwise.{element_classes_step}
use Rattle.cert_check.proofs.claims.element_classes.Goals as goal

pub loop-listed-preserved : goal.loop-listed-preserved
loop-listed-preserved c =
    let rows = c.args.classes.now in
    let row = c.listed-item.result in
    let k = c.loop-listed.listed-index in
    element_classes_step c.args.ontology.now c.args.domain rows k row
    (slice_get_read rows (length rows) k row refl c.loop-listed-test.true c.listed-item.is)
    c.loop-listed.lists c.put_holders.new.lists c.loop-listed.invariant c.in_ok-put_holders.ensures
