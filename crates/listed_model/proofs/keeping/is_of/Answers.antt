use Rattle.std.proofs.Common.{Some, eqb, sym, ap, ◌∙◌}
use Rattle.std.proofs.lemmas.Bool.{eqb-true}
use Rattle.std.proofs.lemmas.Option.{slice_get-get_or}
use Rattle.certificate.specs.declared.listed.ClassRow.{ClassRow}
use Rattle.listed_model.proofs.keeping.is_of.Goals as goal

pub returns-then-number-rows : goal.returns-then-number-rows
returns-then-number-rows c = λ t.
    let row = c.index-rows-number.result in
    let class = c.args.class.0 in
    let same = ap (λ (r : ClassRow). eqb r.class.0 class) c.index-rows-number.is ∙ (sym c.eq.ensures ∙ t) in
    (row, slice_get-get_or c.args.rows.now c.args.number row c.if-number-rows.true ∙ ap Some (sym c.index-rows-number.is), eqb-true row.class.0 class same)
