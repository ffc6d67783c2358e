use Rattle.std.proofs.Common.{Some, sym, ap, ◌∙◌}
use Rattle.std.proofs.lemmas.Option.{slice_get-get_or}
use Rattle.certificate.specs.declared.listed.ClassRow.{ClassRow}
use Rattle.listed_model.proofs.kept.row_at.Goals as goal

pub returns-then-number-rows : goal.returns-then-number-rows
returns-then-number-rows c =
    let row = c.index-rows-number.result in (
      row,
      slice_get-get_or c.args.rows.now c.args.number row c.if-number-rows.true ∙ ap Some (sym c.index-rows-number.is),
      ap (λ (r : ClassRow). r.elements.items) c.index-rows-number.is ∙ sym c.deref.ensures.value,
    )
