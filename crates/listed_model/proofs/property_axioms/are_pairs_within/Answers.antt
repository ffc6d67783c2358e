use Rattle.std.proofs.Common.{◌≡◌, ℕ, Some, slice_get, map, sym, ap, ◌∙◌, refl, true, true≢false}
use Rattle.std.proofs.lemmas.Option.{slice_get-get_or}
use Rattle.certificate.specs.View.{pair_row_of, targets_in}
use Rattle.certificate.specs.declared.listed.PairRow.{PairRow}
use Rattle.listed_model.specs.Listing.{targets_of}
use Rattle.listed_model.specs.Members.{holds}
use Rattle.listed_model.proofs.Walks.{all_before_next, list_all_means, row_pair, each_pair}
use Rattle.listed_model.proofs.property_axioms.are_pairs_within.Goals as goal

pub returns-then-not-are_within : goal.returns-then-not-are_within
returns-then-not-are_within c =
    let rows = c.args.rows.now in
    let items = c.rows_of-row-items.result.now in
    let at = c.loop-row.row-index in
    let row = c.row-item.result in
    let g : slice_get items at ≡ Some row = slice_get-get_or items at row c.loop-row-test.true ∙ ap Some (sym c.row-item.is) in (
      λ e. absurd (true≢false (sym e)),
      λ h. sym c.if-not-are_within.true ∙ c.are_within.ensures ∙ (list_all_means c.targets_at.result.now c.as_slice.result.now).1 (λ y t.
          ap (λ ts. holds ts y) c.targets_at.ensures.targets ∙ h row.source y (row_pair rows items c.args.property.0 c.requires c.rows_of-row-items.ensures at row g y (ap (λ ts. holds ts y) (sym c.as_slice.ensures) ∙ t))),
    )

pub loop-row-preserved : goal.loop-row-preserved
loop-row-preserved c =
    let rows = c.args.rows.now in
    let items = c.rows_of-row-items.result.now in
    let at = c.loop-row.row-index in
    let row = c.row-item.result in
    let g : slice_get items at ≡ Some row = slice_get-get_or items at row c.loop-row-test.true ∙ ap Some (sym c.row-item.is) in
    let P : PairRow → Type 0 = λ (row : PairRow). (y : ℕ) → holds (targets_in row.targets) y ≡ true → holds (targets_of (map pair_row_of rows) c.args.above.0 row.source) y ≡ true in
    all_before_next P items at row g c.loop-row.invariant (λ y t.
    ap (λ ts. holds ts y) (sym c.targets_at.ensures.targets)
    ∙ (list_all_means c.targets_at.result.now c.as_slice.result.now).0 (sym c.are_within.ensures ∙ c.if-not-are_within.false) y (ap (λ ts. holds ts y) c.as_slice.ensures ∙ t))

pub returns : goal.returns
returns c =
    let rows = c.args.rows.now in (
      λ _. each_pair rows c.rows_of-row-items.result.now c.args.property.0 c.requires c.rows_of-row-items.ensures c.loop-row.row-index c.loop-row-test.false
          (λ x y. holds (targets_of (map pair_row_of rows) c.args.above.0 x) y ≡ true) c.loop-row.invariant,
      λ _. refl,
    )
