use Rattle.std.proofs.Common.{◌≡◌, inl, inr, ℕ, map, slice_get, Some, true, refl, sym, ap, ◌∙◌, subst, true≢false}
use Rattle.std.proofs.lemmas.Option.{slice_get-get_or}
use Rattle.certificate.specs.View.{pair_row_of}
use Rattle.certificate.specs.declared.listed.PairRow.{PairRow}
use Rattle.listed_model.specs.Listing.{targets_of}
use Rattle.listed_model.specs.Members.{holds}
use Rattle.listed_model.specs.Rows.{SomeBefore}
use Rattle.listed_model.proofs.Extensions.{some_before_next, some_before_none, holds_push}
use Rattle.listed_model.proofs.Walks.{row_pair, each_pair, row_some}
use Rattle.listed_model.proofs.among.sources_of.Goals as goal

pub loop-row-init : goal.loop-row-init
loop-row-init c = λ x. (
  λ h. absurd (true≢false (sym h ∙ ap (λ xs. holds xs x) c.new-sources.ensures.items)),
  λ s. absurd (some_before_none (λ (row : PairRow). row.source ≡ x) c.rows_of-row-items.result.now s),
)

pub loop-row-preserved : goal.loop-row-preserved
loop-row-preserved c = λ x.
    let items = c.rows_of-row-items.result.now in
    let at = c.loop-row.row-index in
    let row = c.row-item.result in
    let g : slice_get items at ≡ Some row = slice_get-get_or items at row c.loop-row-test.true ∙ ap Some (sym c.row-item.is) in
    let next = some_before_next (λ (row : PairRow). row.source ≡ x) items at row g in
    let old = c.loop-row.invariant x in
    let is = c.in_ok-push.ensures.items in
    let push = holds_push c.loop-row.sources.items row.source x in (
      λ h. next.1 (elim (push.0 (sym (ap (λ xs. holds xs x) is) ∙ h)) [ inl m ↦ inl (old.0 m) | inr e ↦ inr e ]),
      λ s. ap (λ xs. holds xs x) is ∙ push.1 (elim (next.0 s) [ inl m ↦ inl (old.1 m) | inr e ↦ inr e ]),
    )

pub returns-clause-members : goal.returns-clause-members
returns-clause-members c = λ x.
    let rows = c.args.rows.now in
    let items = c.rows_of-row-items.result.now in
    let r = c.args.property.0 in
    let those = c.rows_of-row-items.ensures in
    let old = c.loop-row.invariant x in
    let same = c.put_in_order.ensures.same x in (
      λ h.
          let (k, row, b, g, e) = old.0 (sym same ∙ h) in
          let (y, t) = row_some rows items r c.requires those k row g in
          (y, subst (λ (z : ℕ). holds (targets_of (map pair_row_of rows) r z) y ≡ true) e (row_pair rows items r c.requires those k row g y t)),
      λ (y, t). same ∙ old.1 (each_pair rows items r c.requires those c.loop-row.row-index c.loop-row-test.false
          (λ x y. SomeBefore (λ (row : PairRow). row.source ≡ x) items c.loop-row.row-index) (λ k row b g y t. (k, row, b, g, refl)) x y t),
    )
