use Rattle.std.proofs.Common.{◌≡◌, Some, slice_get, sym, ap, ◌∙◌, subst, inl, inr, true≢false}
use Rattle.std.specs.List.{list_any}
use Rattle.std.specs.List.Sorted.{IsStrictlyIncreasing}
use Rattle.std.proofs.lemmas.Option.{slice_get-get_or}
use Rattle.certificate.specs.View.{targets_in}
use Rattle.listed_model.specs.Members.{holds}
use Rattle.listed_model.proofs.Covering.{row_rises}
use Rattle.listed_model.proofs.Extensions.{IsSource, some_before_next, some_before_none, holds_push, sources_mean}
use Rattle.listed_model.proofs.restriction.Pairs.by_rows.Goals as goal
use Rattle.listed_model.proofs.restriction.Pairs.by_rows.Goals.{then-have_common+in_ok-push, else-have_common}

pub loop-row-init : goal.loop-row-init
loop-row-init c = λ x. (
  λ h. absurd (true≢false (sym h ∙ ap (λ xs. holds xs x) c.new-sources.ensures.items)),
  λ s. absurd (some_before_none (IsSource c.args.fillers.now x) c.rows_of-row-items.result.now s),
)

pub have_common-requires-clause-first : goal.have_common-requires-clause-first
have_common-requires-clause-first c =
    let items = c.rows_of-row-items.result.now in
    let at = c.loop-row.row-index in
    let row = c.row-item.result in
    let g : slice_get items at ≡ Some row = slice_get-get_or items at row c.loop-row-test.true ∙ ap Some (sym c.row-item.is) in
    subst IsStrictlyIncreasing (sym c.as_slice.ensures) (row_rises c.args.self.now.rows.now items c.args.property.0 c.requires.rows c.rows_of-row-items.ensures at row g)

pub loop-row-preserved : goal.loop-row-preserved
loop-row-preserved c = λ x.
    let items = c.rows_of-row-items.result.now in
    let at = c.loop-row.row-index in
    let row = c.row-item.result in
    let fillers = c.args.fillers.now in
    let g : slice_get items at ≡ Some row = slice_get-get_or items at row c.loop-row-test.true ∙ ap Some (sym c.row-item.is) in
    let next = some_before_next (IsSource fillers x) items at row g in
    let old = c.loop-row.invariant x in
    let said : c.have_common.result ≡ list_any (holds fillers) (targets_in row.targets) = c.have_common.ensures ∙ ap (list_any (holds fillers)) c.as_slice.ensures in
    elim c.if-have_common.branch [
      | then-have_common+in_ok-push w ↦
          (let is = ap (λ v. v.items) w.sources-is ∙ w.in_ok-push.ensures.items in
          let push = holds_push c.loop-row.sources.items row.source x in
          let any = sym said ∙ w.if-have_common.true in (
            λ h. next.1 (elim (push.0 (sym (ap (λ xs. holds xs x) is) ∙ h)) [ inl m ↦ inl (old.0 m) | inr e ↦ inr (e, any) ]),
            λ s. ap (λ xs. holds xs x) is ∙ push.1 (elim (next.0 s) [ inl m ↦ inl (old.1 m) | inr p ↦ inr p.0 ]),
          ))
      | else-have_common w ↦
          (let is = ap (λ v. v.items) w.sources-is in (
            λ h. next.1 (inl (old.0 (sym (ap (λ xs. holds xs x) is) ∙ h))),
            λ s. ap (λ xs. holds xs x) is ∙ elim (next.0 s) [ inl m ↦ old.1 m | inr p ↦ absurd (true≢false (sym p.1 ∙ sym said ∙ w.if-have_common.false)) ],
          ))
    ]

pub returns : goal.returns
returns c = λ x.
    let items = c.rows_of-row-items.result.now in
    let mean = sources_mean c.args.self.now.rows.now items c.args.property.0 c.args.fillers.now c.loop-row.row-index x c.requires.rows c.loop-row-test.false c.rows_of-row-items.ensures in
    let old = c.loop-row.invariant x in
    (λ h. mean.0 (old.0 h), λ j. old.1 (mean.1 j))
