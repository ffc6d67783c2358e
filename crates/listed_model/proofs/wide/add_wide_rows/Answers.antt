use Rattle.std.proofs.Common.{◌≡◌, ℕ, List, length, Some, slice_get, map, sym, ap, ◌∙◌, subst}
use Rattle.std.proofs.lemmas.Option.{slice_get-get_or, MatchOption-at_some}
use Rattle.certificate.specs.View.{pair_row_of, targets_in}
use Rattle.number_sets.specs.Members.{has}
use Rattle.listed_model.specs.Members.{holds}
use Rattle.listed_model.specs.declared.wide.WideRow.{WideRow}
use Rattle.listed_model.specs.WideRows.{AreWide}
use Rattle.listed_model.proofs.Covering.{one_wide, wide_push}
use Rattle.listed_model.proofs.wide.add_wide_rows.Goals as goal
use Rattle.listed_model.proofs.wide.add_wide_rows.Goals.{then-are_many+in_ok-one+in-Some+in_ok-push, then-are_many+in_ok-one+in_default, else-are_many}

pub loop-row-preserved : goal.loop-row-preserved
loop-row-preserved c =
    let rows = c.args.rows.now in
    let items = c.rows_of-row-items.result.now in
    let at = c.loop-row.row-index in
    let row = c.row-item.result in
    let g : slice_get items at ≡ Some row = slice_get-get_or items at row c.loop-row-test.true ∙ ap Some (sym c.row-item.is) in
    let Wide : List WideRow → Type 0 = AreWide (map pair_row_of rows) c.args.bound in
    elim c.if-are_many.branch [
      | then-are_many+in_ok-one+in-Some+in_ok-push w ↦
          (let is = ap (λ v. v.items) w.wide-is ∙ w.in_ok-push.ensures.items in
          let one = w.in-Some.one in
          let Is : WideRow → Type 0 = λ (v : WideRow). (v.property ≡ row.property) × (v.source ≡ row.source) × (length v.targets ≡ c.args.bound) × ((y : ℕ) → has v.targets y ≡ holds (targets_in row.targets) y) in
          let facts : Is one = MatchOption-at_some _ Is one w.in-Some.is w.in_ok-one.ensures in
          let (p, s, l, t) = facts in
          subst Wide (sym is) (wide_push (map pair_row_of rows) c.args.bound c.loop-row.wide.items w.in-Some.one c.loop-row.invariant
          (one_wide rows items c.args.property.0 c.requires.rows c.rows_of-row-items.ensures at row g w.in-Some.one p s t) l))
      | then-are_many+in_ok-one+in_default w ↦ subst Wide (sym (ap (λ v. v.items) w.wide-is)) c.loop-row.invariant
      | else-are_many w ↦ subst Wide (sym (ap (λ v. v.items) w.wide-is)) c.loop-row.invariant
    ]
