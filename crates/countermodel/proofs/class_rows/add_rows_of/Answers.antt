use Rattle.std.proofs.Common.{◌+◌, ◌↔◌, ℕ, List, Contains, length, eqb-true, ap, sym, ◌∙◌, subst, arith}
use Rattle.std.proofs.lemmas.Bool.{both_ways, eq-eqb}
use Rattle.number_sets.specs.Pieces.{list_at}
use Rattle.countermodel.proofs.FirstRows.{HasFirstRows, none_added, nothing_added, row_added, all_added}
use Rattle.countermodel.proofs.class_rows.add_rows_of.Goals as goal
use Rattle.countermodel.proofs.class_rows.add_rows_of.Goals.{then-not-is_empty+in_ok-elements+in_ok-add, else-not-is_empty}

pub loop-number-init : goal.loop-number-init
loop-number-init g c = none_added g.S.RowSink.adds c.args.lists.now c.args.rows.now (g.met.S.RowSink.nothing c.args.rows.now)

pub loop-number-preserved : goal.loop-number-preserved
loop-number-preserved g c =
    let lists = c.args.lists.now in
    let start = c.args.rows.now in
    let number = c.loop-number.number in
    let list_is = c.at-list.ensures in
    elim c.if-not-is_empty.branch [
      | then-not-is_empty+in_ok-elements+in_ok-add w ↦
          let same : (m : ℕ) → Contains w.in_ok-elements.elements.items m ↔ Contains (list_at lists number) m = subst (λ (l : List ℕ). (m : ℕ) → Contains w.in_ok-elements.elements.items m ↔ Contains l m) list_is w.in_ok-elements.ensures.same in
          subst (HasFirstRows g.S.RowSink.adds lists (number + 1) start) (sym w.rows-is)
          (row_added g.S.RowSink.adds lists start c.loop-number.rows w.add.new.self _ c.loop-number.invariant
          (λ none. both_ways c.is_empty.result w.if-not-is_empty.true (c.is_empty.ensures ∙ eq-eqb (length c.at-list.result.now) 0 (ap length list_is ∙ none)))
          w.in_ok-elements.ensures.ascends same w.in_ok-add.ensures)
      | else-not-is_empty w ↦
          subst (HasFirstRows g.S.RowSink.adds lists (number + 1) start) (sym w.rows-is)
          (nothing_added g.S.RowSink.adds lists start number c.loop-number.rows c.loop-number.invariant (ap length (sym list_is) ∙ eqb-true (length c.at-list.result.now) 0 (sym c.is_empty.ensures ∙ w.if-not-is_empty.false)))
    ]

pub returns : goal.returns
returns g c = all_added g.S.RowSink.adds c.args.lists.now c.args.rows.now c.loop-number.number c.loop-number.rows (omega (arith, c.len-number-end.ensures, c.loop-number-test.false)) c.loop-number.invariant
