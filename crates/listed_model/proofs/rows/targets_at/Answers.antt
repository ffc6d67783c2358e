use Rattle.std.proofs.Common.{◌≡◌, ℕ, ◌<◌, Some, length, get_or, slice_get, map, sym, ap, ◌∙◌, subst, subst₂, arith}
use Rattle.std.specs.List.Sorted.{IsStrictlyIncreasing}
use Rattle.std.proofs.lemmas.Bool.{eqb-true, eqb-false}
use Rattle.std.proofs.lemmas.List.{get_or_default}
use Rattle.std.proofs.lemmas.Option.{slice_get-get_or}
use Rattle.certificate.specs.View.{pair_row_of, targets_in}
use Rattle.certificate.specs.declared.listed.PairRow.{PairRow}
use Rattle.listed_model.specs.Listing.{targets_of}
use Rattle.listed_model.proofs.Found.{pair_missing, targets_none, targets_found}
use Rattle.listed_model.proofs.rows.targets_at.Goals as goal
use Rattle.listed_model.proofs.rows.targets_at.Goals.{else-eq-via-then-eq+else-row-source, else-eq-via-else-eq}

pub returns-then-place-rows-clause-targets : goal.returns-then-place-rows-clause-targets
returns-then-place-rows-clause-targets c =
    let rows = c.args.rows.now in
    let place = c.rows_before-place.result in
    sym (targets_none rows c.args.property.0 c.args.source
    (pair_missing rows c.args.property.0 c.args.source place c.requires.ordered c.rows_before-place.ensures.place (λ d l e f. absurd (omega (arith, c.if-place-rows.true)))))

pub returns-then-row-source-clause-targets : goal.returns-then-row-source-clause-targets
returns-then-row-source-clause-targets c =
    let rows = c.args.rows.now in
    let place = c.rows_before-place.result in
    let row = c.index-rows-place.result in
    let g : slice_get rows place ≡ Some row = slice_get-get_or rows place row c.if-place-rows.false ∙ ap Some (sym c.index-rows-place.is) in
    let r : row.property.0 ≡ c.args.property.0 = eqb-true row.property.0 c.args.property.0 (sym c.eq.ensures ∙ c.if-eq.true) in
    c.as_slice.ensures ∙ sym (subst₂ (λ (s x : ℕ). targets_of (map pair_row_of rows) s x ≡ targets_in row.targets) r c.if-row-source.true (targets_found rows c.requires.ordered place row g))

pub returns-else-eq-clause-targets : goal.returns-else-eq-clause-targets
returns-else-eq-clause-targets c =
    let rows = c.args.rows.now in
    let place = c.rows_before-place.result in
    let row = c.index-rows-place.result in
    let same : (d : PairRow) → place < length rows → get_or rows place d ≡ row = λ d l. get_or_default rows place d row l ∙ sym c.index-rows-place.is in
    sym (targets_none rows c.args.property.0 c.args.source
    (pair_missing rows c.args.property.0 c.args.source place c.requires.ordered c.rows_before-place.ensures.place (λ d l e f.
    elim c.else-eq.branch [
      | else-eq-via-then-eq+else-row-source w ↦ w.if-row-source.false (subst (λ (p : PairRow). p.source ≡ c.args.source) (same d l) f)
      | else-eq-via-else-eq w ↦ eqb-false row.property.0 c.args.property.0 (sym c.eq.ensures ∙ w.if-eq.false) (subst (λ (p : PairRow). p.property.0 ≡ c.args.property.0) (same d l) e)
    ])))

pub returns-then-row-source-clause-ascending : goal.returns-then-row-source-clause-ascending
returns-then-row-source-clause-ascending c =
    let rows = c.args.rows.now in
    let row = c.index-rows-place.result in
    subst IsStrictlyIncreasing (sym (c.as_slice.ensures ∙ ap (λ (p : PairRow). targets_in p.targets) c.index-rows-place.is)) (c.requires.targets c.rows_before-place.result row c.if-place-rows.false)
