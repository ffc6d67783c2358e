use Rattle.std.proofs.Common.{◌≡◌, ℕ, ◌<◌, Some, length, get_or, slice_get, map, sym, ap, ◌∙◌, subst, arith}
use Rattle.std.proofs.lemmas.Bool.{eqb-true, eqb-false}
use Rattle.std.proofs.lemmas.List.{get_or_default}
use Rattle.std.proofs.lemmas.Option.{slice_get-get_or}
use Rattle.certificate.specs.View.{class_row_of}
use Rattle.certificate.specs.declared.listed.ClassRow.{ClassRow}
use Rattle.listed_model.specs.Listing.{elements_of}
use Rattle.listed_model.proofs.Found.{class_missing, elements_none, elements_found}
use Rattle.listed_model.proofs.rows.elements_at.Goals as goal

pub returns-then-place-rows : goal.returns-then-place-rows
returns-then-place-rows c =
    let rows = c.args.rows.now in
    let place = c.classes_before-place.result in
    sym (elements_none rows c.args.class.0
    (class_missing rows c.args.class.0 place c.requires.ordered c.classes_before-place.ensures.place (λ d l e. absurd (omega (arith, c.if-place-rows.true)))))

pub returns-then-eq : goal.returns-then-eq
returns-then-eq c =
    let rows = c.args.rows.now in
    let place = c.classes_before-place.result in
    let row = c.index-rows-place.result in
    let g : slice_get rows place ≡ Some row = slice_get-get_or rows place row c.if-place-rows.false ∙ ap Some (sym c.index-rows-place.is) in
    let e : row.class.0 ≡ c.args.class.0 = eqb-true row.class.0 c.args.class.0 (sym c.eq.ensures ∙ c.if-eq.true) in
    c.deref.ensures.value ∙ sym (subst (λ (n : ℕ). elements_of (map class_row_of rows) n ≡ row.elements.items) e (elements_found rows c.requires.ordered place row g))

pub returns-else-eq : goal.returns-else-eq
returns-else-eq c =
    let rows = c.args.rows.now in
    let place = c.classes_before-place.result in
    let row = c.index-rows-place.result in
    let same : (d : ClassRow) → place < length rows → get_or rows place d ≡ row = λ d l. get_or_default rows place d row l ∙ sym c.index-rows-place.is in
    sym (elements_none rows c.args.class.0
    (class_missing rows c.args.class.0 place c.requires.ordered c.classes_before-place.ensures.place (λ d l e.
    eqb-false row.class.0 c.args.class.0 (sym c.eq.ensures ∙ c.if-eq.false) (subst (λ (p : ClassRow). p.class.0 ≡ c.args.class.0) (same d l) e))))
