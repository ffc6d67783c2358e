use Rattle.std.proofs.Common.{◌≡◌, ℕ, List, Some, slice_get, sym, ap, ◌∙◌, subst, arith}
use Rattle.std.proofs.lemmas.Option.{IfSome_then, slice_get-get_or}
use Rattle.certificate.specs.declared.listed.ClassRow.{ClassRow}
use Rattle.listed_model.specs.declared.kept.Place.TheVariants as place
use Rattle.listed_model.proofs.kept.Kept.at.Goals as goal

pub returns-in-Row : goal.returns-in-Row
returns-in-Row c =
    let places = c.args.self.now.places.items in
    let n = c.in-Row.number in
    let told : slice_get places c.index-place.result ≡ Some (place.Row n) =
    slice_get-get_or places c.index-place.result c.index.result.now (omega (arith, c.if-place-len.false, c.len.ensures)) ∙ ap Some (sym c.index.ensures ∙ c.in-Row.is) in
    IfSome_then c.row_at.result c.row_at.ensures (λ elements (row, g, s). (
      place.Row n,
      subst (λ (e : ℕ). slice_get places e ≡ Some (place.Row n)) c.index-place.ensures told,
      (row, subst (λ (rows : List ClassRow). slice_get rows n ≡ Some row) c.deref.ensures.value g, s),
    ))

pub returns-in-List : goal.returns-in-List
returns-in-List c =
    let places = c.args.self.now.places.items in
    let n = c.in-List.number in
    let told : slice_get places c.index-place.result ≡ Some (place.List n) =
    slice_get-get_or places c.index-place.result c.index.result.now (omega (arith, c.if-place-len.false, c.len.ensures)) ∙ ap Some (sym c.index.ensures ∙ c.in-List.is) in
    IfSome_then c.list_at.result c.list_at.ensures (λ elements g. (place.List n, subst (λ (e : ℕ). slice_get places e ≡ Some (place.List n)) c.index-place.ensures told, g))
