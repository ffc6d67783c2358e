use Rattle.std.proofs.Common.{◌≡◌, ℕ, List, [], ◌++◌, length, map, refl, sym, ap, ap₂, ◌∙◌, arith}
use Rattle.std.proofs.lemmas.List.{get_or-map, length-map}
use Rattle.certificate.specs.View.{targets_in}
use Rattle.certificate.specs.declared.listed.PairRow.{PairRow}
use Rattle.number_sets.specs.Pieces.{list_at}
use Rattle.number_sets.specs.Transposition.{copies, holders_below}
use Rattle.listed_model.proofs.Holding.{holders_more, turned_rows}
use Rattle.listed_model.proofs.restriction.holders_of.Goals as goal

pub loop-place-preserved : goal.loop-place-preserved
loop-place-preserved c =
    let rows = c.args.rows.now in
    let T : PairRow → List ℕ = λ row. targets_in row.targets in
    let k = c.loop-place.place in
    let row = c.index-rows-place.result in
    let at = c.as_slice.ensures ∙ ap (λ (r : PairRow). targets_in r.targets) c.index-rows-place.is ∙ sym (get_or-map T rows k row [] (omega (arith, c.loop-place-test.true))) in record {
      long = c.in_ok-add_place.ensures.len ∙ c.loop-place.invariant.long;
      each = λ y l.
          c.in_ok-add_place.ensures.each y (rw c.loop-place.invariant.long l)
          ∙ ap₂ (λ xs ys. xs ++ ys) (c.loop-place.invariant.each y l) (ap (λ ts. copies k y ts) at)
          ∙ sym (holders_more k (map T rows) y);
    }

pub returns : goal.returns
returns c = λ y l.
    let rows = c.args.rows.now in
    let T : PairRow → List ℕ = λ row. targets_in row.targets in
    let all : c.loop-place.place ≡ length (map T rows) = omega (arith, c.loop-place.auto.place-end, c.loop-place-test.false, length-map rows T) in
    turned_rows rows (map T rows) y (list_at c.in_ok-packed.field-0 y) refl
    (ap (λ ls. list_at ls y) c.in_ok-packed.ensures ∙ c.loop-place.invariant.each y l ∙ ap (λ n. holders_below n (map T rows) y) all)
