-- The last of rows, which a sink does not have yet.
use Rattle.std.proofs.Common.{◌≡◌, ℕ, ◌-◌, List, [], ◌∷◌, ◌++◌, length, get_or, map, Some, sym, ap, ap₂, ◌∙◌}
use Rattle.certificate.specs.View.{pair_row_of, targets_in}
use Rattle.certificate.specs.declared.listed.PairRow.{PairRow}
use Rattle.countermodel.specs.LastRows.{AddsToLast}
use Rattle.countermodel.specs.declared.pair.Pair.{Pair}
use Rattle.countermodel.specs.Pairs.{Row, row_with, to_last}
use Rattle.countermodel.proofs.Ends.{at_end}

abbrev pub row_at : ℕ → ℕ → List ℕ → Row
row_at r x ys = (r, x, ys)

pub one_last : {X : Type 0} (xs ys : List X) (x y : X) → xs ++ x ∷ [] ≡ ys ++ y ∷ [] → x ≡ y
one_last {X} xs ys x y e = sym (at_end xs x x) ∙ ap (λ (l : List X). get_or l (length l - 1) x) e ∙ at_end ys y x

-- the row is of the pair's property and source
abbrev pub IsOf : PairRow → Pair → Type 0
IsOf row p = (row.property.0 ≡ p.property.0) × (row.source ≡ p.source)

row_named : (p : Pair) (row : PairRow) (ys : List ℕ) → IsOf row p → row_at row.property.0 row.source ys ≡ row_with p ys
row_named p row ys h = ap₂ (λ (r x : ℕ). row_at r x ys) h.0 h.1

module _ {S : Type 0} (adds : S → S → List PairRow → Type 0) (p : Pair) where
  pub joins : (sink : S) (last row : PairRow) → IsOf last p → row_at row.property.0 row.source (targets_in row.targets) ≡ row_at last.property.0 last.source (targets_in last.targets ++ p.target ∷ []) → AddsToLast adds p sink (Some last) sink row
  joins sink last row same grown = λ start rows added there. (
    rows,
    added,
    to_last (map pair_row_of rows) (targets_in last.targets)
        (ap (λ (w : Row). map pair_row_of rows ++ w ∷ []) (row_named p last (targets_in last.targets) same))
        (ap (λ (w : Row). map pair_row_of rows ++ w ∷ []) (grown ∙ row_named p last (targets_in last.targets ++ p.target ∷ []) same)),
  )
