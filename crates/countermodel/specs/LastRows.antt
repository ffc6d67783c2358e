-- Rows that grow pair by pair: a sink has all but the last.
use Rattle.std.specs.Prelude.{◌≡◌, ◌↔◌, List, [], ◌∷◌, ◌++◌, map, Option, Some, None}
use Rattle.std.specs.List.{AllPairs, Contains}
use Rattle.certificate.specs.View.{pair_row_of}
use Rattle.certificate.specs.declared.listed.PairRow.{PairRow}
use Rattle.countermodel.specs.Pairs.{AddsPair, AreGrouped, ComesBefore, Row}
use Rattle.countermodel.specs.declared.pair.Pair.{Pair}

-- the rows with the last one
abbrev pub with_last : List PairRow → Option PairRow → List Row
with_last rows None = map pair_row_of rows
with_last rows (Some row) = map pair_row_of rows ++ pair_row_of row ∷ []

-- where there is no last row, there is none
abbrev pub HaveLast : List PairRow → Option PairRow → Type 0
HaveLast rows None = rows ≡ []
HaveLast rows (Some row) = Unit {0}

-- with the row in place of the last one, and what the sink took, the pair is among the rows
abbrev pub AddsToLast : {S : Type 0} → (S → S → List PairRow → Type 0) → Pair → S → Option PairRow → S → PairRow → Type 0
AddsToLast {S} adds p old last new row =
    (start : S) (rows : List PairRow) → adds start old rows → HaveLast rows last
    → (more : List PairRow) × adds start new more × AddsPair p (with_last rows last) (with_last more (Some row))

-- the sink has the rows of these pairs but the last one
pub record HasGrouped {S : Type 0} (adds : S → S → List PairRow → Type 0) (start now : S) (last : Option PairRow) (pairs : List Pair) : Type 0 where
  pub rows : List PairRow
  pub have : HaveLast rows last
  pub added : adds start now rows
  pub grouped : AreGrouped pairs (with_last rows last)

-- .. with these pairs behind those that it had
abbrev pub GroupsMore : {S : Type 0} → (S → S → List PairRow → Type 0) → List Pair → S → Option PairRow → S → Option PairRow → Type 0
GroupsMore {S} adds pairs old last new row =
    (start : S) (earlier : List Pair) → AllPairs ComesBefore (earlier ++ pairs) → HasGrouped adds start old last earlier → HasGrouped adds start new row (earlier ++ pairs)

-- .. with all pairs of which P holds behind them, in order
pub record GroupsAll {S : Type 0} (adds : S → S → List PairRow → Type 0) (P : Pair → Type 0) (old : S) (last : Option PairRow) (new : S) (row : Option PairRow) : Type 0 where
  pub pairs : List Pair
  pub ascend : AllPairs ComesBefore pairs
  pub are : (p : Pair) → Contains pairs p ↔ P p
  pub grouped : GroupsMore adds pairs old last new row
