-- Ranges in the order of pairs.
use Rattle.std.specs.Prelude.{◌↔◌, ◌<◌, ℕ, List, Option, Some, None}
use Rattle.std.specs.List.{AllPairs, Contains}
use Rattle.certificate.specs.declared.listed.PairRow.{PairRow}
use Rattle.countermodel.specs.LastRows.{HasGrouped}
use Rattle.countermodel.specs.Pairs.{ComesBefore}
use Rattle.countermodel.specs.declared.pair.Pair.{Pair}
use Rattle.countermodel.specs.declared.pair.PairRange.{PairRange}

-- before the end, where there is one
abbrev pub IsBelow : Option Pair → Pair → Type 0
IsBelow None p = Unit {0}
IsBelow (Some end) p = ComesBefore p end

abbrev pub IsWithin : PairRange → Pair → Type 0
IsWithin range p = (ComesBefore p range.from → ⊥) × IsBelow range.end p

-- P, and in the range, and of one of the first properties
abbrev pub Within : ℕ → PairRange → (Pair → Type 0) → Pair → Type 0
Within properties range P p = P p × (IsWithin range p × (p.property.0 < properties))

-- the sink has the rows, but the last one, of the pairs of which P holds and which are below the end
pub record HasRowsBelow {S : Type 0} (adds : S → S → List PairRow → Type 0) (P : Pair → Type 0) (start : S) (end : Option Pair) (now : S) (last : Option PairRow) : Type 0 where
  pub pairs : List Pair
  pub ascend : AllPairs ComesBefore pairs
  pub are : (p : Pair) → Contains pairs p ↔ (P p × IsBelow end p)
  pub grouped : HasGrouped adds start now last pairs

-- .. and now also of those in the range
abbrev pub AddsRange : {S : Type 0} → (S → S → List PairRow → Type 0) → (Pair → Type 0) → PairRange → S → Option PairRow → S → Option PairRow → Type 0
AddsRange {S} adds P range old last new row = (start : S) → HasRowsBelow adds P start (Some range.from) old last → HasRowsBelow adds P start range.end new row

-- the pairs of which P holds are of the first properties
abbrev pub HaveProperties : ℕ → (Pair → Type 0) → Type 0
HaveProperties properties P = (p : Pair) → P p → p.property.0 < properties
