-- Rows in a sink, pair by pair.
use Rattle.std.proofs.Common.{◌≡◌, ℕ, ◌+◌, ◌<◌, ◌≤◌, List, [], ◌∷◌, ◌++◌, length, take, get_or, map, Option, Some, None, AllPairs, refl, sym, ap, ◌∙◌, subst, arith}
use Rattle.std.proofs.Math.Seq.{take-append-add}
use Rattle.std.proofs.lemmas.List.{append-nil, get_or-append-add, length-append, map-append, take_all}
use Rattle.certificate.specs.View.{pair_row_of}
use Rattle.certificate.specs.declared.listed.PairRow.{PairRow}
use Rattle.countermodel.specs.LastRows.{AddsToLast, HasGrouped, with_last}
use Rattle.countermodel.specs.declared.pair.Pair.{Pair}
use Rattle.countermodel.specs.Pairs.{AreGrouped, ComesBefore}
use Rattle.countermodel.specs.Sinks.{Adds, TakesRow}
use Rattle.countermodel.proofs.Grouping.{next_pair, no_rows}

-- .. with the first k of the pairs behind those that it had
abbrev pub GroupsSoFar : {S : Type 0} → (S → S → List PairRow → Type 0) → List Pair → ℕ → S → Option PairRow → S → Option PairRow → Type 0
GroupsSoFar {S} adds pairs k old last new row =
    (start : S) (earlier : List Pair) → AllPairs ComesBefore (earlier ++ pairs) → HasGrouped adds start old last earlier → HasGrouped adds start new row (earlier ++ take k pairs)

module _ {S : Type 0} (adds : S → S → List PairRow → Type 0) (start : S) where
  pub none_grouped : adds start start [] → HasGrouped adds start start None []
  none_grouped nothing = record { rows = []; have = refl; added = nothing; grouped = no_rows }

  pub more_grouped : (pairs : List Pair) (k : ℕ) (d : Pair) (old new : S) (last : Option PairRow) (row : PairRow) → k < length pairs → AllPairs ComesBefore pairs
      → AddsToLast adds (get_or pairs k d) old last new row → HasGrouped adds start old last (take k pairs) → HasGrouped adds start new (Some row) (take (k + 1) pairs)
  more_grouped pairs k d old new last row l ascend adds_pair h =
      let (more, added, one) = adds_pair start h.rows h.added h.have in
      record { rows = more; have = tt; added = added; grouped = next_pair pairs k d (with_last h.rows last) (with_last more (Some row)) l ascend one h.grouped }

  -- .. behind others
  pub more_behind : (earlier pairs : List Pair) (k : ℕ) (d : Pair) (old new : S) (last : Option PairRow) (row : PairRow) → k < length pairs → AllPairs ComesBefore (earlier ++ pairs)
      → AddsToLast adds (get_or pairs k d) old last new row → HasGrouped adds start old last (earlier ++ take k pairs) → HasGrouped adds start new (Some row) (earlier ++ take (k + 1) pairs)
  more_behind earlier pairs k d old new last row l ascend adds_pair h =
      let all = earlier ++ pairs in
      let at = length earlier + k in
      let low : at < length all = omega (arith, length-append earlier pairs, l) in
      let next : length earlier + (k + 1) ≡ at + 1 = omega arith in
      subst (HasGrouped adds start new (Some row)) (ap (λ (n : ℕ). take n all) (sym next) ∙ take-append-add earlier pairs (k + 1))
      (more_grouped all at d old new last row low ascend (subst (λ (p : Pair). AddsToLast adds p old last new row) (sym (get_or-append-add earlier pairs k d)) adds_pair)
      (subst (HasGrouped adds start old last) (sym (take-append-add earlier pairs k)) h))

  pub nothing_behind : (earlier pairs : List Pair) (now : S) (last : Option PairRow) → HasGrouped adds start now last earlier → HasGrouped adds start now last (earlier ++ take 0 pairs)
  nothing_behind earlier pairs now last h = subst (HasGrouped adds start now last) (sym (append-nil earlier)) h

  pub all_behind : (earlier pairs : List Pair) (k : ℕ) (now : S) (last : Option PairRow) → length pairs ≤ k → HasGrouped adds start now last (earlier ++ take k pairs) → HasGrouped adds start now last (earlier ++ pairs)
  all_behind earlier pairs k now last l h = subst (λ (ps : List Pair). HasGrouped adds start now last (earlier ++ ps)) (take_all k pairs l) h

  pub without_last : (pairs : List Pair) (now : S) → HasGrouped adds start now None pairs → Adds (λ rs. AreGrouped pairs (map pair_row_of rs)) (adds start now)
  without_last pairs now h = record { rows = h.rows; are = h.grouped; added = h.added }

  pub with_the_last : (pairs : List Pair) (old new : S) (row : PairRow) → TakesRow adds row old new → HasGrouped adds start old (Some row) pairs → Adds (λ rs. AreGrouped pairs (map pair_row_of rs)) (adds start new)
  with_the_last pairs old new row takes h = record {
    rows = h.rows ++ row ∷ [];
    are = subst (AreGrouped pairs) (sym (map-append pair_row_of h.rows (row ∷ []))) h.grouped;
    added = takes start h.rows h.added;
  }
