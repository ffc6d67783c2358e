-- Rows in a sink, list by list.
use Rattle.std.proofs.Common.{◌≡◌, ◌↔◌, ℕ, ◌+◌, ◌≤◌, List, [], ◌∷◌, ◌++◌, length, map, Contains, sym, subst}
use Rattle.std.proofs.lemmas.List.{map-append}
use Rattle.number_sets.specs.Pieces.{list_at}
use Rattle.certificate.specs.Writability.{Ascends}
use Rattle.certificate.specs.View.{class_row_of}
use Rattle.certificate.specs.declared.listed.ClassRow.{ClassRow}
use Rattle.countermodel.specs.Members.{AreRowsOf}
use Rattle.countermodel.specs.Sinks.{Adds, TakesRow}
use Rattle.countermodel.proofs.ClassRows.{AreFirstRows, no_row, no_rows, one_row, all_rows}

-- the sink has the rows of the first lists
abbrev pub HasFirstRows : {S : Type 0} → (S → S → List ClassRow → Type 0) → List (List ℕ) → ℕ → S → S → Type 0
HasFirstRows adds lists count start now = Adds (λ rs. AreFirstRows lists count (map class_row_of rs)) (adds start now)

module _ {S : Type 0} (adds : S → S → List ClassRow → Type 0) (lists : List (List ℕ)) (start : S) where
  pub none_added : adds start start [] → HasFirstRows adds lists 0 start start
  none_added nothing = record { rows = []; are = no_rows lists; added = nothing }

  pub nothing_added : (count : ℕ) (now : S) → HasFirstRows adds lists count start now → length (list_at lists count) ≡ 0 → HasFirstRows adds lists (count + 1) start now
  nothing_added count now has none = record { rows = has.rows; are = no_row lists count (map class_row_of has.rows) has.are none; added = has.added }

  pub row_added : (old new : S) (row : ClassRow) → HasFirstRows adds lists row.class.0 start old → (length (list_at lists row.class.0) ≡ 0 → ⊥) → Ascends row.elements.items
      → ((m : ℕ) → Contains row.elements.items m ↔ Contains (list_at lists row.class.0) m) → TakesRow adds row old new → HasFirstRows adds lists (row.class.0 + 1) start new
  row_added old new row has some up same takes = record {
    rows = has.rows ++ row ∷ [];
    are = subst (AreFirstRows lists (row.class.0 + 1)) (sym (map-append class_row_of has.rows (row ∷ []))) (one_row lists row.class.0 (map class_row_of has.rows) has.are row.elements.items some up same);
    added = takes start has.rows has.added;
  }

  pub all_added : (count : ℕ) (now : S) → length lists ≤ count → HasFirstRows adds lists count start now → Adds (λ rs. AreRowsOf lists (map class_row_of rs)) (adds start now)
  all_added count now done has = record { rows = has.rows; are = all_rows lists count (map class_row_of has.rows) done has.are; added = has.added }
