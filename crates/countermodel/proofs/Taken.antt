-- What sinks of rows took.
use Rattle.std.proofs.Common.{◌≡◌, List, [], ◌++◌, sym, ap, ◌∙◌, subst}
use Rattle.std.specs.Prelude.{OnOk, Result, Ok, Err}
use Rattle.countermodel.specs.Sinks.{Adds}

-- of rows of which P holds, Q holds too
pub adds_weaker : {R A E : Type 0} (result : Result A E) (P Q : List R → Type 0) (added : List R → Type 0) → ((rows : List R) → P rows → Q rows) → OnOk result (Adds P added) → OnOk result (Adds Q added)
adds_weaker (Ok x) P Q added weaker h = record { rows = h.rows; are = weaker h.rows h.are; added = h.added }
adds_weaker (Err e) P Q added weaker h = tt

-- a list that had no rows has those that it took
pub all_taken : {R : Type 0} (P : List R → Type 0) (start now : List R) → start ≡ [] → Adds P (λ rows. now ≡ start ++ rows) → P now
all_taken P start now none h = subst P (sym (h.added ∙ ap (λ rows. rows ++ h.rows) none)) h.are
