-- What callers see of normal forms.
use Rattle.std.specs.Prelude.{ℕ, List, Bool}
use Rattle.normal_forms.specs.declared.apart.ApartLists.{ApartLists}
use Rattle.normalise.specs.declared.entries.Entry.{Entry}

-- the forms, the lists of what is apart and for each of these the number of its axiom, the lists that fresh names stand for by their numbers, the expressions that are asked about, and which expressions occur right and left
pub record Listing : Type 0 where
  pub entries : List Entry
  pub apart : ApartLists
  pub disjoint_axioms : List ℕ
  pub different_axioms : List ℕ
  pub operands : List (List ℕ)
  pub steps : List (List ℕ)
  pub asked : List ℕ
  pub right : List Bool
  pub left : List Bool
