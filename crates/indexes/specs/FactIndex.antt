-- What an index lists.
use Rattle.std.specs.Prelude.{◌≡◌, ℕ, ◌⊎◌, Bool, true, List, [], ◌∷◌, ◌++◌, slice_get, Some}
use Rattle.std.specs.List.{Contains}
use Rattle.facts.specs.declared.contexts.Context.{Context}
use Rattle.facts.specs.declared.contexts.Fact.{Fact}
use Rattle.facts.specs.declared.contexts.Fact.TheVariants.{In, Edge}
use Rattle.indexes.specs.declared.by_context.ByContext.{ByContext}
use Rattle.indexes.specs.declared.index.Index.{Index}
use Rattle.indexes.specs.Tables.{without}
use Rattle.indexes.specs.Contexts.{at_context, IsLast}
use Rattle.indexes.specs.Parts.{ArePartOf}

-- the fact puts a class into the context
abbrev pub IsIn : Context → Fact → Type 0
IsIn x (In a y) = y ≡ x
IsIn x (Edge y r z) = ⊥

-- it is an edge from it
abbrev pub IsFrom : Context → Fact → Type 0
IsFrom x (In a y) = ⊥
IsFrom x (Edge y r z) = y ≡ x

-- the fact is an edge into the context
abbrev pub IsInto : Context → Fact → Type 0
IsInto x (In a y) = ⊥
IsInto x (Edge y r z) = z ≡ x

-- the fact is an edge from the context, and is a second
abbrev pub IsSecondFrom : Bool → Context → Fact → Type 0
IsSecondFrom is_second x f = (is_second ≡ true) × IsFrom x f

-- the fact puts a class into the context, and is a filler
abbrev pub IsFillerIn : Bool → Context → Fact → Type 0
IsFillerIn is_filler x f = (is_filler ≡ true) × IsIn x f

-- nothing is lost, and at most that fact is listed more, at the end of lists of which it is not the last
pub record MayListIn (has : Context → Fact → Type 0) (old new : ByContext) (number : ℕ) (fact : Fact) : Type 0 where
  pub kept : (x : Context) (n : ℕ) → Contains (at_context old x) n → Contains (at_context new x) n
  pub only : (x : Context) (n : ℕ) → Contains (at_context new x) n → Contains (at_context old x) n ⊎ (has x fact × (n ≡ number))
  pub last : (x : Context) → (at_context new x ≡ at_context old x) ⊎ (has x fact × (IsLast (at_context old x) number → ⊥) × (at_context new x ≡ at_context old x ++ number ∷ []))

pub record MayList (old new : Index) (number : ℕ) (fact : Fact) (is_second is_filler : Bool) : Type 0 where
  pub classes : MayListIn IsIn old.classes new.classes number fact
  pub from : MayListIn IsFrom old.from new.from number fact
  pub into : MayListIn IsInto old.into new.into number fact
  pub second_premises : MayListIn (IsSecondFrom is_second) old.second_premises new.second_premises number fact
  pub fillers : MayListIn (IsFillerIn is_filler) old.fillers new.fillers number fact

-- both list the same, but for the second premises, of which it says nothing
pub record IsSameButForSeconds (old new : Index) : Type 0 where
  pub classes : new.classes ≡ old.classes
  pub from : new.from ≡ old.from
  pub into : new.into ≡ old.into
  pub fillers : new.fillers ≡ old.fillers

-- the fact is listed at each context that it speaks of
pub record Lists (index : Index) (number : ℕ) (fact : Fact) (is_second is_filler : Bool) : Type 0 where
  pub classes : (x : Context) → IsIn x fact → Contains (at_context index.classes x) number
  pub from : (x : Context) → IsFrom x fact → Contains (at_context index.from x) number
  pub into : (x : Context) → IsInto x fact → Contains (at_context index.into x) number
  pub second_premises : (x : Context) → IsSecondFrom is_second x fact → Contains (at_context index.second_premises x) number
  pub fillers : (x : Context) → IsFillerIn is_filler x fact → Contains (at_context index.fillers x) number

-- the number is taken out of the lists of the contexts that the fact speaks of; the other lists stay
abbrev pub RemovesIn : (Context → Fact → Type 0) → ByContext → ByContext → ℕ → Fact → Type 0
RemovesIn has old new number fact = (x : Context) → (¬ has x fact × (at_context new x ≡ at_context old x)) ⊎ (has x fact × (at_context new x ≡ without number (at_context old x)))

pub record Removes (old new : Index) (number : ℕ) (fact : Fact) : Type 0 where
  pub classes : RemovesIn IsIn old.classes new.classes number fact
  pub from : RemovesIn IsFrom old.from new.from number fact
  pub into : RemovesIn IsInto old.into new.into number fact
  pub second_premises : RemovesIn IsFrom old.second_premises new.second_premises number fact
  pub fillers : RemovesIn IsIn old.fillers new.fillers number fact

-- exactly the facts of these numbers are listed: those of the first list are, and none but those of the second, in its order
pub record ListsIn (has : Context → Fact → Type 0) (facts : List Fact) (whole most : List ℕ) (table : ByContext) : Type 0 where
  pub all : (x : Context) (n : ℕ) (f : Fact) → Contains whole n → slice_get facts n ≡ Some f → has x f → Contains (at_context table x) n
  pub only : (x : Context) (n : ℕ) → Contains (at_context table x) n → Contains most n × (f : Fact) × (slice_get facts n ≡ Some f) × has x f
  pub order : (x : Context) → ArePartOf (at_context table x) most

-- exactly the facts of these numbers are listed, but for the second premises and the fillers, of which it says nothing
pub record IsIndex (facts : List Fact) (whole most : List ℕ) (index : Index) : Type 0 where
  pub classes : ListsIn IsIn facts whole most index.classes
  pub from : ListsIn IsFrom facts whole most index.from
  pub into : ListsIn IsInto facts whole most index.into
