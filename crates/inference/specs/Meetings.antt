-- What a fact meets of those that the index lists.
use Rattle.std.specs.Prelude.{◌≡◌, ℕ, List, slice_get, Some}
use Rattle.std.specs.List.{Contains}
use Rattle.facts.specs.declared.contexts.Context.{Context}
use Rattle.facts.specs.declared.contexts.Fact.{Fact}
use Rattle.facts.specs.declared.contexts.Fact.TheVariants.{In, Edge}
use Rattle.facts.specs.Closure.{Problem}
use Rattle.indexes.specs.declared.index.Index.{Index}
use Rattle.indexes.specs.Contexts.{at_context}
use Rattle.indexes.specs.FactIndex.{IsIn, IsFrom, IsInto}
use Rattle.inference.specs.Derivations.{Derived}
use Rattle.inference.specs.Completeness.{AreMet, AreMetBefore, AreMetBehind}
use Rattle.inference.specs.Entry.{IsDrawnAlone}

-- what is listed is a fact: a class in the context, which fillers are too, an edge from it, or one into it
pub record IsWithin (facts : List Fact) (index : Index) : Type 0 where
  pub classes : (x : Context) (n : ℕ) → Contains (at_context index.classes x) n → (f : Fact) × (slice_get facts n ≡ Some f) × IsIn x f
  pub second_premises : (x : Context) (n : ℕ) → Contains (at_context index.second_premises x) n → (f : Fact) × (slice_get facts n ≡ Some f) × IsFrom x f
  pub fillers : (x : Context) (n : ℕ) → Contains (at_context index.fillers x) n → (f : Fact) × (slice_get facts n ≡ Some f) × IsIn x f
  pub into : (x : Context) (n : ℕ) → Contains (at_context index.into x) n → (f : Fact) × (slice_get facts n ≡ Some f) × IsInto x f

-- what the fact gives with those that the index lists is there or redundant: a class in a context with the classes in it, and behind the
-- edges into it; an edge before the fillers among the classes in its target and the second premises among the edges on from it, and behind the
-- edges into its source
abbrev pub AllListedAreMet : Problem → Fact → List Fact → Index → Derived → Type 0
AllListedAreMet k (In a x) old index new =
    AreMet k (In a x) old (at_context index.classes x) new
    × AreMetBehind k (In a x) old (at_context index.into x) new
AllListedAreMet k (Edge x r y) old index new =
    AreMetBefore k (Edge x r y) old (at_context index.fillers y) new
    × AreMetBefore k (Edge x r y) old (at_context index.second_premises y) new
    × AreMetBehind k (Edge x r y) old (at_context index.into x) new

-- what the fact of that number gives is there or redundant: alone, and with those that the index lists for it
pub record HasServed (k : Problem) (n : ℕ) (f : Fact) (old : Derived) (index : Index) (new : Derived) : Type 0 where
  pub alone : IsDrawnAlone k n f old new
  pub met : AllListedAreMet k f old.facts index new
