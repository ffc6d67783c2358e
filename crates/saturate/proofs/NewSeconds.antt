-- The edges that chains that are added need as second premises come to be listed, and what was listed stays right.
use Rattle.std.proofs.Common.{◌≡◌, ℕ, ◌<◌, inl, inr, ⊎_elim, List, slice_get, Some, Contains, refl, sym, subst, ◌∙◌, arith}
use Rattle.normal_forms.specs.declared.forms.Form.{Form}
use Rattle.normal_forms.specs.declared.forms.Form.TheVariants.{N1, N2, N3, N4, N5, N6, N7, N8, N9, N10, N12}
use Rattle.normal_forms.specs.declared.forms.PropId2.{PropId2}
use Rattle.normal_forms.specs.Properties.{IsAtOrBelow}
use Rattle.facts.specs.declared.contexts.Context.{Context}
use Rattle.facts.specs.declared.contexts.Fact.{Fact}
use Rattle.facts.specs.declared.contexts.Fact.TheVariants.{Edge}
use Rattle.facts.specs.Closure.{Problem}
use Rattle.indexes.specs.declared.index.Index.{Index}
use Rattle.indexes.specs.Contexts.{at_context, AddsAt}
use Rattle.indexes.specs.FactIndex.{IsFrom, IsIn, IsInto, IsSameButForSeconds, ListsIn}
use Rattle.indexes.specs.FormsUnderKeys.{IsUnder}
use Rattle.indexes.specs.Keys.{by_end, property_key}
use Rattle.inference.specs.Derivations.{Derived}
use Rattle.inference.specs.Visits.{IsNotCarried}
use Rattle.indexes.specs.declared.by_context.ByContext.{ByContext}
use Rattle.inference.proofs.Lists.{one_value}
use Rattle.saturate.specs.IndexedFacts.{ListsFacts, ListsNeeded}
use Rattle.saturate.specs.NewSeconds.{IsListedAsSecond, ListsMoreSeconds, NoneEndsFrom}

-- ---- which chains are new

-- each chain that ends with a property at or above that one comes earlier, so none that is added does
pub none_ends : (forms : List Form) (from : ℕ) (p : PropId2) → ((s : PropId2) → IsAtOrBelow forms p s → (n : ℕ) → IsUnder by_end forms (property_key s) n → n < from) → NoneEndsFrom from forms p
none_ends forms from p earlier n (N6 r s t) low at = λ below. omega (arith, low, earlier s below n (N6 r s t, at, refl))
none_ends forms from p earlier n (N1 _ _) low at = λ ends. ends
none_ends forms from p earlier n (N2 _ _ _) low at = λ ends. ends
none_ends forms from p earlier n (N3 _ _ _) low at = λ ends. ends
none_ends forms from p earlier n (N4 _ _ _) low at = λ ends. ends
none_ends forms from p earlier n (N5 _ _) low at = λ ends. ends
none_ends forms from p earlier n (N7 _) low at = λ ends. ends
none_ends forms from p earlier n (N8 _ _) low at = λ ends. ends
none_ends forms from p earlier n (N9 _ _ _) low at = λ ends. ends
none_ends forms from p earlier n (N10 _ _) low at = λ ends. ends
none_ends forms from p earlier n (N12 _ _ _) low at = λ ends. ends

-- ---- what is listed

pub same_seconds : (facts : List Fact) (index : Index) → ListsMoreSeconds facts index index
same_seconds facts index = record {
  others = record { classes = refl; from = refl; into = refl; fillers = refl };
  kept = λ x n c. c;
  only = λ x n c. inl c;
}

pub more_seconds : {facts : List Fact} {old mid new : Index} → ListsMoreSeconds facts old mid → ListsMoreSeconds facts mid new → ListsMoreSeconds facts old new
more_seconds s t = record {
  others = record { classes = t.others.classes ∙ s.others.classes; from = t.others.from ∙ s.others.from; into = t.others.into ∙ s.others.into; fillers = t.others.fillers ∙ s.others.fillers };
  kept = λ x n c. t.kept x n (s.kept x n c);
  only = λ x n c. ⊎_elim (λ before. s.only x n before) (λ edge. inr edge) (t.only x n c);
}

-- an edge is listed, or memory was refused
pub one_second : {old new : Index} (facts : List Fact) (x : Context) (p : PropId2) (y : Context) (n : ℕ) → slice_get facts n ≡ Some (Edge x p y) → IsSameButForSeconds old new → AddsAt old.second_premises new.second_premises x n → ListsMoreSeconds facts old new
one_second facts x p y n at others adds = record {
  others = others;
  kept = λ z i c. (adds z i).1 (inl c);
  only = λ z i c. ⊎_elim (λ before. inl before) (λ w. inr (Edge x p y, subst (λ (j : ℕ). slice_get facts j ≡ Some (Edge x p y)) (sym w.1) at, sym w.0)) ((adds z i).0 c);
}

-- the edge that is read is that of its number
pub listed_as : (from : ℕ) (k : Problem) (d : Derived) (index : Index) (n : ℕ) (x : Context) (p : PropId2) (y : Context) → slice_get d.facts n ≡ Some (Edge x p y) → Contains (at_context index.second_premises x) n → IsListedAsSecond from k d index n
listed_as from k d index n x p y at there z q v is =
    let same : Edge x p y ≡ Edge z q v = one_value _ (Edge x p y) (Edge z q v) at is in
    inl (subst (λ (u : Context). Contains (at_context index.second_premises u) n) (source same) there)
  where
    source : {a b : Context} {r s : PropId2} {c d : Context} → Edge a r c ≡ Edge b s d → a ≡ b
    source e = cc

pub still_listed_for : {d : Derived} {old new : Index} (from : ℕ) (k : Problem) (n : ℕ) → ListsMoreSeconds d.facts old new → IsListedAsSecond from k d old n → IsListedAsSecond from k d new n
still_listed_for from k n more listed x p y at = ⊎_elim (λ there. inl (more.kept x n there)) (λ none. inr none) (listed x p y at)

-- ---- what the index lists is right still

pub listed_with_more : {k : Problem} {d : Derived} {w m : List ℕ} {old new : Index} → ListsMoreSeconds d.facts old new → ListsFacts k d w m old → ListsFacts k d w m new
listed_with_more {k} {d} {w} {m} more s = record {
  by_context = record {
    classes = subst (λ (table : ByContext). ListsIn IsIn d.facts w m table) (sym more.others.classes) s.by_context.classes;
    from = subst (λ (table : ByContext). ListsIn IsFrom d.facts w m table) (sym more.others.from) s.by_context.from;
    into = subst (λ (table : ByContext). ListsIn IsInto d.facts w m table) (sym more.others.into) s.by_context.into;
  };
  second_premises = record {
    all = λ x n f c at h. ⊎_elim (λ here. inl (more.kept x n here)) (λ redundant. inr redundant) (s.second_premises.all x n f c at h);
    only = λ x n c. ⊎_elim (λ before. s.second_premises.only x n before) (λ edge. edge) (more.only x n c);
  };
  fillers = subst (λ (table : ByContext). ListsNeeded IsIn (IsNotCarried k) d.facts w table) (sym more.others.fillers) s.fillers;
}
