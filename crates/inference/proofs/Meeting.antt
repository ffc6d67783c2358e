-- What a fact meets of those that the index lists.
use Rattle.std.proofs.Common.{◌≡◌, ◌<◌, ℕ, List, Contains, Some, get_or, length, slice_get, subst}
use Rattle.std.proofs.lemmas.List.Elements.{Contains-get_or}
use Rattle.std.proofs.lemmas.Option.{slice_get_within}
use Rattle.normal_forms.specs.declared.forms.Class2.{Class2}
use Rattle.normal_forms.specs.declared.forms.PropId2.{PropId2}
use Rattle.facts.specs.declared.contexts.Context.{Context}
use Rattle.facts.specs.declared.contexts.Fact.{Fact}
use Rattle.facts.specs.declared.contexts.Fact.TheVariants.{In, Edge}
use Rattle.facts.specs.Closure.{Problem}
use Rattle.indexes.specs.declared.index.Index.{Index}
use Rattle.indexes.specs.Contexts.{at_context}
use Rattle.indexes.specs.FactIndex.{IsIn, IsFrom, IsInto}
use Rattle.inference.specs.Derivations.{Derived, Grows}
use Rattle.inference.specs.Completeness.{AreMet, AreMetBefore, AreMetBehind, ForEach}
use Rattle.inference.specs.Visits.{AreAll, AreWithin, IsClassFact, IsEdge}
use Rattle.inference.specs.Meetings.{IsWithin, AllListedAreMet}
use Rattle.inference.proofs.Drawing.{for_each_earlier}
use Rattle.inference.proofs.Lists.{one_value}

-- what holds of the numbers of one list holds of those of another that is the same
same_list : (P : List ℕ → Type 0) (l m : List ℕ) → l ≡ m → P l → P m
same_list P l m e p = subst P e p

module _ (k : Problem) (old : List Fact) (index : Index) (new : Derived) where
  pub met_in : (a : Class2) (x : Context) (l m : List ℕ) → l ≡ at_context index.classes x → m ≡ at_context index.into x → AreMet k (In a x) old l new → AreMetBehind k (In a x) old m new → AllListedAreMet k (In a x) old index new
  met_in a x l m e d p q = (
    same_list (λ ns. AreMet k (In a x) old ns new) l _ e p,
    same_list (λ ns. AreMetBehind k (In a x) old ns new) m _ d q,
  )

  pub met_edge : (x : Context) (r : PropId2) (y : Context) (l m o : List ℕ) → l ≡ at_context index.fillers y → m ≡ at_context index.second_premises y → o ≡ at_context index.into x → AreMetBefore k (Edge x r y) old l new → AreMetBefore k (Edge x r y) old m new → AreMetBehind k (Edge x r y) old o new → AllListedAreMet k (Edge x r y) old index new
  met_edge x r y l m o e d b p q t = (
    same_list (λ ns. AreMetBefore k (Edge x r y) old ns new) l _ e p,
    same_list (λ ns. AreMetBefore k (Edge x r y) old ns new) m _ d q,
    same_list (λ ns. AreMetBehind k (Edge x r y) old ns new) o _ b t,
  )

-- what is listed are facts of those kinds
pub classes_listed : {facts : List Fact} {index : Index} → IsWithin facts index → (x : Context) (numbers : List ℕ) → numbers ≡ at_context index.classes x → AreAll IsClassFact facts numbers
classes_listed w x numbers e n c = let o = w.classes x n (subst (λ ns. Contains ns n) e c) in (o.0, o.1, kind o.0 o.2)
  where
    kind : (f : Fact) → IsIn x f → IsClassFact f
    kind (In a y) h = tt
    kind (Edge y r z) h = absurd h

pub fillers_listed : {facts : List Fact} {index : Index} → IsWithin facts index → (x : Context) (numbers : List ℕ) → numbers ≡ at_context index.fillers x → AreAll IsClassFact facts numbers
fillers_listed w x numbers e n c = let o = w.fillers x n (subst (λ ns. Contains ns n) e c) in (o.0, o.1, kind o.0 o.2)
  where
    kind : (f : Fact) → IsIn x f → IsClassFact f
    kind (In a y) h = tt
    kind (Edge y r z) h = absurd h

pub second_premises_listed : {facts : List Fact} {index : Index} → IsWithin facts index → (x : Context) (numbers : List ℕ) → numbers ≡ at_context index.second_premises x → AreAll IsEdge facts numbers
second_premises_listed w x numbers e n c = let o = w.second_premises x n (subst (λ ns. Contains ns n) e c) in (o.0, o.1, kind o.0 o.2)
  where
    kind : (f : Fact) → IsFrom x f → IsEdge f
    kind (In a y) h = absurd h
    kind (Edge y r z) h = tt

pub into_listed : {facts : List Fact} {index : Index} → IsWithin facts index → (x : Context) (numbers : List ℕ) → numbers ≡ at_context index.into x → AreAll IsEdge facts numbers
into_listed w x numbers e n c = let o = w.into x n (subst (λ ns. Contains ns n) e c) in (o.0, o.1, kind o.0 o.2)
  where
    kind : (f : Fact) → IsInto x f → IsEdge f
    kind (In a y) h = absurd h
    kind (Edge y r z) h = tt

pub within_still : {k : Problem} {most : ℕ} {a b : Derived} {index : Index} → Grows k most a b → IsWithin a.facts index → IsWithin b.facts index
within_still s w = record {
  classes = λ x n c. let o = w.classes x n c in (o.0, s.facts n o.0 o.1, o.2);
  second_premises = λ x n c. let o = w.second_premises x n c in (o.0, s.facts n o.0 o.1, o.2);
  fillers = λ x n c. let o = w.fillers x n c in (o.0, s.facts n o.0 o.1, o.2);
  into = λ x n c. let o = w.into x n c in (o.0, s.facts n o.0 o.1, o.2);
}

-- the facts of these numbers are all of the kind still
pub all_still_there : {k : Problem} {most : ℕ} {a b : Derived} → Grows k most a b → (P : Fact → Type 0) (numbers : List ℕ) → AreAll P a.facts numbers → AreAll P b.facts numbers
all_still_there s P numbers all n c = let o = all n c in (o.0, s.facts n o.0 o.1, o.2)

pub kind_of : (P : Fact → Type 0) (facts : List Fact) (numbers : List ℕ) → AreAll P facts numbers → ForEach P facts numbers
kind_of P facts numbers all n c f at = let o = all n c in subst P (one_value _ o.0 f o.1 at) o.2

-- what is read at a place of the numbers, where facts have grown, is of the kind
pub kind_read : {k : Problem} {most : ℕ} {a b : Derived} → Grows k most a b → (P : Fact → Type 0) (numbers : List ℕ) (i : ℕ) (read : Fact) → AreAll P a.facts numbers → i < length numbers → slice_get b.facts (get_or numbers i 0) ≡ Some read → P read
kind_read s P numbers i read all low at = let o = all _ (Contains-get_or numbers i 0 low) in subst P (one_value _ o.0 read (s.facts _ o.0 o.1) at) o.2

pub numbers_within : (P : Fact → Type 0) (facts : List Fact) (numbers : List ℕ) → AreAll P facts numbers → AreWithin facts numbers
numbers_within P facts numbers all n c = let o = all n c in slice_get_within facts n o.0 o.1

pub listed_earlier : {k : Problem} {most : ℕ} {a b : Derived} (index : Index) (new : Derived) → Grows k most a b → (f : Fact) → AllListedAreMet k f b.facts index new → AllListedAreMet k f a.facts index new
listed_earlier index new s (In c x) met = (for_each_earlier s _ _ met.0, for_each_earlier s _ _ met.1)
listed_earlier index new s (Edge x r y) met = (for_each_earlier s _ _ met.0, for_each_earlier s _ _ met.1, for_each_earlier s _ _ met.2)
