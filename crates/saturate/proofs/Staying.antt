-- What the index lists is right still where the edges that added chains need as second premises are listed, and what the roots lead to where no
-- form makes a property reflexive.
use Rattle.std.proofs.Common.{◌≡◌, ℕ, zero, suc, ◌+◌, ◌⊎◌, inl, inr, ⊎_elim, List, [], ◌∷◌, ◌++◌, drop, length, slice_get, Some, None, Contains, refl, sym, ap, ◌∙◌, subst, arith}
use Rattle.std.proofs.lemmas.List.Elements.{Contains-append_cases}
use Rattle.normal_forms.specs.Apart.{AreContinuedBy}
use Rattle.normal_forms.specs.declared.apart.ApartLists.{ApartLists}
use Rattle.normal_forms.specs.declared.forms.Form.{Form}
use Rattle.normal_forms.specs.declared.forms.Form.TheVariants.{N1, N2, N3, N4, N5, N6, N7, N8, N9, N10, N12}
use Rattle.normal_forms.specs.declared.forms.PropId2.{PropId2}
use Rattle.normal_forms.specs.declared.forms.PropId2.TheVariants.{Property}
use Rattle.normal_forms.specs.declared.forms.Class2.{Class2}
use Rattle.normal_forms.specs.Properties.{IsAtOrBelow, same}
use Rattle.facts.specs.declared.contexts.Context.{Context}
use Rattle.facts.specs.declared.contexts.Fact.{Fact}
use Rattle.facts.specs.declared.contexts.Fact.TheVariants.{In, Edge}
use Rattle.facts.specs.Closure.{Problem, FromTwo, in_thing, in_itself, by_form, unsatisfiable, loop}
use Rattle.indexes.specs.declared.index.Index.{Index}
use Rattle.indexes.specs.Contexts.{at_context}
use Rattle.indexes.specs.FactIndex.{IsFrom, IsIn}
use Rattle.indexes.proofs.Parts.{part_same}
use Rattle.inference.specs.Derivations.{Derived}
use Rattle.inference.specs.Completeness.{EndsAbove, IsCompleteUpToRedundancy, IsRedundantAsSecond}
use Rattle.inference.specs.Visits.{IsNotCarried}
use Rattle.inference.proofs.Lists.{Contains-from_slice_get, slice_get-from_Contains}
use Rattle.saturate.specs.Requests.{Asks, IsAskedAnew}
use Rattle.saturate.specs.GoingOn.{HasEntered}
use Rattle.saturate.specs.Growth.{with_more, EachFrom, IsGrownFrom, KeepsServed, LeavesEntries}
use Rattle.saturate.specs.IndexedFacts.{ListsFacts}
use Rattle.saturate.specs.NewSeconds.{IsListedAsSecond}
use Rattle.saturate.proofs.Entering.{entered}
use Rattle.saturate.proofs.Extending.{below_cases, new_or_there, redundant_more}
use Rattle.saturate.proofs.Listing.{fewer}

module _ (k : Problem) (forms : List Form) (lists : ApartLists) (roots : List Context) (continued : AreContinuedBy k.apart lists) where
  -- no path from the property of an edge is new that no form asks for
  below_still : (x y : Context) (p q : PropId2) → ¬ IsAskedAnew k (with_more k forms lists roots) (Edge x p y) → IsAtOrBelow (k.forms ++ forms) p q → IsAtOrBelow k.forms p q
  below_still x y p q unasked path = ⊎_elim (λ before. before) (λ asks. absurd (unasked (inl (asks x y)))) (below_cases k.forms forms p q path)

  -- what a chain gives from two edges of which no form asks for the second it gave from an edge of its first property and that
  chain_still : (form : Form) (g f : Fact) (z : Context) (q : PropId2) (v : Context) → ¬ IsAskedAnew k (with_more k forms lists roots) (Edge z q v) → FromTwo (with_more k forms lists roots) form g (Edge z q v) f
      → (h : Fact) × FromTwo k form h (Edge z q v) f
  chain_still (N6 r s t) (Edge x p y) f z q v unasked w = (Edge x r y, (same, below_still z v q s unasked w.1, w.2, w.3))
  chain_still (N6 _ _ _) (In _ _) f z q v unasked w = absurd w
  chain_still (N1 _ _) g f z q v unasked w = absurd w
  chain_still (N2 _ _ _) (In _ _) f z q v unasked w = absurd w
  chain_still (N2 _ _ _) (Edge _ _ _) f z q v unasked w = absurd w
  chain_still (N3 _ _ _) g f z q v unasked w = absurd w
  chain_still (N4 _ _ _) (In _ _) f z q v unasked w = absurd w
  chain_still (N4 _ _ _) (Edge _ _ _) f z q v unasked w = absurd w
  chain_still (N5 _ _) g f z q v unasked w = absurd w
  chain_still (N7 _) g f z q v unasked w = absurd w
  chain_still (N8 _ _) g f z q v unasked w = absurd w
  chain_still (N9 _ _ _) g f z q v unasked w = absurd w
  chain_still (N10 _ _) g f z q v unasked w = absurd w
  chain_still (N12 _ _ _) g f z q v unasked w = absurd w

  -- what a form gives from an edge and a class it gave from an edge of its property and that
  restriction_still : (form : Form) (x : Context) (q : PropId2) (y : Context) (c : Class2) (z : Context) (f : Fact) → FromTwo (with_more k forms lists roots) form (Edge x q y) (In c z) f
      → (p : PropId2) × FromTwo k form (Edge x p y) (In c z) f
  restriction_still (N4 r a b) x q y c z f w = (Property r, (same, w.1, w.2, w.3))
  restriction_still (N1 _ _) x q y c z f w = absurd w
  restriction_still (N2 _ _ _) x q y c z f w = absurd w
  restriction_still (N3 _ _ _) x q y c z f w = absurd w
  restriction_still (N5 _ _) x q y c z f w = absurd w
  restriction_still (N6 _ _ _) x q y c z f w = absurd w
  restriction_still (N7 _) x q y c z f w = absurd w
  restriction_still (N8 _ _) x q y c z f w = absurd w
  restriction_still (N9 _ _ _) x q y c z f w = absurd w
  restriction_still (N10 _ _) x q y c z f w = absurd w
  restriction_still (N12 _ _ _) x q y c z f w = absurd w

  -- a form that gives something from two facts of which the second is an edge is a chain that ends with a property at or above that of the edge
  ends : (form : Form) (g f : Fact) (z : Context) (q : PropId2) (v : Context) → FromTwo (with_more k forms lists roots) form g (Edge z q v) f → EndsAbove (k.forms ++ forms) q form
  ends (N6 _ _ _) (Edge _ _ _) f z q v w = w.1
  ends (N6 _ _ _) (In _ _) f z q v w = absurd w
  ends (N5 _ _) g f z q v w = absurd w
  ends (N7 _) g f z q v w = absurd w
  ends (N1 _ _) g f z q v w = absurd w
  ends (N2 _ _ _) (In _ _) f z q v w = absurd w
  ends (N2 _ _ _) (Edge _ _ _) f z q v w = absurd w
  ends (N3 _ _ _) g f z q v w = absurd w
  ends (N4 _ _ _) (In _ _) f z q v w = absurd w
  ends (N4 _ _ _) (Edge _ _ _) f z q v w = absurd w
  ends (N8 _ _) g f z q v w = absurd w
  ends (N9 _ _ _) g f z q v w = absurd w
  ends (N10 _ _) g f z q v w = absurd w
  ends (N12 _ _ _) g f z q v w = absurd w

  -- a form that gives something from an edge and a class asks for the class
  restriction : (form : Form) (x : Context) (q : PropId2) (y : Context) (c : Class2) (z : Context) (f : Fact) → FromTwo (with_more k forms lists roots) form (Edge x q y) (In c z) f → Asks (k.forms ++ forms) form (In c z)
  restriction (N4 r a b) x q y c z f w = w.1
  restriction (N1 _ _) x q y c z f w = absurd w
  restriction (N2 _ _ _) x q y c z f w = absurd w
  restriction (N3 _ _ _) x q y c z f w = absurd w
  restriction (N5 _ _) x q y c z f w = absurd w
  restriction (N6 _ _ _) x q y c z f w = absurd w
  restriction (N7 _) x q y c z f w = absurd w
  restriction (N8 _ _) x q y c z f w = absurd w
  restriction (N9 _ _ _) x q y c z f w = absurd w
  restriction (N10 _ _) x q y c z f w = absurd w
  restriction (N12 _ _ _) x q y c z f w = absurd w

  -- none of the added forms is a chain that ends with the property, or with one above it
  abbrev NoneEnds : PropId2 → Type 0
  NoneEnds q = (form : Form) → Contains forms form → ¬ EndsAbove (k.forms ++ forms) q form

  -- where the fact of that number is an edge, it is listed as a second premise, or no added chain needs it as one
  abbrev IsListed : Derived → Index → ℕ → Type 0
  IsListed d index n = (x : Context) (p : PropId2) (y : Context) → slice_get d.facts n ≡ Some (Edge x p y) → Contains (at_context index.second_premises x) n ⊎ (NoneEnds p ⊎ IsRedundantAsSecond (with_more k forms lists roots) d (Edge x p y))

  redundant_edge : (d : Derived) (z : Context) (q : PropId2) (v : Context) → NoneEnds q → ¬ IsAskedAnew k (with_more k forms lists roots) (Edge z q v) → IsRedundantAsSecond k d (Edge z q v) → IsRedundantAsSecond (with_more k forms lists roots) d (Edge z q v)
  redundant_edge d z q v none unasked redundant f _ _ _ (in_thing c) = absurd c
  redundant_edge d z q v none unasked redundant f _ _ _ (in_itself c) = absurd c
  redundant_edge d z q v none unasked redundant f h _ _ (by_form n form at gives) = ⊎_elim
      (λ before.
      let m = slice_get-from_Contains k.forms form before in
      let w = chain_still form f h z q v unasked gives in
      redundant_more k forms lists roots continued d w.0 (Edge z q v) h m.0 n form m.1 at (redundant w.0 h _ (Some m.0) (by_form m.0 form m.1 w.1)))
      (λ new. absurd (none form new (ends form f h z q v gives)))
      (Contains-append_cases k.forms forms form (Contains-from_slice_get (k.forms ++ forms) n form at))
  redundant_edge d z q v none unasked redundant f h _ _ (unsatisfiable b) = absurd (redundant f h _ None (unsatisfiable b))
  redundant_edge d z q v none unasked redundant f _ _ _ (loop u m form at l c) = absurd c

  uncarried : (c : Class2) (z : Context) → ¬ IsAskedAnew k (with_more k forms lists roots) (In c z) → IsNotCarried k (In c z) → IsNotCarried (with_more k forms lists roots) (In c z)
  uncarried c z unasked not (In _ _) edge _ _ h gives = absurd edge
  uncarried c z unasked not (Edge x q y) edge _ _ _ (in_thing a) = absurd a
  uncarried c z unasked not (Edge x q y) edge _ _ _ (in_itself a) = absurd a
  uncarried c z unasked not (Edge x q y) edge _ _ h (by_form n form at gives) = ⊎_elim
      (λ new. unasked (inl (form, new, restriction form x q y c z h gives)))
      (λ before. let w = restriction_still form x q y c z h gives in not (Edge x w.0 y) edge _ (Some before.0) h (by_form before.0 form before.1 w.1))
      (new_or_there k.forms forms form (Contains-from_slice_get (k.forms ++ forms) n form at))
  uncarried c z unasked not (Edge x q y) edge _ _ h (unsatisfiable b) = not (Edge x q y) edge _ None h (unsatisfiable b)
  uncarried c z unasked not (Edge x q y) edge _ _ _ (loop u m form at l a) = absurd a

  second_still : (d : Derived) (index : Index) (n : ℕ) (x : Context) (f : Fact) → IsFrom x f → slice_get d.facts n ≡ Some f → IsListed d index n → ¬ IsAskedAnew k (with_more k forms lists roots) f → IsRedundantAsSecond k d f
      → Contains (at_context index.second_premises x) n ⊎ IsRedundantAsSecond (with_more k forms lists roots) d f
  second_still d index n x (In _ _) h at listed unasked redundant = absurd h
  second_still d index n x (Edge z q v) h at listed unasked redundant = ⊎_elim
      (λ here. inl (subst (λ (u : Context). Contains (at_context index.second_premises u) n) h here))
      (λ rest. inr (⊎_elim (λ none. redundant_edge d z q v none unasked redundant) (λ now. now) rest))
      (listed z q v at)

  uncarried_in : (x : Context) (f : Fact) → IsIn x f → ¬ IsAskedAnew k (with_more k forms lists roots) f → IsNotCarried k f → IsNotCarried (with_more k forms lists roots) f
  uncarried_in x (In c z) h unasked not = uncarried c z unasked not
  uncarried_in x (Edge _ _ _) h unasked not = absurd h

  -- of the facts that are listed those that no new form asks for are listed by all forms
  listed_by_more : {d : Derived} {w m : List ℕ} {index : Index} (now : List ℕ) → ((n : ℕ) → IsListed d index n) → KeepsServed k (with_more k forms lists roots) d.facts w now → ListsFacts k d w m index → ListsFacts (with_more k forms lists roots) d now m index
  listed_by_more {d} {w} {m} {index} now each keeps s = record {
    by_context = (fewer now m s (λ n c. ((keeps n).0 c).0) (part_same m)).by_context;
    second_premises = record {
      all = λ x n f c at h. ⊎_elim
          (λ here. inl here)
          (λ redundant. second_still d index n x f h at (each n) (λ asked. ((keeps n).0 c).1 (f, at, asked)) redundant)
          (s.second_premises.all x n f ((keeps n).0 c).0 at h);
      only = s.second_premises.only;
    };
    fillers = record {
      all = λ x n f c at h. ⊎_elim
          (λ here. inl here)
          (λ not. inr (uncarried_in x f h (λ asked. ((keeps n).0 c).1 (f, at, asked)) not))
          (s.fillers.all x n f ((keeps n).0 c).0 at h);
      only = s.fillers.only;
    };
  }

pub slice_get_drop : {X : Type 0} (n : ℕ) (xs : List X) (i : ℕ) → slice_get (drop n xs) i ≡ slice_get xs (n + i)
slice_get_drop zero xs i = ap (slice_get xs) (place i)
  where
    place : (j : ℕ) → j ≡ 0 + j
    place j = omega arith
slice_get_drop (suc n) [] i = refl
slice_get_drop (suc n) (x ∷ xs) i = slice_get_drop n xs i ∙ ap (slice_get (x ∷ xs)) (place n i)
  where
    place : (m j : ℕ) → suc (m + j) ≡ suc m + j
    place m j = omega arith

-- the forms that are added are those from that number on
pub added : (P : Form → Type 0) (from : ℕ) (all : List Form) → EachFrom P from all → (form : Form) → Contains (drop from all) form → P form
added P from all each form there =
    let at = slice_get-from_Contains (drop from all) form there in
    each (from + at.0) form (omega arith) (sym (slice_get_drop from all at.0) ∙ at.1)

-- what is listed for the forms from that number on is listed for those that are added
listed_for_added : {k j : Problem} (from : ℕ) (is : IsGrownFrom from k j) (d : Derived) (index : Index) (n : ℕ) → IsListedAsSecond from j d index n → IsListed k (drop from j.forms) j.apart is.roots is.lists d index n
listed_for_added {k} {j} from is d index n listed x p y at = ⊎_elim
    (λ there. inl there)
    (λ rest. inr (⊎_elim
    (λ none. inl (λ form new. subst (λ (forms : List Form). ¬ EndsAbove forms p form) (ap (λ (i : Problem). i.forms) is.problem) (added (λ f. ¬ EndsAbove j.forms p f) from j.forms none form new)))
    (λ redundant. inr (subst (λ (i : Problem). IsRedundantAsSecond i d (Edge x p y)) is.problem redundant))
    rest))
    (listed x p y at)

pub listed_then : {k j : Problem} {d : Derived} {w m : List ℕ} {index : Index} (from : ℕ) → IsGrownFrom from k j → ((n : ℕ) → IsListedAsSecond from j d index n) → (now : List ℕ) → KeepsServed k j d.facts w now → ListsFacts k d w m index → ListsFacts j d now m index
listed_then {k} {j} {d} {w} {m} {index} from is each now keeps s =
    subst (λ (i : Problem). ListsFacts i d now m index) (sym is.problem)
    (listed_by_more k (drop from j.forms) j.apart is.roots is.lists now (λ n. listed_for_added from is d index n (each n)) (subst (λ (i : Problem). KeepsServed k i d.facts w now) is.problem keeps) s)

pub entered_then : {k j : Problem} {d : Derived} {served : List ℕ} (from : ℕ) → IsGrownFrom from k j → EachFrom LeavesEntries from j.forms → IsCompleteUpToRedundancy k d served → HasEntered j (length k.roots) served d
entered_then {k} {j} {d} {served} from is leave complete =
    subst (λ (i : Problem). HasEntered i (length k.roots) served d) (sym is.problem) (entered k (drop from j.forms) j.apart is.roots (added LeavesEntries from j.forms leave) served complete)
