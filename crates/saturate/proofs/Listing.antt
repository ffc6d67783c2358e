-- What the index lists from step to step, and that it misses no partner.
use Rattle.std.proofs.Common.{◌≡◌, ℕ, ◌<◌, ◌⊎◌, inl, inr, ⊎_elim, Bool, true, false, List, [], ◌∷◌, ◌++◌, length, slice_get, Some, None, Option, Contains, refl, sym, ap, subst, arith}
use Rattle.std.proofs.lemmas.List.Elements.{Contains-push, Contains-push_cases}
use Rattle.std.proofs.lemmas.Option.{slice_get_within}
use Rattle.normal_forms.specs.declared.forms.Form.{Form}
use Rattle.normal_forms.specs.declared.forms.Form.TheVariants.{N1, N2, N3, N4, N5, N6, N7, N8, N9, N10, N12}
use Rattle.facts.specs.declared.contexts.Context.{Context}
use Rattle.facts.specs.declared.contexts.Fact.{Fact}
use Rattle.facts.specs.declared.contexts.Fact.TheVariants.{In, Edge}
use Rattle.facts.specs.Closure.{Problem, FromTwo, Carries, Gives, in_thing, in_itself, by_form, unsatisfiable, loop, apart}
use Rattle.indexes.specs.declared.by_context.ByContext.{ByContext}
use Rattle.indexes.specs.declared.index.Index.{Index}
use Rattle.indexes.specs.Contexts.{at_context, IsLast, IsEmptyTable, IsEmptyIndex}
use Rattle.indexes.specs.Parts.{ArePartOf}
use Rattle.indexes.proofs.Parts.{part_empty, part_same, part_push, part_more, part_behind, part_within, part_cases, part_contains}
use Rattle.indexes.specs.FactIndex.{IsIn, IsFrom, IsInto, MayListIn, MayList, Lists, ListsIn}
use Rattle.inference.specs.Derivations.{Derived, Grows}
use Rattle.saturate.specs.Turns.{Queued, option_list}
use Rattle.inference.specs.Completeness.{MeetEachOther, IsRedundantAsSecond}
use Rattle.inference.specs.Visits.{IsNotCarried}
use Rattle.saturate.specs.IndexedFacts.{ListsFacts, ListsNeeded, ListsServed}
use Rattle.inference.specs.Meetings.{IsWithin, AllListedAreMet}
use Rattle.inference.proofs.Lists.{one_value}
use Rattle.inference.proofs.Redundancy.{second_still}
use Rattle.saturate.proofs.States.{was_there}

-- ---- tables

module _ (has : Context → Fact → Type 0) where
  fewer_in : (facts : List Fact) (w m v l : List ℕ) (table : ByContext) → ListsIn has facts w m table → ((n : ℕ) → Contains v n → Contains w n) → ArePartOf m l → ListsIn has facts v l table
  fewer_in facts w m v l table s low high = record {
    all = λ x n f c at h. s.all x n f (low n c) at h;
    only = λ x n c. let o = s.only x n c in (part_contains high n o.0, o.1, o.2, o.3);
    order = λ x. part_within (s.order x) high;
  }

  may_in : (facts : List Fact) (w m : List ℕ) (old new : ByContext) (n : ℕ) (f : Fact) → ListsIn has facts w m old → MayListIn has old new n f → slice_get facts n ≡ Some f → m ≡ w ++ n ∷ [] → ListsIn has facts w m new
  may_in facts w m old new n f s t at e = record {
    all = λ x i g d at_i h. t.kept x i (s.all x i g d at_i h);
    only = λ x i d. ⊎_elim (s.only x i) (λ v. (subst (λ (j : ℕ). Contains m j) (sym v.1) here, f, subst (λ (j : ℕ). slice_get facts j ≡ Some f) (sym v.1) at, v.0)) (t.only x i d);
    order = λ x. ⊎_elim (λ same. rw same (s.order x)) (λ v. put x v.1 v.2) (t.last x);
  }
    where
      here : Contains m n
      here = rw e (Contains-push w n)

      -- what is listed and has not n at its end has it nowhere
      put : (x : Context) → (IsLast (at_context old x) n → ⊥) → at_context new x ≡ at_context old x ++ n ∷ [] → ArePartOf (at_context new x) m
      put x other is =
          let before : ArePartOf (at_context old x) (w ++ n ∷ []) = subst (λ (l : List ℕ). ArePartOf (at_context old x) l) e (s.order x) in
          rw (is, e) (part_push n (⊎_elim (λ (p : ArePartOf (at_context old x) w). p) (λ v. absurd (other (v.0, v.1))) (part_cases w n before)))

  all_in : (facts : List Fact) (w m : List ℕ) (new : ByContext) (n : ℕ) (f : Fact) → ListsIn has facts w m new → slice_get facts n ≡ Some f → ((x : Context) → has x f → Contains (at_context new x) n) → ListsIn has facts (w ++ n ∷ []) m new
  all_in facts w m new n f s at t = record {
    all = λ x i g d at_i h. ⊎_elim
        (λ c. s.all x i g c at_i h)
        (λ e. subst (λ (j : ℕ). Contains (at_context new x) j) e (t x (subst (λ (y : Fact). has x y) (one_value _ g f at_i (subst (λ (j : ℕ). slice_get facts j ≡ Some f) e at)) h)))
        (Contains-push_cases w n i d);
    only = s.only;
    order = s.order;
  }

  grown_in : {k : Problem} {most : ℕ} {a b : Derived} → Grows k most a b → (w m : List ℕ) (table : ByContext) → ((n : ℕ) → Contains w n → n < length a.facts) → ListsIn has a.facts w m table → ListsIn has b.facts w m table
  grown_in t w m table low s = record {
    all = λ x n f c at h. s.all x n f c (was_there t n f (low n c) at) h;
    only = λ x n c. let o = s.only x n c in (o.0, o.1, t.facts n o.1 o.2, o.3);
    order = s.order;
  }

  within_in : (facts : List Fact) (w m : List ℕ) (table : ByContext) → ListsIn has facts w m table → (x : Context) (n : ℕ) → Contains (at_context table x) n → (f : Fact) × (slice_get facts n ≡ Some f) × has x f
  within_in facts w m table s x n c = let o = s.only x n c in (o.1, o.2, o.3)

  empty_in : (facts : List Fact) (m : List ℕ) (table : ByContext) → IsEmptyTable table → ListsIn has facts [] m table
  empty_in facts m table e = record {
    all = λ x n f c at h. absurd (omega (arith, c.1));
    only = λ x n c. let d = rw (e x) at c in absurd (omega (arith, d.1));
    order = λ x. rw (e x) (part_empty m);
  }

-- ---- second premises and fillers

module _ (has : Context → Fact → Type 0) where
  -- where the flag is up
  abbrev Flagged : Bool → Context → Fact → Type 0
  Flagged flag x f = (flag ≡ true) × has x f

  few_needed : {Not : Fact → Type 0} {facts : List Fact} {w : List ℕ} {table : ByContext} (v : List ℕ) → ListsNeeded has Not facts w table → ((n : ℕ) → Contains v n → Contains w n) → ListsNeeded has Not facts v table
  few_needed v s low = record { all = λ x n f c. s.all x n f (low n c); only = s.only }

  may_need : {Not : Fact → Type 0} {facts : List Fact} {w : List ℕ} {old new : ByContext} {n : ℕ} {f : Fact} (flag : Bool) → ListsNeeded has Not facts w old → MayListIn (Flagged flag) old new n f → slice_get facts n ≡ Some f → ListsNeeded has Not facts w new
  may_need {facts = facts} {f = f} flag s t at = record {
    all = λ x i g c at_i h. ⊎_elim (λ here. inl (t.kept x i here)) (λ redundant. inr redundant) (s.all x i g c at_i h);
    only = λ x i c. ⊎_elim (s.only x i) (λ v. (f, subst (λ (j : ℕ). slice_get facts j ≡ Some f) (sym v.1) at, v.0.1)) (t.only x i c);
  }

  all_needed : {Not : Fact → Type 0} {facts : List Fact} {w : List ℕ} {table : ByContext} {n : ℕ} {f : Fact} (flag : Bool) → ListsNeeded has Not facts w table → slice_get facts n ≡ Some f → ((x : Context) → Flagged flag x f → Contains (at_context table x) n) → (flag ≡ false → Not f)
      → ListsNeeded has Not facts (w ++ n ∷ []) table
  all_needed {Not} {facts} {w} {table} {n} {f} flag s at t redundant = record {
    all = λ x i g c at_i h. ⊎_elim
        (λ before. s.all x i g before at_i h)
        (λ e.
        let at_n : slice_get facts n ≡ Some g = subst (λ (j : ℕ). slice_get facts j ≡ Some g) (sym e) at_i in
        subst (λ (j : ℕ). Contains (at_context table x) j ⊎ Not g) e
        (subst (λ (y : Fact). Contains (at_context table x) n ⊎ Not y) (one_value _ f g at at_n) (here flag t redundant x (subst (has x) (one_value _ g f at_n at) h))))
        (Contains-push_cases w n i c);
    only = s.only;
  }
    where
      here : (b : Bool) → ((x : Context) → Flagged b x f → Contains (at_context table x) n) → (b ≡ false → Not f) → (x : Context) → has x f → Contains (at_context table x) n ⊎ Not f
      here true u v x h = inl (u x (refl, h))
      here false u v x h = inr (v refl)

  needed_grown : {k : Problem} {most : ℕ} {a b : Derived} {Not Nor : Fact → Type 0} {w : List ℕ} {table : ByContext} → Grows k most a b → ((f : Fact) → Not f → Nor f) → ((n : ℕ) → Contains w n → n < length a.facts) → ListsNeeded has Not a.facts w table → ListsNeeded has Nor b.facts w table
  needed_grown t still low s = record {
    all = λ x n f c at h. ⊎_elim (λ here. inl here) (λ redundant. inr (still f redundant)) (s.all x n f c (was_there t n f (low n c) at) h);
    only = λ x n c. let o = s.only x n c in (o.0, t.facts n o.0 o.1, o.2);
  }

  none_needed : (Not : Fact → Type 0) (facts : List Fact) (table : ByContext) → IsEmptyTable table → ListsNeeded has Not facts [] table
  none_needed Not facts table e = record {
    all = λ x n f c at h. absurd (omega (arith, c.1));
    only = λ x n c. let d = rw (e x) at c in absurd (omega (arith, d.1));
  }

-- ---- the index

pub fewer : {k : Problem} {d : Derived} {w m : List ℕ} {index : Index} (v l : List ℕ) → ListsFacts k d w m index → ((n : ℕ) → Contains v n → Contains w n) → ArePartOf m l → ListsFacts k d v l index
fewer v l s low high = record {
  by_context = record {
    classes = fewer_in IsIn _ _ _ v l _ s.by_context.classes low high;
    from = fewer_in IsFrom _ _ _ v l _ s.by_context.from low high;
    into = fewer_in IsInto _ _ _ v l _ s.by_context.into low high;
  };
  second_premises = few_needed IsFrom v s.second_premises low;
  fillers = few_needed IsIn v s.fillers low;
}

pub may : {k : Problem} {d : Derived} {w m : List ℕ} {old new : Index} {n : ℕ} {f : Fact} {is_second is_filler : Bool} → ListsFacts k d w m old → MayList old new n f is_second is_filler → slice_get d.facts n ≡ Some f → m ≡ w ++ n ∷ [] → ListsFacts k d w m new
may {is_second = is_second} {is_filler = is_filler} s t at e = record {
  by_context = record {
    classes = may_in IsIn _ _ _ _ _ _ _ s.by_context.classes t.classes at e;
    from = may_in IsFrom _ _ _ _ _ _ _ s.by_context.from t.from at e;
    into = may_in IsInto _ _ _ _ _ _ _ s.by_context.into t.into at e;
  };
  second_premises = may_need IsFrom is_second s.second_premises t.second_premises at;
  fillers = may_need IsIn is_filler s.fillers t.fillers at;
}

pub listed : {k : Problem} {d : Derived} {w m : List ℕ} {new : Index} {n : ℕ} {f : Fact} {is_second is_filler : Bool} → ListsFacts k d w m new → slice_get d.facts n ≡ Some f → Lists new n f is_second is_filler → (is_second ≡ false → IsRedundantAsSecond k d f) → (is_filler ≡ false → IsNotCarried k f) → ListsFacts k d (w ++ n ∷ []) m new
listed {is_second = is_second} {is_filler = is_filler} s at t redundant uncarried = record {
  by_context = record {
    classes = all_in IsIn _ _ _ _ _ _ s.by_context.classes at t.classes;
    from = all_in IsFrom _ _ _ _ _ _ s.by_context.from at t.from;
    into = all_in IsInto _ _ _ _ _ _ s.by_context.into at t.into;
  };
  second_premises = all_needed IsFrom is_second s.second_premises at t.second_premises redundant;
  fillers = all_needed IsIn is_filler s.fillers at t.fillers uncarried;
}

pub still_listed : {k : Problem} {most : ℕ} {a b : Derived} {w m : List ℕ} {index : Index} → Grows k most a b → ((n : ℕ) → Contains w n → n < length a.facts) → ListsFacts k a w m index → ListsFacts k b w m index
still_listed t low s = record {
  by_context = record {
    classes = grown_in IsIn t _ _ _ low s.by_context.classes;
    from = grown_in IsFrom t _ _ _ low s.by_context.from;
    into = grown_in IsInto t _ _ _ low s.by_context.into;
  };
  second_premises = needed_grown IsFrom t (second_still t) low s.second_premises;
  fillers = needed_grown IsIn t (λ f not. not) low s.fillers;
}

pub all_within : {k : Problem} {d : Derived} {w m : List ℕ} {index : Index} → ListsFacts k d w m index → IsWithin d.facts index
all_within s = record { classes = within_in IsIn _ _ _ _ s.by_context.classes; second_premises = s.second_premises.only; fillers = s.fillers.only; into = within_in IsInto _ _ _ _ s.by_context.into }

pub nothing_listed : (k : Problem) (d : Derived) (m : List ℕ) (index : Index) → IsEmptyIndex index → ListsFacts k d [] m index
nothing_listed k d m index e = record {
  by_context = record { classes = empty_in IsIn d.facts m _ e.classes; from = empty_in IsFrom d.facts m _ e.from; into = empty_in IsInto d.facts m _ e.into };
  second_premises = none_needed IsFrom _ d.facts _ e.second_premises;
  fillers = none_needed IsIn _ d.facts _ e.fillers;
}

-- a number in hand stays there
same_hand : (o p : Option ℕ) → ((n : ℕ) → o ≡ Some n → p ≡ Some n) → ArePartOf (option_list o) (option_list p)
same_hand None p kept = part_empty (option_list p)
same_hand (Some n) p kept = rw (kept n refl) (part_same (n ∷ []))

pub turned : {k : Problem} {d : Derived} {index : Index} (q r : Queued) → ListsServed k d q index → r.served ≡ q.served → ((n : ℕ) → q.hand ≡ Some n → r.hand ≡ Some n) → ListsServed k d r index
turned q r s same kept = fewer r.served (r.served ++ option_list r.hand) s (λ n c. rw same at c) (rw same (part_behind q.served (same_hand q.hand r.hand kept)))

-- ---- partners

-- the second fact speaks of the context that the first speaks of at its end
abbrev Touch : Fact → Fact → Type 0
Touch (In a x) (In b y) = y ≡ x
Touch (In a x) (Edge y r z) = ⊥
Touch (Edge x r y) (In a z) = z ≡ y
Touch (Edge x r y) (Edge z s w) = z ≡ y

from_two : (k : Problem) (form : Form) (f g h : Fact) → FromTwo k form f g h → Touch f g
from_two k (N1 _ _) f g h w = absurd w
from_two k (N2 _ _ _) (In _ _) (In _ _) h w = sym w.2
from_two k (N2 _ _ _) (In _ _) (Edge _ _ _) h w = w
from_two k (N2 _ _ _) (Edge _ _ _) g h w = absurd w
from_two k (N3 _ _ _) f g h w = absurd w
from_two k (N4 _ _ _) (Edge _ _ _) (In _ _) h w = sym w.2
from_two k (N4 _ _ _) (Edge _ _ _) (Edge _ _ _) h w = absurd w
from_two k (N4 _ _ _) (In _ _) g h w = absurd w
from_two k (N5 _ _) f g h w = absurd w
from_two k (N6 _ _ _) (Edge _ _ _) (Edge _ _ _) h w = sym w.2
from_two k (N6 _ _ _) (Edge _ _ _) (In _ _) h w = absurd w
from_two k (N6 _ _ _) (In _ _) g h w = absurd w
from_two k (N7 _) f g h w = absurd w
from_two k (N8 _ _) f g h w = absurd w
from_two k (N9 _ _ _) f g h w = absurd w
from_two k (N10 _ _) f g h w = absurd w
from_two k (N12 _ _ _) f g h w = absurd w

carried : (f g h : Fact) → Carries f g h → Touch f g
carried (Edge _ _ _) (In _ _) h w = sym w.1
carried (Edge _ _ _) (Edge _ _ _) h w = absurd w
carried (In _ _) g h w = absurd w

touch : {k : Problem} {c : ℕ} {form : Option ℕ} {f g h : Fact} → Gives k c form (f ∷ g ∷ []) h → Touch f g
touch (in_thing c) = absurd c
touch (in_itself c) = absurd c
touch {k} {f = f} {g = g} {h = h} (by_form n form at gives) = from_two k form f g h gives
touch {f = f} {g = g} {h = h} (unsatisfiable b) = carried f g h b
touch (loop x n form at l c) = absurd c
touch (apart l a b x are) = refl

-- so what is listed for a fact is all that it gives something with, but for what need not be a second premise
module _ {k : Problem} {d : Derived} {w m : List ℕ} {index : Index} (s : ListsFacts k d w m index) {most : ℕ} {new : Derived} (grows : Grows k most d new) (n : ℕ) (there : Contains w n) where
  pub all_met : (f g : Fact) → AllListedAreMet k f d.facts index new → slice_get d.facts n ≡ Some g → MeetEachOther k f g new
  all_met (In a x) (In b y) met at = record {
    first = λ c form h gives. (met.0 n (s.by_context.classes.all x n (In b y) there at (touch gives)) (In b y) at).first c form h gives;
    second = λ c form h gives. (met.0 n (s.by_context.classes.all x n (In b y) there at (sym (touch gives))) (In b y) at).second c form h gives;
  }
  all_met (In a x) (Edge u r v) met at = record {
    first = λ c form h gives. absurd (touch gives);
    second = λ c form h gives. met.1 n (s.by_context.into.all x n (Edge u r v) there at (sym (touch gives))) (Edge u r v) at c form h gives;
  }
  all_met (Edge x p y) (In b z) met at = record {
    first = λ c form h gives. ⊎_elim
        (λ filler. met.0 n filler (In b z) at c form h gives)
        (λ not. absurd (not (Edge x p y) tt c form h gives))
        (s.fillers.all y n (In b z) there at (touch gives));
    second = λ c form h gives. absurd (touch gives);
  }
  all_met (Edge x p y) (Edge u r v) met at = record {
    first = λ c form h gives. ⊎_elim
        (λ second. met.1 n second (Edge u r v) at c form h gives)
        (λ redundant. inr (second_still grows (Edge u r v) redundant (Edge x p y) h c form gives))
        (s.second_premises.all y n (Edge u r v) there at (touch gives));
    second = λ c form h gives. met.2 n (s.by_context.into.all x n (Edge u r v) there at (sym (touch gives))) (Edge u r v) at c form h gives;
  }

pub in_most : (served : List ℕ) (hand : Option ℕ) (n : ℕ) → hand ≡ Some n → served ++ option_list hand ≡ served ++ n ∷ []
in_most served hand n e = ap (λ (o : Option ℕ). served ++ option_list o) e

-- the fact in hand was listed, and is served
pub finish_listed : {k : Problem} {most : ℕ} {old new : Derived} {index : Index} {n : ℕ} {f : Fact} {is_second is_filler : Bool} (q r : Queued) → ListsServed k old q index → q.hand ≡ Some n → slice_get old.facts n ≡ Some f → Lists index n f is_second is_filler → (is_second ≡ false → IsRedundantAsSecond k old f) → (is_filler ≡ false → IsNotCarried k f) → Grows k most old new
    → ((i : ℕ) → Contains q.served i → i < length old.facts) → r.served ≡ q.served ++ n ∷ [] → ListsServed k new r index
finish_listed {old = old} {n = n} {f = f} q r s hand at t redundant uncarried grows within same =
    let low : (i : ℕ) → Contains (q.served ++ n ∷ []) i → i < length old.facts = λ i c. ⊎_elim (within i) (λ e. subst (λ (j : ℕ). j < length old.facts) e (slice_get_within old.facts n f at)) (Contains-push_cases q.served n i c) in
    fewer r.served (r.served ++ option_list r.hand) (still_listed grows low (listed s at t redundant uncarried)) (λ i c. rw same at c) (rw (hand, same) (part_more (option_list r.hand) (part_same (q.served ++ n ∷ []))))

-- one fact more is listed
pub one_more : {k : Problem} {d : Derived} {w : List ℕ} {old new : Index} {n : ℕ} {f : Fact} {is_second is_filler : Bool} → ListsFacts k d w w old → MayList old new n f is_second is_filler → slice_get d.facts n ≡ Some f → Lists new n f is_second is_filler → (is_second ≡ false → IsRedundantAsSecond k d f) → (is_filler ≡ false → IsNotCarried k f) → ListsFacts k d (w ++ n ∷ []) (w ++ n ∷ []) new
one_more {w = w} {n = n} s m at t redundant uncarried = listed (may (fewer w (w ++ n ∷ []) s (λ i c. c) (part_more (n ∷ []) (part_same w))) m at refl) at t redundant uncarried
