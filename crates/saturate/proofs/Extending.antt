-- What holds of more forms, lists and roots.
use Rattle.std.proofs.Common.{◌≡◌, ℕ, zero, suc, ◌<◌, ◌≤◌, ◌⊎◌, inl, inr, ⊎_elim, List, [], ◌∷◌, ◌++◌, length, take, drop, slice_get, Some, None, Option, Contains, refl, sym, ap, ap₂, ◌∙◌, subst, arith}
use Rattle.std.specs.List.{AllByRecursion}
use Rattle.std.proofs.lemmas.List.{take-append-drop}
use Rattle.std.proofs.lemmas.List.Elements.{Contains-append_left}
use Rattle.std.proofs.lemmas.Option.{none-some, same_Some}
use Rattle.axioms.specs.declared.ids.ExprId.{ExprId}
use Rattle.axioms.specs.declared.ids.IndId.{IndId}
use Rattle.normal_forms.specs.Apart.{AreContinuedBy, AreListedAt}
use Rattle.normal_forms.specs.declared.apart.ApartLists.{ApartLists}
use Rattle.normal_forms.specs.declared.forms.Form.{Form}
use Rattle.normal_forms.specs.declared.forms.Form.TheVariants.{N1, N2, N3, N4, N5, N6, N7, N8, N9, N10, N12}
use Rattle.normal_forms.specs.declared.forms.PropId2.{PropId2}
use Rattle.normal_forms.specs.declared.forms.PropId2.TheVariants.{Property}
use Rattle.normal_forms.specs.Properties.{IsAtOrBelow, same, step}
use Rattle.facts.specs.declared.contexts.Context.{Context}
use Rattle.facts.specs.declared.contexts.Context.TheVariants.{Individual}
use Rattle.facts.specs.declared.contexts.Fact.{Fact}
use Rattle.facts.specs.declared.contexts.Fact.TheVariants.{In, Edge}
use Rattle.facts.specs.Closure.{Problem, IsContextBy, FromOne, FromTwo, Concludes, AreSame, HandsOn, Links, IsLoop, Gives, nothing, thing, in_thing, in_itself, by_form, unsatisfiable, loop, handed_on, different, apart}
use Rattle.facts.specs.Births.{Reason}
use Rattle.facts.proofs.Premises.{no_three}
use Rattle.saturate.specs.Requests.{Asks, IsAskedAnew, IsNew, IsOneOf, NewFormAsks}
use Rattle.inference.specs.Derivations.{Derived, IsDerived, Grows, Keeps}
use Rattle.saturate.specs.Growth.{with_more, KeepsServed}
use Rattle.saturate.specs.GoingOn.{IsBegun}
use Rattle.inference.specs.Completeness.{AllDrawn, DrawnUpToRedundancy, IsCompleteUpToRedundancy, IsEntry, IsOwed, IsServed, AreRedundant, IsSparedBy}
use Rattle.saturate.proofs.EqualForms.{is_listed, is_there}
use Rattle.saturate.proofs.Joining.{apart_is_there, first_in}
use Rattle.inference.proofs.Lists.{Contains-from_slice_get, slice_get-from_Contains}
use Rattle.inference.proofs.Growth.{there_still}
use Rattle.inference.proofs.Redundancy.{all_joined_still, redundant_still}
use Rattle.inference.proofs.Owing.{class_is_not_owed, entry_before, owed_still}
use Rattle.saturate.specs.State.{IsUnderWay}
use Rattle.saturate.specs.IndexedFacts.{ListsFacts, ListsServed}
use Rattle.saturate.specs.Turns.{Queued, option_list}
use Rattle.indexes.specs.declared.index.Index.{Index}
use Rattle.indexes.proofs.Parts.{part_same, part_more}
use Rattle.saturate.proofs.Listing.{fewer}
use Rattle.saturate.proofs.States.{was_there}

-- ---- lists that are appended

slice_get_more : {X : Type 0} (xs ys : List X) (n : ℕ) (x : X) → slice_get xs n ≡ Some x → slice_get (xs ++ ys) n ≡ Some x
slice_get_more [] ys n x e = absurd (none-some x e)
slice_get_more (y ∷ xs) ys zero x e = e
slice_get_more (y ∷ xs) ys (suc n) x e = slice_get_more xs ys n x e

-- what was there at first is the first part
pub front : {X : Type 0} (xs ys : List X) → Keeps xs ys → take (length xs) ys ≡ xs
front [] ys keeps = refl
front (x ∷ xs) [] keeps = absurd (none-some x (keeps 0 x refl))
front (x ∷ xs) (y ∷ ys) keeps = ap₂ (λ z zs. z ∷ zs) (same_Some y x (keeps 0 x refl)) (front xs ys (λ n z e. keeps (suc n) z e))

-- a form is new, or it was there at some place
pub new_or_there : (forms added : List Form) (form : Form) → Contains (forms ++ added) form → IsNew forms (forms ++ added) form ⊎ ((m : ℕ) × (slice_get forms m ≡ Some form))
new_or_there forms added form there = ⊎_elim
    (λ before. inr (slice_get-from_Contains forms form before))
    (λ not_before. inl (there, not_before))
    (is_there forms form)

-- ---- lists of what is apart

individuals_more : (old new : ApartLists) → AreContinuedBy old new → (l : ℕ) (a b : IndId) → AreListedAt old.individuals l a b → AreListedAt new.individuals l a b
individuals_more old new (more, is) l a b (list, at, ordered) =
    (list, subst (λ (all : List (List IndId)). slice_get all l ≡ Some list) (sym (ap (λ (ls : ApartLists). ls.individuals) is)) (slice_get_more old.individuals more.individuals l list at), ordered)

classes_more : (old new : ApartLists) → AreContinuedBy old new → (l : ℕ) (a b : ExprId) → AreListedAt old.classes l a b → AreListedAt new.classes l a b
classes_more old new (more, is) l a b (list, at, ordered) =
    (list, subst (λ (all : List (List ExprId)). slice_get all l ≡ Some list) (sym (ap (λ (ls : ApartLists). ls.classes) is)) (slice_get_more old.classes more.classes l list at), ordered)

-- a list is new, or it was there at some place
list_new_or_there : (before now : List (List ExprId)) (list : List ExprId) → Contains now list → IsNew before now list ⊎ ((m : ℕ) × (slice_get before m ≡ Some list))
list_new_or_there before now list there = ⊎_elim
    (λ was. inr (slice_get-from_Contains before list was))
    (λ was_not. inl (there, was_not))
    (is_listed before list)

-- ---- properties

below_more : (forms added : List Form) (p q : PropId2) → IsAtOrBelow forms p q → IsAtOrBelow (forms ++ added) p q
below_more forms added p _ same = same
below_more forms added p _ (step s t h c) = step s t (below_more forms added p (Property s) h) (Contains-append_left forms added (N5 s t) c)

-- a path that is new has a form that is new, whose lower property lies above its start
pub below_cases : (forms added : List Form) (p q : PropId2) → IsAtOrBelow (forms ++ added) p q → IsAtOrBelow forms p q ⊎ ((x y : Context) → NewFormAsks forms (forms ++ added) (Edge x p y))
below_cases forms added p _ same = inl same
below_cases forms added p _ (step s t h c) = ⊎_elim
    (λ low. ⊎_elim
    (λ new. inr (λ x y. (N5 s t, new, h)))
    (λ old. inl (step s t low (Contains-from_slice_get forms old.0 (N5 s t) old.1)))
    (new_or_there forms added (N5 s t) c))
    (λ asked. inr asked)
    (below_cases forms added p (Property s) h)

-- ---- individuals

same_more : (forms added : List Form) (i j : IndId) → AreSame forms i j → AreSame (forms ++ added) i j
same_more forms added i _ AreSame.itself = AreSame.itself
same_more forms added i j (AreSame.step h form p c l) = AreSame.step h form (same_more forms added i h p) (Contains-append_left forms added form c) l

-- a form that makes two one names them
linked_form : (form : Form) (i j : IndId) → Links form i j → (a : IndId) × (b : IndId) × (form ≡ N10 a b) × IsOneOf a b (Individual i)
linked_form (N10 a b) i j l = (a, b, refl, ⊎_elim (λ w. inl (ap Individual w.0)) (λ w. inr (ap Individual w.0)) l)
linked_form (N1 _ _) i j l = absurd l
linked_form (N2 _ _ _) i j l = absurd l
linked_form (N3 _ _ _) i j l = absurd l
linked_form (N4 _ _ _) i j l = absurd l
linked_form (N5 _ _) i j l = absurd l
linked_form (N6 _ _ _) i j l = absurd l
linked_form (N7 _) i j l = absurd l
linked_form (N8 _ _) i j l = absurd l
linked_form (N9 _ _ _) i j l = absurd l
linked_form (N12 _ _ _) i j l = absurd l

-- ---- what facts give

module _ (k : Problem) (forms : List Form) (lists : ApartLists) (roots : List Context) (continued : AreContinuedBy k.apart lists) where
  more_one : (form : Form) (g f : Fact) → FromOne k form g f → FromOne (with_more k forms lists roots) form g f
  more_one (N1 a b) (In c x) f w = w
  more_one (N1 a b) (Edge _ _ _) f w = absurd w
  more_one (N3 a r b) (In c x) f w = w
  more_one (N3 a r b) (Edge _ _ _) f w = absurd w
  more_one (N12 a r b) (Edge x q y) f w = (w.0, w.1, below_more k.forms forms q (Property r) w.2, w.3)
  more_one (N12 a r b) (In _ _) f w = absurd w
  more_one (N2 _ _ _) g f w = absurd w
  more_one (N4 _ _ _) g f w = absurd w
  more_one (N5 _ _) g f w = absurd w
  more_one (N6 _ _ _) g f w = absurd w
  more_one (N7 _) g f w = absurd w
  more_one (N8 _ _) g f w = absurd w
  more_one (N9 _ _ _) g f w = absurd w
  more_one (N10 _ _) g f w = absurd w

  more_two : (form : Form) (g h f : Fact) → FromTwo k form g h f → FromTwo (with_more k forms lists roots) form g h f
  more_two (N2 a b c) (In d x) (In e y) f w = w
  more_two (N2 a b c) (In d x) (Edge _ _ _) f w = absurd w
  more_two (N2 a b c) (Edge _ _ _) h f w = absurd w
  more_two (N4 r a b) (Edge x q y) (In c z) f w = (below_more k.forms forms q (Property r) w.0, w.1, w.2, w.3)
  more_two (N4 r a b) (Edge x q y) (Edge _ _ _) f w = absurd w
  more_two (N4 r a b) (In _ _) h f w = absurd w
  more_two (N6 r s t) (Edge x p y) (Edge z q v) f w = (below_more k.forms forms p r w.0, below_more k.forms forms q s w.1, w.2, w.3)
  more_two (N6 r s t) (Edge x p y) (In _ _) f w = absurd w
  more_two (N6 r s t) (In _ _) h f w = absurd w
  more_two (N1 _ _) g h f w = absurd w
  more_two (N3 _ _ _) g h f w = absurd w
  more_two (N5 _ _) g h f w = absurd w
  more_two (N7 _) g h f w = absurd w
  more_two (N8 _ _) g h f w = absurd w
  more_two (N9 _ _ _) g h f w = absurd w
  more_two (N10 _ _) g h f w = absurd w
  more_two (N12 _ _ _) g h f w = absurd w

  concludes_more : (form : Form) (older : List Fact) (f : Fact) → Concludes k form older f → Concludes (with_more k forms lists roots) form older f
  concludes_more form [] f w = w
  concludes_more form (g ∷ []) f w = more_one form g f w
  concludes_more form (g ∷ h ∷ []) f w = more_two form g h f w
  concludes_more form (g ∷ h ∷ i ∷ rest) f w = absurd w

  context_more : (older : List Fact) (x : Context) → IsContextBy k older x → IsContextBy (with_more k forms lists roots) older x
  context_more [] x c = Contains-append_left k.roots roots x c
  context_more (g ∷ []) x c = c
  context_more (g ∷ h ∷ rest) x c = absurd c

  gives_more : {c : ℕ} {o : Option ℕ} {older : List Fact} {f : Fact} → Gives k c o older f → Gives (with_more k forms lists roots) c o older f
  gives_more {older = older} (in_thing {x = x} c) = in_thing (context_more older x c)
  gives_more {older = older} (in_itself {e = e} c) = in_itself (context_more older _ c)
  gives_more {older = older} {f = f} (by_form n form at w) = by_form n form (slice_get_more k.forms forms n form at) (concludes_more form older f w)
  gives_more (unsatisfiable b) = unsatisfiable b
  gives_more {older = older} (loop x n form at l c) = loop x n form (slice_get_more k.forms forms n form at) l (context_more older x c)
  gives_more (handed_on n form at on) = handed_on n form (slice_get_more k.forms forms n form at) on
  gives_more (different l a b at alike) = different l a b (individuals_more k.apart lists continued l a b at) (same_more k.forms forms a b alike)
  gives_more (apart l a b x (c, d, a_is, b_is, at)) = apart l a b x (c, d, a_is, b_is, classes_more k.apart lists continued l c d at)

  -- facts keep their reasons
  pub derived_more : {d : Derived} → IsDerived k d → IsDerived (with_more k forms lists roots) d
  derived_more s = record {
    distinct = s.distinct;
    long = s.long;
    born = λ n f r at why. let b = s.born n f r at why in (b.0, b.1, gives_more b.2);
  }

  -- ---- what facts that no new form asks for give was given before

  abbrev Unasked : Fact → Type 0
  Unasked f = ¬ IsAskedAnew k (with_more k forms lists roots) f

  asks_one : (form : Form) (g f : Fact) → FromOne (with_more k forms lists roots) form g f → Asks (k.forms ++ forms) form g
  asks_one (N1 a b) (In c x) f w = w.0
  asks_one (N1 a b) (Edge _ _ _) f w = absurd w
  asks_one (N3 a r b) (In c x) f w = w.0
  asks_one (N3 a r b) (Edge _ _ _) f w = absurd w
  asks_one (N12 a r b) (Edge x q y) f w = (w.0, w.1, w.2)
  asks_one (N12 a r b) (In _ _) f w = absurd w
  asks_one (N2 _ _ _) g f w = absurd w
  asks_one (N4 _ _ _) g f w = absurd w
  asks_one (N5 _ _) g f w = absurd w
  asks_one (N6 _ _ _) g f w = absurd w
  asks_one (N7 _) g f w = absurd w
  asks_one (N8 _ _) g f w = absurd w
  asks_one (N9 _ _ _) g f w = absurd w
  asks_one (N10 _ _) g f w = absurd w

  asks_handed_on : (form : Form) {g f : Fact} → HandsOn form g f → Asks (k.forms ++ forms) form g
  asks_handed_on form (HandsOn.class {i = i} {j = j} {c = c} l) = let w = linked_form form i j l in subst (λ (y : Form). Asks (k.forms ++ forms) y (In c (Individual i))) (sym w.2) w.3
  asks_handed_on form (HandsOn.source {i = i} {j = j} {r = r} {y = y} l) = let w = linked_form form i j l in subst (λ (z : Form). Asks (k.forms ++ forms) z (Edge (Individual i) r y)) (sym w.2) (inl w.3)
  asks_handed_on form (HandsOn.target {i = i} {j = j} {r = r} {x = x} l) = let w = linked_form form i j l in subst (λ (z : Form). Asks (k.forms ++ forms) z (Edge x r (Individual i))) (sym w.2) (inr w.3)

  asks_two : (form : Form) (g h f : Fact) → FromTwo (with_more k forms lists roots) form g h f → Asks (k.forms ++ forms) form g ⊎ Asks (k.forms ++ forms) form h
  asks_two (N2 a b c) (In d x) (In e y) f w = inl w.0
  asks_two (N2 a b c) (In d x) (Edge _ _ _) f w = absurd w
  asks_two (N2 a b c) (Edge _ _ _) h f w = absurd w
  asks_two (N4 r a b) (Edge x q y) (In c z) f w = inr w.1
  asks_two (N4 r a b) (Edge x q y) (Edge _ _ _) f w = absurd w
  asks_two (N4 r a b) (In _ _) h f w = absurd w
  asks_two (N6 r s t) (Edge x p y) (Edge z q v) f w = inl w.0
  asks_two (N6 r s t) (Edge x p y) (In _ _) f w = absurd w
  asks_two (N6 r s t) (In _ _) h f w = absurd w
  asks_two (N1 _ _) g h f w = absurd w
  asks_two (N3 _ _ _) g h f w = absurd w
  asks_two (N5 _ _) g h f w = absurd w
  asks_two (N7 _) g h f w = absurd w
  asks_two (N8 _ _) g h f w = absurd w
  asks_two (N9 _ _ _) g h f w = absurd w
  asks_two (N10 _ _) g h f w = absurd w
  asks_two (N12 _ _ _) g h f w = absurd w

  was_below : (x : Context) (p : PropId2) (y : Context) (q : PropId2) → Unasked (Edge x p y) → IsAtOrBelow (k.forms ++ forms) p q → IsAtOrBelow k.forms p q
  was_below x p y q unasked low = ⊎_elim (λ old. old) (λ asked. absurd (unasked (inl (asked x y)))) (below_cases k.forms forms p q low)

  one_before : (form : Form) (g f : Fact) → Unasked g → FromOne (with_more k forms lists roots) form g f → FromOne k form g f
  one_before (N1 a b) (In c x) f u w = w
  one_before (N1 a b) (Edge _ _ _) f u w = absurd w
  one_before (N3 a r b) (In c x) f u w = w
  one_before (N3 a r b) (Edge _ _ _) f u w = absurd w
  one_before (N12 a r b) (Edge x q y) f u w = (w.0, w.1, was_below x q y (Property r) u w.2, w.3)
  one_before (N12 a r b) (In _ _) f u w = absurd w
  one_before (N2 _ _ _) g f u w = absurd w
  one_before (N4 _ _ _) g f u w = absurd w
  one_before (N5 _ _) g f u w = absurd w
  one_before (N6 _ _ _) g f u w = absurd w
  one_before (N7 _) g f u w = absurd w
  one_before (N8 _ _) g f u w = absurd w
  one_before (N9 _ _ _) g f u w = absurd w
  one_before (N10 _ _) g f u w = absurd w

  two_before : (form : Form) (g h f : Fact) → Unasked g → Unasked h → FromTwo (with_more k forms lists roots) form g h f → FromTwo k form g h f
  two_before (N2 a b c) (In d x) (In e y) f u v w = w
  two_before (N2 a b c) (In d x) (Edge _ _ _) f u v w = absurd w
  two_before (N2 a b c) (Edge _ _ _) h f u v w = absurd w
  two_before (N4 r a b) (Edge x q y) (In c z) f u v w = (was_below x q y (Property r) u w.0, w.1, w.2, w.3)
  two_before (N4 r a b) (Edge x q y) (Edge _ _ _) f u v w = absurd w
  two_before (N4 r a b) (In _ _) h f u v w = absurd w
  two_before (N6 r s t) (Edge x p y) (Edge z q i) f u v w = (was_below x p y r u w.0, was_below z q i s v w.1, w.2, w.3)
  two_before (N6 r s t) (Edge x p y) (In _ _) f u v w = absurd w
  two_before (N6 r s t) (In _ _) h f u v w = absurd w
  two_before (N1 _ _) g h f u v w = absurd w
  two_before (N3 _ _ _) g h f u v w = absurd w
  two_before (N5 _ _) g h f u v w = absurd w
  two_before (N7 _) g h f u v w = absurd w
  two_before (N8 _ _) g h f u v w = absurd w
  two_before (N9 _ _ _) g h f u v w = absurd w
  two_before (N10 _ _) g h f u v w = absurd w
  two_before (N12 _ _ _) g h f u v w = absurd w

  -- ---- what was redundant is redundant still

  spared_more : (a b : PropId2) (form : Form) → IsSparedBy k.forms a b form → IsSparedBy (k.forms ++ forms) a b form
  spared_more a b (N6 r s t) spared = all_joined_still k.forms forms r a b t spared
  spared_more a b (N1 _ _) spared = spared
  spared_more a b (N2 _ _ _) spared = spared
  spared_more a b (N3 _ _ _) spared = spared
  spared_more a b (N4 _ _ _) spared = spared
  spared_more a b (N5 _ _) spared = spared
  spared_more a b (N7 _) spared = spared
  spared_more a b (N8 _ _) spared = spared
  spared_more a b (N9 _ _ _) spared = spared
  spared_more a b (N10 _ _) spared = spared
  spared_more a b (N12 _ _ _) spared = spared

  -- what is redundant by a form is redundant by each that is equal to it
  pub redundant_more : (d : Derived) (g h f : Fact) (m n : ℕ) (form : Form) → slice_get k.forms m ≡ Some form → slice_get (k.forms ++ forms) n ≡ Some form
      → AreRedundant k d (g ∷ h ∷ []) (Some m) f → AreRedundant (with_more k forms lists roots) d (g ∷ h ∷ []) (Some n) f
  redundant_more d g h f m n form before at w = (
    w.0,
    at ∙ sym before ∙ w.1,
    record {
      first = w.2.first;
      second = w.2.second;
      whole = w.2.whole;
      spared = spared_more w.2.first w.2.second w.0 w.2.spared;
      given = record {
        form = w.2.given.form;
        is = slice_get_more k.forms forms w.2.given.form (N6 w.2.first w.2.second w.2.whole) w.2.given.is;
        place = w.2.given.place;
        there = w.2.given.there;
        birth = w.2.given.birth;
        born = w.2.given.born;
        by = w.2.given.by;
      };
    },
  )

  -- what is owed is owed still
  pub owed_more : (d : Derived) (f : Fact) → IsOwed k d f → IsOwed (with_more k forms lists roots) d f
  owed_more d f w = record { context = w.context; form = w.form; there = Contains-append_left k.forms forms w.form w.there; is_loop = w.is_loop; entry = w.entry }

  -- ---- so what served facts give is there still

  module _ {most : ℕ} {old new : Derived} (served : List ℕ) (s : IsBegun (with_more k forms lists roots) most served old new)
      (derived : IsDerived k old) (within : (n : ℕ) → Contains served n → n < length old.facts) (complete : IsCompleteUpToRedundancy k old served) (now : List ℕ) (keeps : KeepsServed k (with_more k forms lists roots) old.facts served now) where
    was_served : (f : Fact) → IsServed new.facts now f → (n : ℕ) × Contains served n × (slice_get old.facts n ≡ Some f) × Unasked f
    was_served f w =
        let before = (keeps w.0).0 w.1 in
        let at = was_there s.grows w.0 f (within w.0 before.0) w.2 in
        (w.0, before.0, at, λ asked. before.1 (f, at, asked))

    alone : (g f : Fact) {c : ℕ} {o : Option ℕ} → IsServed old.facts served g → Gives k c o (g ∷ []) f → Contains new.facts f ⊎ IsOwed (with_more k forms lists roots) new f
    alone g f {c} {o} w gives = ⊎_elim (λ there. inl (there_still s.grows f there)) (λ owed. inr (owed_still s.grows f (owed_more old f owed))) (complete.given (g ∷ []) (w, tt) c o f gives)

    -- a context that a served fact makes one has owl:Thing in it
    top_there : (g : Fact) (x : Context) → IsServed old.facts served g → IsContextBy k (g ∷ []) x → Contains old.facts (In thing x)
    top_there g x w is = ⊎_elim (λ there. there) (λ owed. absurd (class_is_not_owed k old thing x owed)) (complete.given (g ∷ []) (w, tt) 1 None (In thing x) (in_thing is))

    one : (g f : Fact) {c : ℕ} {o : Option ℕ} → IsServed new.facts now g → Gives (with_more k forms lists roots) c o (g ∷ []) f → Contains new.facts f ⊎ IsOwed (with_more k forms lists roots) new f
    one g f w (in_thing c) = let v = was_served g w in alone g f (v.0, v.1, v.2) (in_thing c)
    one g f w (in_itself c) = let v = was_served g w in alone g f (v.0, v.1, v.2) (in_itself c)
    one g f w (by_form n form at gives) =
        let v = was_served g w in
        ⊎_elim
        (λ new. absurd (v.3 (inl (form, new, asks_one form g f gives))))
        (λ before. alone g f (v.0, v.1, v.2) (by_form before.0 form before.1 (one_before form g f v.3 gives)))
        (new_or_there k.forms forms form (Contains-from_slice_get (k.forms ++ forms) n form at))
    one g f w (unsatisfiable b) = absurd b
    one g f w (handed_on n form at on) =
        let v = was_served g w in
        ⊎_elim
        (λ new. absurd (v.3 (inl (form, new, asks_handed_on form on))))
        (λ before. alone g f (v.0, v.1, v.2) (handed_on before.0 form before.1 on))
        (new_or_there k.forms forms form (Contains-from_slice_get (k.forms ++ forms) n form at))
    one g f w (loop x n form at l c) =
        let v = was_served g w in
        let there = Contains-from_slice_get (k.forms ++ forms) n form at in
        ⊎_elim
        (λ drawn. inl drawn)
        (λ entry. inr (record { context = x; form = form; there = there; is_loop = l; entry = entry }))
        (s.loops v.0 v.1 g x v.2 c (top_there g x (v.0, v.1, v.2) c) form there f l)

    -- what two facts gave by a form is there still, or redundant still, also by an equal form
    by_earlier : (g h f : Fact) (m n : ℕ) (form : Form) → IsServed old.facts served g → IsServed old.facts served h → slice_get k.forms m ≡ Some form → slice_get (k.forms ++ forms) n ≡ Some form → FromTwo k form g h f → Contains new.facts f ⊎ AreRedundant (with_more k forms lists roots) new (g ∷ h ∷ []) (Some n) f
    by_earlier g h f m n form w v before at gives = ⊎_elim
        (λ there. inl (there_still s.grows f there))
        (λ redundant. inr (redundant_still s.grows (g ∷ h ∷ []) (Some n) f (redundant_more old g h f m n form before at redundant)))
        (complete.given (g ∷ h ∷ []) (w, (v, tt)) _ (Some m) f (by_form m form before gives))

    two : (g h f : Fact) {c : ℕ} {o : Option ℕ} → IsServed new.facts now g → IsServed new.facts now h → Gives (with_more k forms lists roots) c o (g ∷ h ∷ []) f → Contains new.facts f ⊎ AreRedundant (with_more k forms lists roots) new (g ∷ h ∷ []) o f
    two g h _ w v (in_thing c) = absurd c
    two g h _ w v (in_itself c) = absurd c
    two g h f w v (by_form n form at gives) =
        let a = was_served g w in
        let b = was_served h v in
        ⊎_elim
        (λ new. ⊎_elim (λ asks. absurd (a.3 (inl (form, new, asks)))) (λ asks. absurd (b.3 (inl (form, new, asks)))) (asks_two form g h f gives))
        (λ before. by_earlier g h f before.0 n form (a.0, a.1, a.2) (b.0, b.1, b.2) before.1 at (two_before form g h f a.3 b.3 gives))
        (new_or_there k.forms forms form (Contains-from_slice_get (k.forms ++ forms) n form at))
    two g h f w v (unsatisfiable back) =
        let a = was_served g w in
        let b = was_served h v in
        ⊎_elim
        (λ there. inl (there_still s.grows f there))
        (λ redundant. absurd redundant)
        (complete.given (g ∷ h ∷ []) ((a.0, a.1, a.2), ((b.0, b.1, b.2), tt)) _ None f (unsatisfiable back))
    two g h f w v (loop x n form at l c) = absurd c
    two _ _ _ w v (apart l a b x (c, d, a_is, b_is, (list, at, ordered))) =
        let first = was_served (In a x) w in
        let second = was_served (In b x) v in
        ⊎_elim
        (λ new. absurd (first.3 (inr (list, new, (c, a_is, first_in list c d ordered)))))
        (λ before. inl (there_still s.grows (In nothing x) (apart_is_there derived a b x (Some before.0) (complete.given (In a x ∷ In b x ∷ []) ((first.0, first.1, first.2), ((second.0, second.1, second.2), tt)) 14 (Some before.0) (In nothing x)
        (apart before.0 a b x (c, d, a_is, b_is, (list, before.1, ordered)))))))
        (list_new_or_there k.apart.classes lists.classes list (Contains-from_slice_get lists.classes l list at))

    given_still : (older : List Fact) → AllByRecursion (IsServed new.facts now) older → DrawnUpToRedundancy (with_more k forms lists roots) older new
    given_still [] all c o f gives = s.given c o f gives
    given_still (g ∷ []) all c o f gives = one g f all.0 gives
    given_still (g ∷ h ∷ []) all c o f gives = two g h f all.0 all.1.0 gives
    given_still (g ∷ h ∷ i ∷ rest) all c o f gives = absurd (no_three gives)

    -- a form that makes a property reflexive asks for owl:Thing
    asks_loop : (form : Form) (x : Context) (f : Fact) → IsLoop x form f → Asks (k.forms ++ forms) form (In thing x)
    asks_loop (N7 r) x f l = refl
    asks_loop (N1 _ _) x f l = absurd l
    asks_loop (N2 _ _ _) x f l = absurd l
    asks_loop (N3 _ _ _) x f l = absurd l
    asks_loop (N4 _ _ _) x f l = absurd l
    asks_loop (N5 _ _) x f l = absurd l
    asks_loop (N6 _ _ _) x f l = absurd l
    asks_loop (N8 _ _) x f l = absurd l
    asks_loop (N9 _ _ _) x f l = absurd l
    asks_loop (N10 _ _) x f l = absurd l
    asks_loop (N12 _ _ _) x f l = absurd l

    loops_drawn : (x : Context) (n : ℕ) → Contains now n → IsEntry new x n → AllDrawn (IsLoop x) (k.forms ++ forms) new.facts
    loops_drawn x n c e form there f l =
        let before = (keeps n).0 c in
        let was = entry_before (derived_more derived) s.grows x n (within n before.0) e in
        ⊎_elim
        (λ new. absurd (before.1 (In thing x, was.there, inl (form, new, asks_loop form x f l))))
        (λ old. there_still s.grows f (complete.loops x n before.0 was form (Contains-from_slice_get k.forms old.0 form old.1) f l))
        (new_or_there k.forms forms form there)

    pub complete_still : IsCompleteUpToRedundancy (with_more k forms lists roots) new now
    complete_still = record { given = given_still; loops = loops_drawn }

-- ---- the state of what has grown

abbrev problem_of : ApartLists → List Form → List Context → Problem
problem_of lists forms roots = record { forms = forms; apart = lists; roots = roots }

-- a list of forms is those that it begins with, and then those that are added
pub parted : (k j : Problem) (all : List Form) (lists : ApartLists) (roots : List Context) (from : ℕ) → take from all ≡ k.forms → j.forms ≡ all → j.apart ≡ lists → j.roots ≡ k.roots ++ roots → j ≡ with_more k (drop from all) lists roots
parted k j all lists roots from front forms lists_are roots_are =
    ap₂ (problem_of j.apart) (forms ∙ sym (take-append-drop from all) ∙ ap (λ (fs : List Form). fs ++ drop from all) front) roots_are
    ∙ ap (λ (ls : ApartLists). with_more k (drop from all) ls roots) lists_are

module _ (k : Problem) (forms : List Form) (lists : ApartLists) (roots : List Context) (continued : AreContinuedBy k.apart lists) {j : Problem} (same : j ≡ with_more k forms lists roots) where
  pub derived_then : {d : Derived} → IsDerived k d → IsDerived j d
  derived_then {d} s = subst (λ (i : Problem). IsDerived i d) (sym same) (derived_more k forms lists roots continued s)

  pub extended : {most : ℕ} {old new : Derived} {q r : Queued} → IsUnderWay k old q → IsBegun j most q.served old new → r.queued ≤ length new.facts → KeepsServed k j old.facts q.served r.served → IsUnderWay j new r
  extended {most} {old} {new} {q} {r} s begun queued keeps = record {
    derived = begun.grows.derived;
    queued = queued;
    within = λ n c. omega (arith, s.within n ((keeps n).0 c).0, begun.grows.longer);
    complete = subst (λ (i : Problem). IsCompleteUpToRedundancy i new r.served) (sym same)
        (complete_still k forms lists roots continued q.served (subst (λ (i : Problem). IsBegun i most q.served old new) same begun) s.derived s.within s.complete r.served
        (subst (λ (i : Problem). KeepsServed k i old.facts q.served r.served) same keeps));
  }

pub listed_again : {k : Problem} {d : Derived} {index : Index} (r : Queued) → ListsFacts k d r.served r.served index → ListsServed k d r index
listed_again r s = fewer r.served (r.served ++ option_list r.hand) s (λ n c. c) (part_more (option_list r.hand) (part_same r.served))

-- ---- what was added is taken away again

abbrev pub derived_of : List Fact → List Reason → Derived
derived_of facts births = record { facts = facts; births = births }

pub restored : {k j : Problem} {most : ℕ} {old mid new : Derived} → IsDerived k old → Grows j most old mid → (n : ℕ) → n ≡ length old.facts → new.facts ≡ take n mid.facts → new.births ≡ take n mid.births → new ≡ old
restored {old = old} {mid = mid} {new = new} d s n long facts births =
    let f : new.facts ≡ old.facts = facts ∙ ap (λ (m : ℕ). take m mid.facts) long ∙ front old.facts mid.facts s.facts in
    let b : new.births ≡ old.births = births ∙ ap (λ (m : ℕ). take m mid.births) (long ∙ sym d.long) ∙ front old.births mid.births s.births in
    ap₂ derived_of f b

-- ---- forms that begin with others

take_own : (n : ℕ) (all : List Form) → take (length (take n all)) all ≡ take n all
take_own zero all = refl
take_own (suc n) [] = refl
take_own (suc n) (form ∷ all) = ap (λ (forms : List Form). form ∷ forms) (take_own n all)

-- where some of the first forms are those, as many of them are
pub begin_with : (from : ℕ) (all forms : List Form) → take from all ≡ forms → take (length forms) all ≡ forms
begin_with from all forms e = subst (λ (some : List Form). take (length some) all ≡ some) e (take_own from all)
