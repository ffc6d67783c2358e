-- Facts for which forms and lists ask are those of the classes, properties and contexts that they name.
use Rattle.std.proofs.Common.{◌≡◌, ◌↔◌, ℕ, ◌+◌, ◌<◌, ◌≤◌, ◌⊎◌, inl, inr, ⊎_elim, Bool, false, List, length, slice_get, Some, Contains, refl, sym, ap, ◌∙◌, subst, arith}
use Rattle.std.proofs.lemmas.Bool.{cases_lt}
use Rattle.std.proofs.lemmas.Option.{slice_get_within}
use Rattle.axioms.specs.declared.ids.ExprId.{ExprId}
use Rattle.axioms.specs.declared.ids.IndId.{IndId}
use Rattle.normal_forms.specs.declared.forms.Class2.TheVariants as classes
use Rattle.normal_forms.specs.declared.forms.Form.{Form}
use Rattle.normal_forms.specs.declared.forms.Form.TheVariants.{N1, N2, N3, N4, N5, N6, N7, N8, N9, N10, N12}
use Rattle.normal_forms.specs.declared.forms.PropId2.{PropId2}
use Rattle.normal_forms.specs.declared.forms.PropId2.TheVariants.{Property, Partial}
use Rattle.facts.specs.declared.contexts.Context.TheVariants.{Individual}
use Rattle.facts.specs.declared.contexts.Fact.{Fact}
use Rattle.facts.specs.declared.contexts.Fact.TheVariants.{In, Edge}
use Rattle.facts.specs.Closure.{Problem}
use Rattle.indexes.specs.declared.index.Index.{Index}
use Rattle.indexes.specs.FactIndex.{IsFrom, IsIn, IsIndex, IsInto}
use Rattle.property_closure.specs.PropertyClosures.{Has, Known}
use Rattle.inference.specs.declared.predicates.Predicate.TheVariants as predicates
use Rattle.inference.specs.Predicates.{SaysAt, predicate_of}
use Rattle.inference.specs.Visits.{HasProperty, IsBy}
use Rattle.saturate.specs.Flags.{AreFlaggedToo, AreListedBelow, FlagsServed, IsListedAt, IsListedFor, IsSuchForOne, is_flagged}
use Rattle.saturate.specs.Requests.{Asks, Denies, HasForm, IsAsked, IsAskedByForm, IsAskedByList, IsNumbered, IsOfNamed, IsSuchAt, ListAsks, NamesAbove, NamesEdge, NamesEdgeBy}
use Rattle.saturate.proofs.Asking.{above_asks, asks_named}
use Rattle.saturate.proofs.Flagging.{flagged_alone}

-- what is listed is a fact
pub listed_below : (facts : List Fact) (whole most : List ℕ) (index : Index) → IsIndex facts whole most index → AreListedBelow (length facts) index
listed_below facts whole most index is x n listed = ⊎_elim
    (λ c. let w = is.classes.only x n c in slice_get_within facts n w.1 w.2)
    (λ h. ⊎_elim
    (λ c. let w = is.from.only x n c in slice_get_within facts n w.1 w.2)
    (λ c. let w = is.into.only x n c in slice_get_within facts n w.1 w.2)
    h)
    listed

-- a fact says so exactly where it is an edge by the property
pub says_by : (p : PropId2) (f : Fact) → (predicate_of f ≡ predicates.Property p) ↔ IsBy p f
says_by p (In a x) = ((λ e. absurd (cc)), (λ is. absurd is))
says_by p (Edge x r y) = ((λ e. cc), (λ is. ap predicates.Property is))

-- .. or of one of the classes of the list
pub says_in_list : (cs : List ExprId) (facts : List Fact) (n : ℕ) → IsSuchForOne (λ c. SaysAt (predicates.Class (classes.Expr c)) facts) cs n ↔ IsSuchAt (ListAsks cs) facts n
says_in_list cs facts n = (
  λ w. (w.2.0, w.2.1, asked w.2.0 w.0 w.1 w.2.2),
  λ such. named such.0 such.1 such.2,
)
  where
    asked : (f : Fact) (c : ExprId) → Contains cs c → predicate_of f ≡ predicates.Class (classes.Expr c) → ListAsks cs f
    asked (In a x) c there is = (c, cc, there)
    asked (Edge x p y) c there is = absurd (cc)

    named : (f : Fact) → slice_get facts n ≡ Some f → ListAsks cs f → IsSuchForOne (λ c. SaysAt (predicates.Class (classes.Expr c)) facts) cs n
    named (In a x) at w = (w.0, w.2, (In a x, at, ap predicates.Class w.1))
    named (Edge x p y) at w = absurd w

pub says_in_lists : (lists : List (List ExprId)) (facts : List Fact) (n : ℕ) → IsSuchForOne (λ cs. IsSuchAt (ListAsks cs) facts) lists n ↔ IsSuchAt (IsAskedByList lists) facts n
says_in_lists lists facts n = (
  λ w. (w.2.0, w.2.1, (w.0, w.1, w.2.2)),
  λ such. (such.2.0, such.2.1, (such.0, such.1, such.2.2)),
)

-- ---- edges by the properties of a closure

-- two properties of one number are one
pub one_numbered : (closure : Known) (k : ℕ) (p q : PropId2) → IsNumbered closure k p → IsNumbered closure k q → p ≡ q
one_numbered closure k (Property p) (Property q) is too = ap (λ (n : ℕ). Property (record { 0 = n })) (sym is.0 ∙ too.0)
one_numbered closure k (Property p) (Partial n) is too = absurd (omega (arith, is.1, too))
one_numbered closure k (Partial m) (Property q) is too = absurd (omega (arith, is, too.1))
one_numbered closure k (Partial m) (Partial n) is too = let same : m ≡ n = omega (arith, is, too) in ap Partial same

-- each that the closure has is numbered
pub has_number : (closure : Known) (p : PropId2) → Has closure p → (k : ℕ) × (k < closure.properties + closure.partials) × IsNumbered closure k p
has_number closure (Property p) has = (p.0, omega (arith, has), (refl, has))
has_number closure (Partial n) has = (closure.properties + n, omega (arith, has), refl)

-- edges by one of the first so many properties, for which one of the forms asks
abbrev pub IsEdgeBefore : Known → List Form → List Form → List Fact → ℕ → ℕ → Type 0
IsEdgeBefore closure all forms facts i n = (p : PropId2) × (k : ℕ) × (k < i) × IsNumbered closure k p × IsSuchAt (NamesEdgeBy all forms p) facts n

module _ (closure : Known) (all forms : List Form) (facts : List Fact) where
  pub no_edge_before : (n : ℕ) → ¬ IsEdgeBefore closure all forms facts 0 n
  no_edge_before n w = absurd (omega (arith, w.2))

  pub one_property_more : (i : ℕ) (p : PropId2) → IsNumbered closure i p → (n : ℕ) → (IsEdgeBefore closure all forms facts i n ⊎ IsSuchAt (NamesEdgeBy all forms p) facts n) ↔ IsEdgeBefore closure all forms facts (i + 1) n
  one_property_more i p is n = (
    λ h. ⊎_elim (λ w. (w.0, w.1, omega (arith, w.2), w.3, w.4)) (λ such. (p, i, omega arith, is, such)) h,
    λ w. ⊎_elim
        (λ (low : w.1 < i). inl (w.0, w.1, low, w.3, w.4))
        (λ (high : i ≤ w.1).
        let here : w.1 ≡ i = omega (arith, high, w.2) in
        let same = one_numbered closure i w.0 p (subst (λ (k : ℕ). IsNumbered closure k w.0) here w.3) is in
        inr (subst (λ (q : PropId2). IsSuchAt (NamesEdgeBy all forms q) facts n) same w.4))
        (cases_lt w.1 i),
  )

  names : (f : Fact) (p : PropId2) → NamesEdgeBy all forms p f → HasForm (λ form. NamesEdge all form f) forms
  names (In a x) p is = absurd is.0
  names (Edge x r y) p is = (is.1.0, is.1.1, subst (NamesAbove all is.1.0) (sym is.0) is.1.2)

  named : (f : Fact) → HasProperty closure f → HasForm (λ form. NamesEdge all form f) forms → (p : PropId2) × Has closure p × NamesEdgeBy all forms p f
  named (In a x) has w = absurd w.2
  named (Edge x r y) has w = (r, has, (refl, w))

  -- by all of them
  pub all_edges : (i : ℕ) → closure.properties + closure.partials ≤ i → (n : ℕ) → ((f : Fact) → slice_get facts n ≡ Some f → HasProperty closure f) → IsEdgeBefore closure all forms facts i n ↔ IsSuchAt (λ f. HasForm (λ form. NamesEdge all form f) forms) facts n
  all_edges i end n has = (
    λ w. (w.4.0, w.4.1, names w.4.0 w.0 w.4.2),
    λ such.
        let u = named such.0 (has such.0 such.1) such.2 in
        let k = has_number closure u.0 u.1 in
        (u.0, k.0, omega (arith, k.1, end), k.2, (such.0, such.1, u.2)),
  )

-- ---- all that is asked for

module _ (all : List Form) (facts : List Fact) (index : Index) (served most : List ℕ) (is : IsIndex facts served most index) (n : ℕ) (there : Contains served n) where
  -- a fact for which a form asks is of a class or a property that it names, or listed for it
  asked_of : (form : Form) (f : Fact) → slice_get facts n ≡ Some f → Asks all form f → IsOfNamed form f ⊎ (NamesEdge all form f ⊎ IsListedFor all index facts form n)
  asked_of (N1 _ _) (In c x) at asks = inl asks
  asked_of (N2 _ _ _) (In c x) at asks = inl asks
  asked_of (N3 _ _ _) (In c x) at asks = inl asks
  asked_of (N4 _ _ _) (In c x) at asks = inl asks
  asked_of (N7 _) (In c x) at asks = inl asks
  asked_of (N5 _ _) (Edge x p y) at asks = inr (inl asks)
  asked_of (N6 _ _ _) (Edge x p y) at asks = inr (inl asks)
  asked_of (N10 a b) (In c x) at asks = inr (inr (⊎_elim
      (λ e. inl (inl (is.classes.all (Individual a) n (In c x) there at e)))
      (λ e. inr (inl (is.classes.all (Individual b) n (In c x) there at e)))
      asks))
  asked_of (N10 a b) (Edge x p y) at asks = inr (inr (⊎_elim
      (λ h. ⊎_elim
      (λ e. inl (inr (inl (is.from.all (Individual a) n (Edge x p y) there at e))))
      (λ e. inr (inr (inl (is.from.all (Individual b) n (Edge x p y) there at e))))
      h)
      (λ h. ⊎_elim
      (λ e. inl (inr (inr (is.into.all (Individual a) n (Edge x p y) there at e))))
      (λ e. inr (inr (inr (is.into.all (Individual b) n (Edge x p y) there at e))))
      h)
      asks))
  asked_of (N12 a r b) (Edge x p y) at asks = inr (inr (is.from.all (Individual a) n (Edge x p y) there at asks.0, (Edge x p y, at, asks)))
  asked_of (N1 _ _) (Edge x p y) at asks = absurd asks
  asked_of (N2 _ _ _) (Edge x p y) at asks = absurd asks
  asked_of (N3 _ _ _) (Edge x p y) at asks = absurd asks
  asked_of (N4 _ _ _) (Edge x p y) at asks = absurd asks
  asked_of (N7 _) (Edge x p y) at asks = absurd asks
  asked_of (N5 _ _) (In c x) at asks = absurd asks
  asked_of (N6 _ _ _) (In c x) at asks = absurd asks
  asked_of (N8 _ _) f at asks = absurd asks
  asked_of (N9 _ _ _) f at asks = absurd asks
  asked_of (N12 _ _ _) (In c x) at asks = absurd asks

  in_asks : (a b : IndId) (c : IndId) → (c ≡ a) ⊎ (c ≡ b) → (f : Fact) → IsIn (Individual c) f ⊎ (IsFrom (Individual c) f ⊎ IsInto (Individual c) f) → Asks all (N10 a b) f
  in_asks a b c one (In d x) h = ⊎_elim
      (λ e. ⊎_elim (λ s. inl (e ∙ ap Individual s)) (λ s. inr (e ∙ ap Individual s)) one)
      (λ w. ⊎_elim absurd absurd w)
      h
  in_asks a b c one (Edge x p y) h = ⊎_elim
      absurd
      (λ w. ⊎_elim
      (λ e. inl (⊎_elim (λ s. inl (e ∙ ap Individual s)) (λ s. inr (e ∙ ap Individual s)) one))
      (λ e. inr (⊎_elim (λ s. inl (e ∙ ap Individual s)) (λ s. inr (e ∙ ap Individual s)) one))
      w)
      h

  at_individual : (a b c : IndId) → (c ≡ a) ⊎ (c ≡ b) → IsListedAt index (Individual c) n → IsSuchAt (Asks all (N10 a b)) facts n
  at_individual a b c one listed = ⊎_elim
      (λ h. let w = is.classes.only (Individual c) n h in (w.1, w.2, in_asks a b c one w.1 (inl w.3)))
      (λ u. ⊎_elim
      (λ h. let w = is.from.only (Individual c) n h in (w.1, w.2, in_asks a b c one w.1 (inr (inl w.3))))
      (λ h. let w = is.into.only (Individual c) n h in (w.1, w.2, in_asks a b c one w.1 (inr (inr w.3))))
      u)
      listed

  -- one that is listed for a form is one for which it asks
  listed_asks : (form : Form) → IsListedFor all index facts form n → IsSuchAt (Asks all form) facts n
  listed_asks (N10 a b) h = ⊎_elim (λ listed. at_individual a b a (inl refl) listed) (λ listed. at_individual a b b (inr refl) listed) h
  listed_asks (N12 a r b) h = denied h.1.0 h.1.1 h.1.2
    where
      denied : (f : Fact) → slice_get facts n ≡ Some f → Denies all (N12 a r b) f → IsSuchAt (Asks all (N12 a r b)) facts n
      denied (In c x) at d = absurd d
      denied (Edge x p y) at d = (Edge x p y, at, d)
  listed_asks (N1 _ _) h = absurd h
  listed_asks (N2 _ _ _) h = absurd h
  listed_asks (N3 _ _ _) h = absurd h
  listed_asks (N4 _ _ _) h = absurd h
  listed_asks (N5 _ _) h = absurd h
  listed_asks (N6 _ _ _) h = absurd h
  listed_asks (N7 _) h = absurd h
  listed_asks (N8 _ _) h = absurd h
  listed_asks (N9 _ _ _) h = absurd h

-- named classes, lists, properties and individuals
abbrev pub IsFound : List Form → Problem → List Fact → Index → ℕ → Type 0
IsFound all added facts index n = ((IsSuchForOne (λ form. IsSuchAt (IsOfNamed form) facts) added.forms n ⊎ IsSuchAt (IsAskedByList added.apart.classes) facts n) ⊎ IsSuchAt (λ f. HasForm (λ form. NamesEdge all form f) added.forms) facts n) ⊎ IsSuchForOne (IsListedFor all index facts) added.forms n

pub found : (all : List Form) (added : Problem) (facts : List Fact) (index : Index) (served most : List ℕ) → IsIndex facts served most index → (n : ℕ) → Contains served n → IsFound all added facts index n ↔ IsSuchAt (IsAsked all added) facts n
found all added facts index served most is n there = (
  λ h. ⊎_elim
      (λ h. ⊎_elim
      (λ h. ⊎_elim
      (λ (w : IsSuchForOne (λ form. IsSuchAt (IsOfNamed form) facts) added.forms n). (w.2.0, w.2.1, inl (w.0, w.1, asks_named all w.0 w.2.0 w.2.2)))
      (λ (such : IsSuchAt (IsAskedByList added.apart.classes) facts n). (such.0, such.1, inr such.2))
      h)
      (λ (such : IsSuchAt (λ f. HasForm (λ form. NamesEdge all form f) added.forms) facts n). (such.0, such.1, inl (such.2.0, such.2.1, edge_asks such.0 such.2.0 such.2.2)))
      h)
      (λ (w : IsSuchForOne (IsListedFor all index facts) added.forms n). let such = listed_asks all facts index served most is n there w.0 w.2 in (such.0, such.1, inl (w.0, w.1, such.2)))
      h,
  λ such. ⊎_elim
      (λ (w : IsAskedByForm all added.forms such.0). by_form such.0 such.1 w.0 w.1 (asked_of all facts index served most is n there w.0 such.0 such.1 w.2))
      (λ (w : IsAskedByList added.apart.classes such.0). inl (inl (inr (such.0, such.1, w))))
      such.2,
)
  where
    edge_asks : (f : Fact) (form : Form) → NamesEdge all form f → Asks all form f
    edge_asks (In a x) form h = absurd h
    edge_asks (Edge x p y) form h = above_asks all x p y form h

    by_form : (f : Fact) → slice_get facts n ≡ Some f → (form : Form) → Contains added.forms form → IsOfNamed form f ⊎ (NamesEdge all form f ⊎ IsListedFor all index facts form n) → IsFound all added facts index n
    by_form f at form one h = ⊎_elim
        (λ is_named. inl (inl (inl (form, one, (f, at, is_named)))))
        (λ w. ⊎_elim (λ names. inl (inr (f, at, (form, one, names)))) (λ listed. inr (form, one, listed)) w)
        h

-- so flags of these are flags of what is asked for, of facts that are served
pub flags_served : (all : List Form) (added : Problem) (facts : List Fact) (index : Index) (old new : List Bool) → ((n : ℕ) → is_flagged old n ≡ false) → AreFlaggedToo (IsFound all added facts index) old new → FlagsServed (IsAsked all added) facts index new
flags_served all added facts index old new none too served most within is n there =
    flagged_alone (IsAsked all added) (IsFound all added facts index) facts old new n (none n) (found all added facts index served most is n there) too
