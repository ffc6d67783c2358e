-- A form that gives something from facts is listed for them.
use Rattle.std.proofs.Common.{◌≡◌, ℕ, List, [], ◌∷◌, slice_get, Some, None, Contains, refl, sym, ap, subst, ◌∙◌}
use Rattle.std.proofs.lemmas.Option.{none-some, same_Some}
use Rattle.axioms.specs.declared.ids.IndId.{IndId}
use Rattle.normal_forms.specs.declared.forms.Form.{Form}
use Rattle.normal_forms.specs.declared.forms.Form.TheVariants.{N1, N2, N3, N4, N5, N6, N7, N8, N9, N10, N12}
use Rattle.axioms.specs.declared.ids.PropId.{PropId}
use Rattle.normal_forms.specs.declared.forms.Class2.{Class2}
use Rattle.normal_forms.specs.declared.forms.PropId2.{PropId2}
use Rattle.normal_forms.specs.declared.forms.PropId2.TheVariants.{Property}
use Rattle.facts.specs.declared.contexts.Context.{Context}
use Rattle.facts.specs.declared.contexts.Context.TheVariants.{Individual}
use Rattle.facts.specs.declared.contexts.Fact.{Fact}
use Rattle.facts.specs.declared.contexts.Fact.TheVariants.{In, Edge}
use Rattle.normal_forms.specs.Properties.{IsAtOrBelow}
use Rattle.facts.specs.Closure.{Problem, FromNone, FromOne, FromTwo, Concludes, IsLoop}
use Rattle.indexes.specs.declared.keys.Key.{Key}
use Rattle.indexes.specs.declared.keys.Key.TheVariants.{Whole}
use Rattle.indexes.specs.Keys.{class_key, individual_key, by_kind, by_alone, by_first, by_second, by_filler, by_chain, by_denied, by_end, by_restricted, by_target, property_key}
use Rattle.inference.specs.Visits.{chained_properties, filled_property, AllChainsDrawn, IsBehind, IsBy, IsChainingDrawn, IsEdge, IsFillingDrawn}
use Rattle.inference.specs.Completeness.{AreConcluded, AreDrawn, AllDrawn, DrawnAt}
use Rattle.inference.proofs.Giving.{prefix}
use Rattle.inference.proofs.Lists.{one_value, slice_get-from_Contains}

pub kind_given : (form : Form) (f : Fact) → FromNone form f → by_kind form ≡ Some (Whole 0)
kind_given (N1 _ _) f w = absurd w
kind_given (N2 _ _ _) f w = absurd w
kind_given (N3 _ _ _) f w = absurd w
kind_given (N4 _ _ _) f w = absurd w
kind_given (N5 _ _) f w = absurd w
kind_given (N6 _ _ _) f w = absurd w
kind_given (N7 _) f w = absurd w
kind_given (N8 _ _) f w = refl
kind_given (N9 _ _ _) f w = refl
kind_given (N10 _ _) f w = absurd w
kind_given (N12 _ _ _) f w = absurd w

kind_loop : (x : Context) (form : Form) (f : Fact) → IsLoop x form f → by_kind form ≡ Some (Whole 1)
kind_loop x (N1 _ _) f w = absurd w
kind_loop x (N2 _ _ _) f w = absurd w
kind_loop x (N3 _ _ _) f w = absurd w
kind_loop x (N4 _ _ _) f w = absurd w
kind_loop x (N5 _ _) f w = absurd w
kind_loop x (N6 _ _ _) f w = absurd w
kind_loop x (N7 _) f w = refl
kind_loop x (N8 _ _) f w = absurd w
kind_loop x (N9 _ _ _) f w = absurd w
kind_loop x (N10 _ _) f w = absurd w
kind_loop x (N12 _ _ _) f w = absurd w

-- the form is listed for the fact
abbrev pub IsForOne : Form → Fact → Type 0
IsForOne form (In a x) = by_alone form ≡ Some (class_key a)
IsForOne form (Edge x r y) = (a : IndId) × (b : IndId) × (x ≡ Individual a) × (y ≡ Individual b) × (by_denied form ≡ Some (individual_key a)) × (by_target form ≡ Some (individual_key b))

pub for_one : (k : Problem) (form : Form) (g f : Fact) → FromOne k form g f → IsForOne form g
for_one k (N1 a b) (In c x) f w = ap (λ d. Some (class_key d)) (sym w.0)
for_one k (N1 a b) (Edge x r y) f w = absurd w
for_one k (N2 _ _ _) g f w = absurd w
for_one k (N3 a r b) (In c x) f w = ap (λ d. Some (class_key d)) (sym w.0)
for_one k (N3 a r b) (Edge x s y) f w = absurd w
for_one k (N4 _ _ _) g f w = absurd w
for_one k (N5 _ _) g f w = absurd w
for_one k (N6 _ _ _) g f w = absurd w
for_one k (N7 _) g f w = absurd w
for_one k (N8 _ _) g f w = absurd w
for_one k (N9 _ _ _) g f w = absurd w
for_one k (N10 _ _) g f w = absurd w
for_one k (N12 a r b) (Edge x q y) f w = (a, b, w.0, w.1, refl, refl)
for_one k (N12 a r b) (In c x) f w = absurd w

-- the form is listed for the two facts, unless it is a chain or a restriction
abbrev pub IsForTwo : Form → Fact → Fact → Type 0
IsForTwo form (In a x) (In b y) = (by_first form ≡ Some (class_key a)) × (by_second form ≡ Some (class_key b))
IsForTwo form (In a x) (Edge y r z) = ⊥
IsForTwo form (Edge x r y) g = ⊥

pub for_two : (k : Problem) (form : Form) (g h f : Fact) → by_chain form ≡ None → by_filler form ≡ None → FromTwo k form g h f → IsForTwo form g h
for_two k (N1 _ _) g h f none unfilled w = absurd w
for_two k (N2 _ _ _) (In _ _) (In _ _) f none unfilled w = (ap (λ d. Some (class_key d)) (sym w.0), ap (λ d. Some (class_key d)) (sym w.1))
for_two k (N2 _ _ _) (In _ _) (Edge _ _ _) f none unfilled w = w
for_two k (N2 _ _ _) (Edge _ _ _) g f none unfilled w = absurd w
for_two k (N3 _ _ _) g h f none unfilled w = absurd w
for_two k (N4 _ _ _) g h f none unfilled w = absurd (cc)
for_two k (N5 _ _) g h f none unfilled w = absurd w
for_two k (N6 _ _ _) g h f none unfilled w = absurd (cc)
for_two k (N7 _) g h f none unfilled w = absurd w
for_two k (N8 _ _) g h f none unfilled w = absurd w
for_two k (N9 _ _ _) g h f none unfilled w = absurd w
for_two k (N10 _ _) g h f none unfilled w = absurd w
for_two k (N12 _ _ _) g h f none unfilled w = absurd w

-- a chain gives something from two edges alone, which are at or below its properties
chain : (k : Problem) (r s t : PropId2) (older : List Fact) (f : Fact) → Concludes k (N6 r s t) older f → (p : PropId2) × (q : PropId2) × (chained_properties older ≡ Some (p, q)) × IsAtOrBelow k.forms p r × IsAtOrBelow k.forms q s
chain k r s t [] f w = absurd w
chain k r s t (g ∷ []) f w = absurd w
chain k r s t (In _ _ ∷ g ∷ []) f w = absurd w
chain k r s t (Edge _ _ _ ∷ In _ _ ∷ []) f w = absurd w
chain k r s t (Edge x p y ∷ Edge z q v ∷ []) f w = (p, q, refl, w.0, w.1)
chain k r s t (g ∷ h ∷ i ∷ more) f w = absurd w

-- the second of two edges is by one property
same_behind : (older : List Fact) (p o q : PropId2) → chained_properties older ≡ Some (p, o) → IsBehind q older → o ≡ q
same_behind [] p o q e w = absurd w
same_behind (g ∷ []) p o q e w = absurd w
same_behind (In _ _ ∷ g ∷ []) p o q e w = absurd (none-some _ e)
same_behind (Edge _ _ _ ∷ In _ _ ∷ []) p o q e w = absurd w
same_behind (Edge x r y ∷ Edge z s v ∷ []) p o q e w = ap (λ (pair : PropId2 × PropId2). pair.1) (sym (same_Some _ _ e)) ∙ w
same_behind (g ∷ h ∷ i ∷ more) p o q e w = absurd w

-- so its second property is at or above that of the second edge
pub chain_end : (k : Problem) (form : Form) (older : List Fact) (f : Fact) (q : PropId2) (key : Key) → IsBehind q older → by_chain form ≡ Some key → Concludes k form older f → (s : PropId2) × IsAtOrBelow k.forms q s × (by_end form ≡ Some (property_key s))
chain_end k (N1 _ _) older f q key behind e w = absurd (none-some key e)
chain_end k (N2 _ _ _) older f q key behind e w = absurd (none-some key e)
chain_end k (N3 _ _ _) older f q key behind e w = absurd (none-some key e)
chain_end k (N4 _ _ _) older f q key behind e w = absurd (none-some key e)
chain_end k (N5 _ _) older f q key behind e w = absurd (none-some key e)
chain_end k (N6 r s t) older f q key behind e w =
    let c = chain k r s t older f w in
    (s, subst (λ (p : PropId2). IsAtOrBelow k.forms p s) (same_behind older c.0 c.1 q c.2 behind) c.4, refl)
chain_end k (N7 _) older f q key behind e w = absurd (none-some key e)
chain_end k (N8 _ _) older f q key behind e w = absurd (none-some key e)
chain_end k (N9 _ _ _) older f q key behind e w = absurd (none-some key e)
chain_end k (N10 _ _) older f q key behind e w = absurd (none-some key e)
chain_end k (N12 _ _ _) older f q key behind e w = absurd (none-some key e)

-- the second of two edges is an edge by its property
pub behind_chained : (older : List Fact) (p q : PropId2) → chained_properties older ≡ Some (p, q) → IsBehind q older
behind_chained [] p q e = absurd (none-some _ e)
behind_chained (g ∷ []) p q e = absurd (none-some _ e)
behind_chained (In _ _ ∷ g ∷ []) p q e = absurd (none-some _ e)
behind_chained (Edge _ _ _ ∷ In _ _ ∷ []) p q e = absurd (none-some _ e)
behind_chained (Edge x r y ∷ Edge z s v ∷ []) p q e = ap (λ (pair : PropId2 × PropId2). pair.1) (same_Some _ _ e)
behind_chained (g ∷ h ∷ i ∷ more) p q e = absurd (none-some _ e)

-- a restriction gives something from an edge at or below its property and its filler alone
restriction : (k : Problem) (r : PropId) (a b : Class2) (older : List Fact) (f : Fact) → Concludes k (N4 r a b) older f → (p : PropId2) × (c : Class2) × (filled_property older ≡ Some (p, c)) × IsAtOrBelow k.forms p (Property r) × (c ≡ a)
restriction k r a b [] f w = absurd w
restriction k r a b (g ∷ []) f w = absurd w
restriction k r a b (In _ _ ∷ g ∷ []) f w = absurd w
restriction k r a b (Edge _ _ _ ∷ Edge _ _ _ ∷ []) f w = absurd w
restriction k r a b (Edge x p y ∷ In c z ∷ []) f w = (p, c, refl, w.0, w.1)
restriction k r a b (g ∷ h ∷ i ∷ more) f w = absurd w

pub restricted : (k : Problem) (form : Form) (older : List Fact) (f : Fact) (p : PropId2) (c : Class2) (key : Key) → filled_property older ≡ Some (p, c) → by_filler form ≡ Some key → Concludes k form older f → (r : PropId2) × IsAtOrBelow k.forms p r × (by_restricted form ≡ Some (property_key r))
restricted k (N1 _ _) older f p c key is e w = absurd (none-some key e)
restricted k (N2 _ _ _) older f p c key is e w = absurd (none-some key e)
restricted k (N3 _ _ _) older f p c key is e w = absurd (none-some key e)
restricted k (N4 r a b) older f p c key is e w =
    let v = restriction k r a b older f w in
    (Property r, subst (λ (q : PropId2). IsAtOrBelow k.forms q (Property r)) (ap (λ (pair : PropId2 × Class2). pair.0) (one_value _ _ _ v.2 is)) v.3, refl)
restricted k (N5 _ _) older f p c key is e w = absurd (none-some key e)
restricted k (N6 _ _ _) older f p c key is e w = absurd (none-some key e)
restricted k (N7 _) older f p c key is e w = absurd (none-some key e)
restricted k (N8 _ _) older f p c key is e w = absurd (none-some key e)
restricted k (N9 _ _ _) older f p c key is e w = absurd (none-some key e)
restricted k (N10 _ _) older f p c key is e w = absurd (none-some key e)
restricted k (N12 _ _ _) older f p c key is e w = absurd (none-some key e)

-- so what these forms give is all that forms give
module _ (k : Problem) (older new : List Fact)
    (plain : (n : ℕ) (form : Form) (f : Fact) → slice_get k.forms n ≡ Some form → by_chain form ≡ None → by_filler form ≡ None → Concludes k form older f → Contains new f)
    (filling : IsFillingDrawn k older new)
    (chaining : IsChainingDrawn k older new) where
  given : (form : Form) (n : ℕ) → slice_get k.forms n ≡ Some form → (f : Fact) → Concludes k form older f → Contains new f
  given (N1 a b) n at f w = plain n (N1 a b) f at refl refl w
  given (N2 a b c) n at f w = plain n (N2 a b c) f at refl refl w
  given (N3 a r b) n at f w = plain n (N3 a r b) f at refl refl w
  given (N4 r a b) n at f w = let v = restriction k r a b older f w in filling v.0 v.1 v.2 n (N4 r a b, at, ap (λ d. Some (class_key d)) (sym v.4)) (N4 r a b) at f w
  given (N5 r s) n at f w = plain n (N5 r s) f at refl refl w
  given (N6 r s t) n at f w = let c = chain k r s t older f w in chaining c.0 c.1 c.2 r c.3 n (N6 r s t, at, refl) (N6 r s t) at f w
  given (N7 r) n at f w = plain n (N7 r) f at refl refl w
  given (N8 i a) n at f w = plain n (N8 i a) f at refl refl w
  given (N9 i r j) n at f w = plain n (N9 i r j) f at refl refl w
  given (N10 a b) n at f w = plain n (N10 a b) f at refl refl w
  given (N12 a r b) n at f w = plain n (N12 a r b) f at refl refl w

  pub all_given : AreDrawn k older new
  all_given form there f w = let at = slice_get-from_Contains k.forms form there in given form at.0 at.1 f w

-- the loops of the reflexive properties are all loops
pub all_loops : (k : Problem) (x : Context) (new : List Fact) → ((n : ℕ) (form : Form) → slice_get k.forms n ≡ Some form → by_kind form ≡ Some (Whole 1) → DrawnAt (IsLoop x) k.forms new n) → AllDrawn (IsLoop x) k.forms new
all_loops k x new drawn form there f w = let at = slice_get-from_Contains k.forms form there in drawn at.0 form at.1 (kind_loop x form f w) form at.1 f w

-- of two edges the chains alone give something
pub edges_drawn : (k : Problem) (f g : Fact) (p : PropId2) (facts : List Fact) → IsBy p f → IsEdge g → AllChainsDrawn k (f ∷ g ∷ []) facts p → AreConcluded k (f ∷ g ∷ []) facts
edges_drawn k (In a x) g p facts by is chains = absurd by
edges_drawn k (Edge x r y) (In b z) p facts by is chains = absurd is
edges_drawn k (Edge x r y) (Edge z q v) p facts by is chains = record {
  forms = all_given k (Edge x r y ∷ Edge z q v ∷ []) facts
      (λ n form h at none unfilled gives. absurd (let b = prefix k form x y z v r q h gives in none-some _ (sym none ∙ b.2)))
      (λ s c same. absurd (none-some _ same))
      (λ s o same t low. chains t (subst (λ (u : PropId2). IsAtOrBelow k.forms u t) (sym (ap (λ (pair : PropId2 × PropId2). pair.0) (same_Some _ _ same)) ∙ by) low));
  back = λ h b. absurd b;
}
