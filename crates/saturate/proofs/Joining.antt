-- What is redundant is there, where all facts are served: by way of the older two that gave the second edge.
use Rattle.std.proofs.Common.{◌≡◌, ℕ, zero, suc, ◌<◌, ◌⊎◌, inl, inr, ⊎_elim, List, [], ◌∷◌, length, map, take, slice_get, slice_index_or, Some, None, Option, Contains, ap, refl, sym, ◌∙◌, subst, arith}
use Rattle.std.proofs.lemmas.Option.{none-some, same_Some, slice_get-get_or}
use Rattle.std.proofs.Math.Logic.{∥∥₁_elim}
use mathlib.Core.HLevel.{Σ_prop_path}
use denote.Struct.Props as logic
use Rattle.axioms.specs.WellFormedness.{AreDistinct}
use Rattle.axioms.specs.declared.ids.ExprId.{ExprId}
use Rattle.normal_forms.specs.Forms.{AtOrderedPlaces}
use Rattle.normal_forms.specs.declared.forms.Class2.{Class2}
use Rattle.normal_forms.specs.declared.forms.Form.{Form}
use Rattle.normal_forms.specs.declared.forms.Form.TheVariants.{N1, N2, N3, N4, N5, N6, N7, N8, N9, N10, N12}
use Rattle.normal_forms.specs.declared.forms.PropId2.{PropId2}
use Rattle.normal_forms.specs.declared.forms.PropId2.TheVariants.{Property}
use Rattle.normal_forms.specs.Properties.{IsAtOrBelow, same, step}
use Rattle.facts.specs.declared.contexts.Context.{Context}
use Rattle.facts.specs.declared.contexts.Context.TheVariants.{Individual}
use Rattle.facts.specs.declared.contexts.Fact.{Fact}
use Rattle.facts.specs.declared.contexts.Fact.TheVariants.{In, Edge}
use Rattle.facts.specs.Closure.{Problem, FromTwo, Concludes, HandsOn, IsLoop, Gives, nothing, in_thing, in_itself, by_form, unsatisfiable, loop, handed_on, different, apart}
use Rattle.inference.specs.Derivations.{Derived, IsDerived}
use Rattle.inference.specs.Completeness.{AreJoined, AreRedundant, Drawn, DrawnUpToRedundancy, IsJoined, IsSparedBy}
use Rattle.inference.proofs.Lists.{Contains-from_slice_get, one_value, slice_get_take, slice_get-from_Contains}

chains_hand_nothing_on : (r s t : PropId2) {g f : Fact} → HandsOn (N6 r s t) g f → ⊥
chains_hand_nothing_on r s t (HandsOn.class l) = l
chains_hand_nothing_on r s t (HandsOn.source l) = l
chains_hand_nothing_on r s t (HandsOn.target l) = l

-- the fact says that owl:Nothing is in a context
abbrev IsOfNothing : Fact → Type 0
IsOfNothing f = (x : Context) × (f ≡ In nothing x)

-- the form of that number is a chain: what is given by it is given as by a chain, or the number is that of a list of what is apart
by_chain_form : {k : Problem} {c i : ℕ} {o : Option ℕ} {older : List Fact} {f : Fact} (r s t : PropId2) → Gives k c o older f → o ≡ Some i → slice_get k.forms i ≡ Some (N6 r s t) → Concludes k (N6 r s t) older f ⊎ IsOfNothing f
by_chain_form {i = i} r s t (in_thing c) e at = absurd (none-some i e)
by_chain_form {i = i} r s t (in_itself c) e at = absurd (none-some i e)
by_chain_form {k} {i = i} {older = older} {f = f} r s t (by_form n form there gives) e at =
    let n_is : n ≡ i = same_Some n i e in
    inl (subst (λ (x : Form). Concludes k x older f) (one_value _ form (N6 r s t) there (subst (λ (j : ℕ). slice_get k.forms j ≡ Some (N6 r s t)) (sym n_is) at)) gives)
by_chain_form {i = i} r s t (unsatisfiable b) e at = absurd (none-some i e)
by_chain_form {k} {i = i} {f = f} r s t (loop x n form there l c) e at =
    let n_is : n ≡ i = same_Some n i e in
    absurd (subst (λ (y : Form). IsLoop x y f) (one_value _ form (N6 r s t) there (subst (λ (j : ℕ). slice_get k.forms j ≡ Some (N6 r s t)) (sym n_is) at)) l)
by_chain_form {k} {i = i} {f = f} r s t (handed_on {g = g} n form there on) e at =
    let n_is : n ≡ i = same_Some n i e in
    absurd (chains_hand_nothing_on r s t (subst (λ (y : Form). HandsOn y g f) (one_value _ form (N6 r s t) there (subst (λ (j : ℕ). slice_get k.forms j ≡ Some (N6 r s t)) (sym n_is) at)) on))
by_chain_form r s t (different l a b there alike) e at = inr (Individual a, refl)
by_chain_form r s t (apart l a b x are) e at = inr (x, refl)

-- what a chain gives is an edge
chain_gives_edges : (k : Problem) (r s t : PropId2) (older : List Fact) (a : Class2) (x : Context) → Concludes k (N6 r s t) older (In a x) → ⊥
chain_gives_edges k r s t [] a x gives = gives
chain_gives_edges k r s t (f ∷ []) a x gives = gives
chain_gives_edges k r s t (In _ _ ∷ g ∷ []) a x gives = gives
chain_gives_edges k r s t (Edge _ _ _ ∷ In _ _ ∷ []) a x gives = gives
chain_gives_edges k r s t (Edge u p v ∷ Edge w q z ∷ []) a x gives = let e : In a x ≡ Edge u t z = gives.3 in absurd (cc)
chain_gives_edges k r s t (f ∷ g ∷ h ∷ rest) a x gives = gives

-- its second premise is one too
second_is_edge : (k : Problem) (r s t : PropId2) (f g h : Fact) → IsOfNothing g → FromTwo k (N6 r s t) f g h → ⊥
second_is_edge k r s t (In _ _) g h of gives = gives
second_is_edge k r s t (Edge _ _ _) (In _ _) h of gives = gives
second_is_edge k r s t (Edge _ _ _) (Edge u p v) h (x, is) gives = absurd (cc)

-- of two at ordered places of a list the first is in it
pub first_in : (list : List ExprId) (a b : ExprId) → AtOrderedPlaces list a b → Contains list a
first_in list a b (m, _, _, at, _) = Contains-from_slice_get list m a at

-- what a list of disjoint classes gives is there, if it is there or redundant
pub apart_is_there : {k : Problem} {d : Derived} → IsDerived k d → (a b : Class2) (x : Context) (o : Option ℕ) → Contains d.facts (In nothing x) ⊎ AreRedundant k d (In a x ∷ In b x ∷ []) o (In nothing x) → Contains d.facts (In nothing x)
apart_is_there s a b x o (inl there) = there
apart_is_there s a b x None (inr redundant) = absurd redundant
apart_is_there {k} {d} s a b x (Some n) (inr redundant) =
    let given = redundant.2.given in
    let r : PropId2 = redundant.2.first in
    let t : PropId2 = redundant.2.second in
    let u : PropId2 = redundant.2.whole in
    let (older, _, gives) = s.born given.place (In b x) given.birth given.there given.born in
    ⊎_elim
    (λ from. absurd (chain_gives_edges k r t u older b x from))
    (λ of.
    let of_nothing : In b x ≡ In nothing of.0 = of.1 in
    let same : In b x ≡ In nothing x = cc in
    subst (Contains d.facts) same (Contains-from_slice_get d.facts given.place (In b x) given.there))
    (by_chain_form r t u gives given.by given.is)

-- what is below what is below
below_both : (forms : List Form) (p q r : PropId2) → IsAtOrBelow forms p q → IsAtOrBelow forms q r → IsAtOrBelow forms p r
below_both forms p q _ low same = low
below_both forms p q _ low (step s t h there) = step s t (below_both forms p q (Property s) low h) there

-- facts that differ are there in one way at most
there_once : (facts : List Fact) → AreDistinct facts → (h : Fact) → IsProp (Contains facts h)
there_once facts distinct h x y =
    let Stands : ℕ → Type 0 = λ n. (n < length facts) × (slice_index_or facts n h ≡ h) in
    let as_contained : (n : ℕ) × Stands n → Contains facts h = λ w. (w.0, w.1.0, w.1.1) in
    ap as_contained
    (Σ_prop_path {A = ℕ} {B = Stands} (λ n. Prim.hlevel logic.props) {u = (x.0, (x.1, x.2))} {v = (y.0, (y.1, y.2))} (distinct x.0 y.0 h (slice_get-get_or facts x.0 h x.1 ∙ ap Some x.2) (slice_get-get_or facts y.0 h y.1 ∙ ap Some y.2)))

module _ {k : Problem} {d : Derived} (s : IsDerived k d) (complete : (f g : Fact) → Contains d.facts f → Contains d.facts g → DrawnUpToRedundancy k (f ∷ g ∷ []) d) where
  -- what a fact gives as the first of two is there, where the second stands at the place
  abbrev Joins : ℕ → Type 0
  Joins n = (f g : Fact) (c : ℕ) (o : Option ℕ) (h : Fact) → Contains d.facts f → slice_get d.facts n ≡ Some g → Gives k c o (f ∷ g ∷ []) h → Contains d.facts h

  -- what a chain gives from two edges is there
  by_joined : (m : ℕ) → Joins m → (p q t : PropId2) → IsJoined k.forms p q t → (x y z v : Context) (o e : PropId2)
      → Contains d.facts (Edge x o y) → IsAtOrBelow k.forms o p → slice_get d.facts m ≡ Some (Edge z e v) → IsAtOrBelow k.forms e q → y ≡ z → Contains d.facts (Edge x t v)
  by_joined m joins p q t joined x y z v o e there o_below at e_below y_is =
      let i = slice_get-from_Contains k.forms (N6 joined.first joined.second t) joined.chain in
      joins (Edge x o y) (Edge z e v) 9 (Some i.0) (Edge x t v) there at
      (by_form i.0 (N6 joined.first joined.second t) i.1 (below_both k.forms o p joined.first o_below joined.begins, below_both k.forms e q joined.second e_below joined.ends, y_is, refl))

  -- from y to w and from w to z lead the two that gave the second: from x to w leads what the first two give, and from x to z what that and the third do
  by_two : (n : ℕ) (r a b t : PropId2) → AreJoined k.forms r a b t → ((m : ℕ) → m < n → Joins m)
      → (x y w v z u : Context) (o p q : PropId2) (i j : ℕ)
      → Contains d.facts (Edge x o y) → IsAtOrBelow k.forms o r
      → slice_get (take n d.facts) i ≡ Some (Edge u p w) → IsAtOrBelow k.forms p a → y ≡ u
      → slice_get (take n d.facts) j ≡ Some (Edge v q z) → IsAtOrBelow k.forms q b → w ≡ v
      → Contains d.facts (Edge x t z)
  by_two n r a b t are joins x y w v z u o p q i j there o_below first p_below y_is second q_below w_is =
      let one = slice_get_take n d.facts i (Edge u p w) first in
      let two = slice_get_take n d.facts j (Edge v q z) second in
      let half : Contains d.facts (Edge x are.middle w) = by_joined i (joins i one.0) r a are.middle are.front x y u w o p there o_below one.1 p_below y_is in
      by_joined j (joins j two.0) are.middle b t are.rest x w v z are.middle q half same two.1 q_below w_is

  by_older : (n : ℕ) (r e t a b c : PropId2) → ∥ AreJoined k.forms r a b t ∥₁ → ((m : ℕ) → m < n → Joins m) → (f g h : Fact) → Contains d.facts f
      → (places : List ℕ) (older : List Fact) → map (slice_get (take n d.facts)) places ≡ map Some older → Concludes k (N6 a b c) older g
      → FromTwo k (N6 r e t) f g h → Contains d.facts h
  by_older n r e t a b c joined joins f g h there places [] are from gives = absurd from
  by_older n r e t a b c joined joins f g h there places (i ∷ []) are from gives = absurd from
  by_older n r e t a b c joined joins f g h there places (i ∷ j ∷ l ∷ more) are from gives = absurd from
  by_older n r e t a b c joined joins f g h there places (In _ _ ∷ j ∷ []) are from gives = absurd from
  by_older n r e t a b c joined joins f g h there places (Edge _ _ _ ∷ In _ _ ∷ []) are from gives = absurd from
  by_older n r e t a b c joined joins (In _ _) g h there places (Edge _ _ _ ∷ Edge _ _ _ ∷ []) are from gives = absurd gives
  by_older n r e t a b c joined joins (Edge _ _ _) (In _ _) h there places (Edge _ _ _ ∷ Edge _ _ _ ∷ []) are from gives = absurd gives
  by_older n r e t a b c joined joins (Edge _ _ _) (Edge _ _ _) h there [] (Edge _ _ _ ∷ Edge _ _ _ ∷ []) are from gives = absurd (cc)
  by_older n r e t a b c joined joins (Edge _ _ _) (Edge _ _ _) h there (i ∷ []) (Edge _ _ _ ∷ Edge _ _ _ ∷ []) are from gives = absurd (cc)
  by_older n r e t a b c joined joins (Edge x o y) (Edge u g v) h there (i ∷ j ∷ rest) (Edge y' p w ∷ Edge w' q z ∷ []) are from gives =
      let first : slice_get (take n d.facts) i ≡ Some (Edge y' p w) = cc in
      let second : slice_get (take n d.facts) j ≡ Some (Edge w' q z) = cc in
      let g_is : Edge u g v ≡ Edge y' c z = from.3 in
      let y_is : y ≡ u = gives.2 in
      let starts : y ≡ y' = cc in
      let ends : v ≡ z = cc in
      let h_is : h ≡ Edge x t v = gives.3 in
      let given : Edge x t z ≡ h = cc in
      subst (Contains d.facts) given (∥∥₁_elim joined (there_once d.facts s.distinct (Edge x t z)) (λ j'. by_two n r a b t j' joins x y w w' z y' o p q i j there gives.0 first from.0 starts second from.1 from.2))

  by_chain : (n : ℕ) (form : Form) (a b c : PropId2) → IsSparedBy k.forms a b form → ((m : ℕ) → m < n → Joins m) → (f g h : Fact) → Contains d.facts f
      → (places : List ℕ) (older : List Fact) → map (slice_get (take n d.facts)) places ≡ map Some older → Concludes k (N6 a b c) older g ⊎ IsOfNothing g
      → FromTwo k form f g h → Contains d.facts h
  by_chain n (N6 r e t) a b c spared joins f g h there places older are (inl from) gives = by_older n r e t a b c spared joins f g h there places older are from gives
  by_chain n (N6 r e t) a b c spared joins f g h there places older are (inr of) gives = absurd (second_is_edge k r e t f g h of gives)
  by_chain n (N1 _ _) a b c spared joins f g h there places older are from gives = absurd spared
  by_chain n (N2 _ _ _) a b c spared joins f g h there places older are from gives = absurd spared
  by_chain n (N3 _ _ _) a b c spared joins f g h there places older are from gives = absurd spared
  by_chain n (N4 _ _ _) a b c spared joins f g h there places older are from gives = absurd spared
  by_chain n (N5 _ _) a b c spared joins f g h there places older are from gives = absurd spared
  by_chain n (N7 _) a b c spared joins f g h there places older are from gives = absurd spared
  by_chain n (N8 _ _) a b c spared joins f g h there places older are from gives = absurd spared
  by_chain n (N9 _ _ _) a b c spared joins f g h there places older are from gives = absurd spared
  by_chain n (N10 _ _) a b c spared joins f g h there places older are from gives = absurd spared
  by_chain n (N12 _ _ _) a b c spared joins f g h there places older are from gives = absurd spared

  redundant_is_there : (n : ℕ) → ((m : ℕ) → m < n → Joins m) → (f g : Fact) (c : ℕ) (o : Option ℕ) (h : Fact) → Contains d.facts f → slice_get d.facts n ≡ Some g → Gives k c o (f ∷ g ∷ []) h → AreRedundant k d (f ∷ g ∷ []) o h → Contains d.facts h
  redundant_is_there n joins f g c None h there at gives w = absurd w
  redundant_is_there n joins _ _ _ (Some _) _ there at (apart l a b x are) w = apart_is_there s a b x (Some l) (inr w)
  redundant_is_there n joins f g _ (Some _) h there at (loop x i form is l c) w = absurd c
  redundant_is_there n joins f g _ (Some _) h there at (by_form i form is gives) w =
      let given = w.2.given in
      let place_is : given.place ≡ n = s.distinct given.place n g given.there at in
      let b = s.born given.place g given.birth given.there given.born in
      by_chain given.place w.0 w.2.first w.2.second w.2.whole w.2.spared (λ m l. joins m (omega (arith, place_is, l))) f g h there given.birth.older b.0 b.1
      (by_chain_form w.2.first w.2.second w.2.whole b.2 given.by given.is) (subst (λ (x : Form). FromTwo k x f g h) (one_value _ form w.0 is w.1) gives)

  joined : (bound n : ℕ) → n < bound → Joins n
  joined zero n l = absurd (omega arith)
  joined (suc bound) n l = λ f g c o h there at gives. ⊎_elim
      (λ drawn. drawn)
      (λ redundant. redundant_is_there n (λ m low. joined bound m (omega (arith, low, l))) f g c o h there at gives redundant)
      (complete f g there (Contains-from_slice_get d.facts n g at) c o h gives)

  pub all_joined : (f g : Fact) → Contains d.facts f → Contains d.facts g → Drawn k (f ∷ g ∷ []) d.facts
  all_joined f g there c condition form h gives =
      let at = slice_get-from_Contains d.facts g c in
      joined (suc at.0) at.0 (omega arith) f g condition form h there at.1 gives
