-- What is redundant of what two facts give, and that it stays so.
use Rattle.std.proofs.Common.{◌≡◌, inl, inr, ⊎_elim, ℕ, List, [], ◌∷◌, ◌++◌, Some, None, Option, ap, refl, slice_get, ◌∙◌}
use Rattle.std.proofs.Math.Logic.{∥∥₁_map}
use Rattle.std.proofs.lemmas.List.Elements.{Contains-append_left}
use Rattle.normal_forms.specs.declared.forms.Form.{Form}
use Rattle.normal_forms.specs.declared.forms.Form.TheVariants.{N1, N2, N3, N4, N5, N6, N7, N8, N9, N10, N12}
use Rattle.normal_forms.specs.declared.forms.PropId2.{PropId2}
use Rattle.normal_forms.specs.declared.forms.PropId2.TheVariants.{Property}
use Rattle.normal_forms.specs.Properties.{IsAtOrBelow, same, step}
use Rattle.facts.specs.declared.contexts.Context.{Context}
use Rattle.facts.specs.declared.contexts.Fact.{Fact}
use Rattle.facts.specs.declared.contexts.Fact.TheVariants.{In, Edge}
use Rattle.facts.specs.Closure.{Problem, FromTwo, Carries, in_thing, in_itself, by_form, unsatisfiable, loop}
use Rattle.indexes.specs.Keys.{property_key, by_end}
use Rattle.inference.specs.Derivations.{Derived, Grows}
use Rattle.inference.specs.Visits.{NoneNeedsWhole, NoneUnder}
use Rattle.inference.specs.Completeness.{AreJoined, Drawn, DrawnUpToRedundancy, AreRedundant, IsGivenBy, IsJoined, IsRedundantAsSecond, IsRedundantFor}
use Rattle.inference.proofs.Growth.{there_still}
use Rattle.inference.proofs.Lists.{Contains-from_slice_get}
use Rattle.inference.proofs.Owing.{owed_still}

-- all is drawn
pub all_drawn : (k : Problem) (older : List Fact) (d : Derived) → Drawn k older d.facts → DrawnUpToRedundancy k older d
all_drawn k older d drawn condition form f gives = inl (drawn condition form f gives)

-- ---- what is redundant stays so

given_still : {k : Problem} {most : ℕ} {a b : Derived} → Grows k most a b → (chain : Form) (f : Fact) → IsGivenBy k a chain f → IsGivenBy k b chain f
given_still s chain f w = record {
  form = w.form;
  is = w.is;
  place = w.place;
  there = s.facts w.place f w.there;
  birth = w.birth;
  born = s.births w.place w.birth w.born;
  by = w.by;
}

pub redundant_still : {k : Problem} {most : ℕ} {a b : Derived} → Grows k most a b → (older : List Fact) (form : Option ℕ) (h : Fact) → AreRedundant k a older form h → AreRedundant k b older form h
redundant_still s [] form h w = owed_still s h w
redundant_still s (f ∷ []) form h w = owed_still s h w
redundant_still s (f ∷ g ∷ []) None h w = w
redundant_still s (f ∷ g ∷ []) (Some n) h w = (w.0, w.1, record { first = w.2.first; second = w.2.second; whole = w.2.whole; given = given_still s (N6 w.2.first w.2.second w.2.whole) g w.2.given; spared = w.2.spared })
redundant_still s (f ∷ g ∷ h ∷ more) form _ w = w

pub up_to_redundancy_still : {k : Problem} {most : ℕ} {a b : Derived} → Grows k most a b → (older : List Fact) → DrawnUpToRedundancy k older a → DrawnUpToRedundancy k older b
up_to_redundancy_still s older drawn condition form f gives = ⊎_elim (λ c. inl (there_still s f c)) (λ w. inr (redundant_still s older form f w)) (drawn condition form f gives)

pub second_still : {k : Problem} {most : ℕ} {a b : Derived} → Grows k most a b → (g : Fact) → IsRedundantAsSecond k a g → IsRedundantAsSecond k b g
second_still s g redundant f h condition form gives = redundant_still s (f ∷ g ∷ []) form h (redundant f h condition form gives)

-- what a fact gives as the second premise is redundant, where it need not be one
pub all_redundant : (k : Problem) (f g : Fact) (d : Derived) → IsRedundantAsSecond k d g → DrawnUpToRedundancy k (f ∷ g ∷ []) d
all_redundant k f g d redundant condition form h gives = inr (redundant f h condition form gives)

-- ---- an edge that no chain needs as its second premise need not be a second premise

-- a form that gives something from two facts, of which the second is an edge, is a chain that ends with a property at or above that of the edge
abbrev EndsAt : Problem → Form → PropId2 → Type 0
EndsAt k form q = (r s t : PropId2) × (form ≡ N6 r s t) × IsAtOrBelow k.forms q s

ends : (k : Problem) (form : Form) (f h : Fact) (z : Context) (q : PropId2) (v : Context) → FromTwo k form f (Edge z q v) h → EndsAt k form q
ends k (N1 _ _) f h z q v w = absurd w
ends k (N2 _ _ _) (In _ _) h z q v w = absurd w
ends k (N2 _ _ _) (Edge _ _ _) h z q v w = absurd w
ends k (N3 _ _ _) f h z q v w = absurd w
ends k (N4 _ _ _) (Edge _ _ _) h z q v w = absurd w
ends k (N4 _ _ _) (In _ _) h z q v w = absurd w
ends k (N5 _ _) f h z q v w = absurd w
ends k (N6 r s t) (Edge x p y) h z q v w = (r, s, t, refl, w.1)
ends k (N6 r s t) (In _ _) h z q v w = absurd w
ends k (N7 _) f h z q v w = absurd w
ends k (N8 _ _) f h z q v w = absurd w
ends k (N9 _ _ _) f h z q v w = absurd w
ends k (N10 _ _) f h z q v w = absurd w
ends k (N12 _ _ _) f h z q v w = absurd w

not_carried : (f h : Fact) (z : Context) (q : PropId2) (v : Context) → Carries f (Edge z q v) h → ⊥
not_carried (In _ _) h z q v w = w
not_carried (Edge _ _ _) h z q v w = w

-- each chain that may take the edge as its second premise is told of
redundant : (k : Problem) (d : Derived) (z : Context) (q : PropId2) (v : Context)
    → ((n : ℕ) (r s t : PropId2) → slice_get k.forms n ≡ Some (N6 r s t) → IsAtOrBelow k.forms q s → IsRedundantFor k d (N6 r s t) (Edge z q v)) → IsRedundantAsSecond k d (Edge z q v)
redundant k d z q v each f _ _ _ (in_thing c) = absurd c
redundant k d z q v each f _ _ _ (in_itself c) = absurd c
redundant k d z q v each f h _ _ (by_form m form at gives) =
    let e = ends k form f h z q v gives in
    let is : slice_get k.forms m ≡ Some (N6 e.0 e.1 e.2) = at ∙ ap Some e.3 in
    (N6 e.0 e.1 e.2, is, each m e.0 e.1 e.2 is e.4)
redundant k d z q v each f h _ _ (unsatisfiable b) = absurd (not_carried f h z q v b)
redundant k d z q v each f _ _ _ (loop u m form at l c) = absurd c

-- where none ends with its property, or with one above it
pub unneeded_edge : (k : Problem) (d : Derived) (z : Context) (q : PropId2) (v : Context) → ((s : PropId2) → IsAtOrBelow k.forms q s → NoneUnder by_end k.forms (property_key s)) → IsRedundantAsSecond k d (Edge z q v)
unneeded_edge k d z q v none = redundant k d z q v (λ n r s t at low. absurd (none s low n (N6 r s t, at, refl)))

-- and where a chain gave it of which none needs what it gives
pub spared_edge : (k : Problem) (d : Derived) (a b : PropId2) (z : Context) (q : PropId2) (v : Context) → IsGivenBy k d (N6 a b q) (Edge z q v) → NoneNeedsWhole k.forms a b q → IsRedundantAsSecond k d (Edge z q v)
spared_edge k d a b z q v given none = redundant k d z q v (λ n r s t at low. record { first = a; second = b; whole = q; given = given; spared = none s low n r t at })

-- ---- what chains join they join where there are more forms

pub below_still : (forms more : List Form) (p q : PropId2) → IsAtOrBelow forms p q → IsAtOrBelow (forms ++ more) p q
below_still forms more p _ same = same
below_still forms more p _ (step s t h there) = step s t (below_still forms more p (Property s) h) (Contains-append_left forms more (N5 s t) there)

joined_still : (forms more : List Form) (p q t : PropId2) → IsJoined forms p q t → IsJoined (forms ++ more) p q t
joined_still forms more p q t w = record {
  first = w.first;
  second = w.second;
  chain = Contains-append_left forms more (N6 w.first w.second t) w.chain;
  begins = below_still forms more p w.first w.begins;
  ends = below_still forms more q w.second w.ends;
}

pub all_joined_still : (forms more : List Form) (p a b t : PropId2) → ∥ AreJoined forms p a b t ∥₁ → ∥ AreJoined (forms ++ more) p a b t ∥₁
all_joined_still forms more p a b t are = ∥∥₁_map are (λ w. record { middle = w.middle; front = joined_still forms more p a w.middle w.front; rest = joined_still forms more w.middle b t w.rest })

-- ---- a chain joins three edges the other way round as one of the two that do

pub joined_in_front : (forms : List Form) (n : ℕ) (r s t a b : PropId2) → slice_get forms n ≡ Some (N6 r s t) → IsAtOrBelow forms a s → IsJoined forms t b t → AreJoined forms r a b t
joined_in_front forms n r s t a b at low rest = record {
  middle = t;
  front = record { first = r; second = s; chain = Contains-from_slice_get forms n (N6 r s t) at; begins = same; ends = low };
  rest = rest;
}

pub joined_at_last : (forms : List Form) (n : ℕ) (r s t a b : PropId2) → slice_get forms n ≡ Some (N6 r s t) → IsAtOrBelow forms b s → IsJoined forms r a r → AreJoined forms r a b t
joined_at_last forms n r s t a b at low front = record {
  middle = r;
  front = front;
  rest = record { first = r; second = s; chain = Contains-from_slice_get forms n (N6 r s t) at; begins = same; ends = low };
}
