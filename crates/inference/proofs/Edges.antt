-- The property of an edge is one that a form puts there.
use Rattle.std.proofs.Common.{◌≡◌, ℕ, zero, suc, ◌+◌, ◌<◌, List, [], ◌∷◌, map, take, slice_get, Some, Option, refl, ap, ◌∙◌, subst, arith}
use Rattle.std.proofs.lemmas.Option.{none-some, same_Some, slice_get_within}
use Rattle.normal_forms.specs.declared.forms.Class2.{Class2}
use Rattle.normal_forms.specs.declared.forms.PropId2.{PropId2}
use Rattle.normal_forms.specs.declared.forms.Form.{Form}
use Rattle.normal_forms.specs.declared.forms.Form.TheVariants.{N1, N2, N3, N4, N5, N6, N7, N8, N9, N10, N12}
use Rattle.facts.specs.declared.contexts.Context.{Context}
use Rattle.facts.specs.declared.contexts.Context.TheVariants.{Individual}
use Rattle.facts.specs.declared.contexts.Fact.{Fact}
use Rattle.facts.specs.declared.contexts.Fact.TheVariants.{In, Edge}
use Rattle.facts.specs.Closure.{Problem, FromNone, FromOne, FromTwo, Concludes, Carries, CarriesBack, HandsOn, class, source, target, IsLoop, Gives, in_thing, in_itself, by_form, unsatisfiable, loop, handed_on, different, apart}
use Rattle.property_closure.specs.PropertyClosures.{Known, Has}
use Rattle.inference.specs.PropertyClosures.{PutsOnEdges, IsClosureOf}
use Rattle.inference.specs.Derivations.{Derived, IsDerived}
use Rattle.inference.specs.Completeness.{AreAt}
use Rattle.inference.specs.Visits.{chained_properties, filled_property, HasProperty, IsBy}
use Rattle.inference.proofs.Lists.{Contains-from_slice_get, slice_get_there, slice_get_take}

-- the property of the fact, where it is an edge, is one that the form puts there
abbrev pub IsPutBy : Form → Fact → Type 0
IsPutBy form (In a x) = Unit {0}
IsPutBy form (Edge x r y) = PutsOnEdges form r

none : (form : Form) (f : Fact) → FromNone form f → IsPutBy form f
none (N8 i a) (In _ _) w = tt
none (N8 i a) (Edge x r y) w = absurd (cc)
none (N9 i r j) (In _ _) w = tt
none (N9 i r j) (Edge x p y) w = cc
none (N10 _ _) f w = absurd w
none (N12 _ _ _) f w = absurd w
none (N1 _ _) f w = absurd w
none (N2 _ _ _) f w = absurd w
none (N3 _ _ _) f w = absurd w
none (N4 _ _ _) f w = absurd w
none (N5 _ _) f w = absurd w
none (N6 _ _ _) f w = absurd w
none (N7 _) f w = absurd w

one : (k : Problem) (form : Form) (g f : Fact) → FromOne k form g f → IsPutBy form f
one k (N1 a b) (In c x) (In _ _) w = tt
one k (N1 a b) (In c x) (Edge y p z) w = let e = w.1 in absurd (cc)
one k (N1 a b) (Edge _ _ _) f w = absurd w
one k (N3 a r b) (In c x) (In _ _) w = tt
one k (N3 a r b) (In c x) (Edge y p z) w = let e = w.1 in cc
one k (N3 a r b) (Edge _ _ _) f w = absurd w
one k (N2 _ _ _) g f w = absurd w
one k (N4 _ _ _) g f w = absurd w
one k (N5 _ _) g f w = absurd w
one k (N6 _ _ _) g f w = absurd w
one k (N7 _) g f w = absurd w
one k (N8 _ _) g f w = absurd w
one k (N9 _ _ _) g f w = absurd w
one k (N10 _ _) g f w = absurd w
one k (N12 a r b) (Edge x q y) (In _ _) w = tt
one k (N12 a r b) (Edge x q y) (Edge u p v) w = let e = w.3 in absurd (cc)
one k (N12 a r b) (In _ _) f w = absurd w

two : (k : Problem) (form : Form) (g h f : Fact) → FromTwo k form g h f → IsPutBy form f
two k (N2 a b c) (In d x) (In e y) (In _ _) w = tt
two k (N2 a b c) (In d x) (In e y) (Edge u p v) w = let e = w.3 in absurd (cc)
two k (N2 a b c) (In d x) (Edge _ _ _) f w = absurd w
two k (N2 a b c) (Edge _ _ _) h f w = absurd w
two k (N4 r a b) (Edge x q y) (In c z) (In _ _) w = tt
two k (N4 r a b) (Edge x q y) (In c z) (Edge u p v) w = let e = w.3 in absurd (cc)
two k (N4 r a b) (Edge x q y) (Edge _ _ _) f w = absurd w
two k (N4 r a b) (In _ _) h f w = absurd w
two k (N6 r s t) (Edge x p y) (Edge z q v) (In _ _) w = tt
two k (N6 r s t) (Edge x p y) (Edge z q v) (Edge u o i) w = let e = w.3 in cc
two k (N6 r s t) (Edge x p y) (In _ _) f w = absurd w
two k (N6 r s t) (In _ _) h f w = absurd w
two k (N1 _ _) g h f w = absurd w
two k (N3 _ _ _) g h f w = absurd w
two k (N5 _ _) g h f w = absurd w
two k (N7 _) g h f w = absurd w
two k (N8 _ _) g h f w = absurd w
two k (N9 _ _ _) g h f w = absurd w
two k (N10 _ _) g h f w = absurd w
two k (N12 _ _ _) g h f w = absurd w

concludes : (k : Problem) (form : Form) (older : List Fact) (f : Fact) → Concludes k form older f → IsPutBy form f
concludes k form [] f w = none form f w
concludes k form (g ∷ []) f w = one k form g f w
concludes k form (g ∷ h ∷ []) f w = two k form g h f w
concludes k form (g ∷ h ∷ i ∷ more) f w = absurd w

carries : (g h f : Fact) → Carries g h f → (x : Context) (r : PropId2) (y : Context) → f ≡ Edge x r y → ⊥
carries (Edge u q v) (In c z) f w x r y e = let d = w.2 in cc
carries (Edge u q v) (Edge _ _ _) f w x r y e = w
carries (In _ _) h f w x r y e = w

back : (older : List Fact) (f : Fact) → CarriesBack older f → (x : Context) (r : PropId2) (y : Context) → f ≡ Edge x r y → ⊥
back [] f w x r y e = w
back (g ∷ []) f w x r y e = w
back (g ∷ h ∷ []) f w x r y e = carries g h f w x r y e
back (g ∷ h ∷ i ∷ more) f w x r y e = w

loops : (z : Context) (form : Form) (f : Fact) → IsLoop z form f → IsPutBy form f
loops z (N7 r) (In _ _) w = tt
loops z (N7 r) (Edge x p y) w = cc
loops z (N1 _ _) f w = absurd w
loops z (N2 _ _ _) f w = absurd w
loops z (N3 _ _ _) f w = absurd w
loops z (N4 _ _ _) f w = absurd w
loops z (N5 _ _) f w = absurd w
loops z (N6 _ _ _) f w = absurd w
loops z (N8 _ _) f w = absurd w
loops z (N9 _ _ _) f w = absurd w
loops z (N10 _ _) f w = absurd w
loops z (N12 _ _ _) f w = absurd w

-- what is handed on keeps its property
hands : {form : Form} {g f : Fact} → HandsOn form g f → (x : Context) (r : PropId2) (y : Context) → f ≡ Edge x r y → (u v : Context) × (g ≡ Edge u r v)
hands (class link) x r y e = absurd (cc)
hands (source {i = i} {r = p} {y = v} link) x r y e = let same : p ≡ r = cc in (Individual i, v, ap (λ (q : PropId2). Edge (Individual i) q v) same)
hands (target {i = i} {r = p} {x = u} link) x r y e = let same : p ≡ r = cc in (u, Individual i, ap (λ (q : PropId2). Edge u q (Individual i)) same)

-- the place of a fact that alone is older
one_older : (facts : List Fact) (n : ℕ) (numbers : List ℕ) (g : Fact) → map (slice_get (take n facts)) numbers ≡ Some g ∷ [] → (m : ℕ) × (m < n) × (slice_get facts m ≡ Some g)
one_older facts n [] g e = absurd (cc)
one_older facts n (m ∷ ms) g e = let at : slice_get (take n facts) m ≡ Some g = cc in let w = slice_get_take n facts m g at in (m, w.0, w.1)

module _ (k : Problem) {closure : Known} (closed : IsClosureOf k.forms closure) where
  at_edge : (n : ℕ) (form : Form) (f : Fact) → slice_get k.forms n ≡ Some form → IsPutBy form f → (x : Context) (r : PropId2) (y : Context) → f ≡ Edge x r y → Has closure r
  at_edge n form (In _ _) at put x r y e = absurd (cc)
  at_edge n form (Edge u p v) at put x r y e =
      let same : p ≡ r = cc in
      subst (Has closure) same (closed.has form (Contains-from_slice_get k.forms n form at) p put)

  given : {c : ℕ} {o : Option ℕ} {older : List Fact} {f : Fact} → Gives k c o older f
      → ((g : Fact) → older ≡ g ∷ [] → (x : Context) (r : PropId2) (y : Context) → g ≡ Edge x r y → Has closure r) → (x : Context) (r : PropId2) (y : Context) → f ≡ Edge x r y → Has closure r
  given (in_thing c) before x r y e = absurd (cc)
  given (in_itself c) before x r y e = absurd (cc)
  given {older = older} {f = f} (by_form n form at gives) before x r y e = at_edge n form f at (concludes k form older f gives) x r y e
  given {older = older} {f = f} (unsatisfiable b) before x r y e = absurd (back older f b x r y e)
  given {f = f} (loop z n form at l c) before x r y e = at_edge n form f at (loops z form f l) x r y e
  given (handed_on {g = g} n form at h) before x r y e = let w = hands h x r y e in before g refl w.0 r w.1 w.2
  given (different l a b at same) before x r y e = absurd (cc)
  given (apart l a b z w) before x r y e = absurd (cc)

  edge_below : {d : Derived} → IsDerived k d → (bound n : ℕ) (f : Fact) → n < bound → slice_get d.facts n ≡ Some f → (x : Context) (r : PropId2) (y : Context) → f ≡ Edge x r y → Has closure r
  edge_below {d} s zero n f low at x r y e = absurd (omega arith)
  edge_below {d} s (suc bound) n f low at x r y e =
      let q = slice_get_there d.births n (omega (arith, s.long, slice_get_within d.facts n f at)) in
      let b = s.born n f q.0 at q.1 in
      given b.2
      (λ g is u p v h. (let w = one_older d.facts n q.0.older g (b.1 ∙ ap (map Some) is) in
      edge_below s bound w.0 g (omega (arith, w.1, low)) w.2 u p v h))
      x r y e

  pub first_edge : {d : Derived} → IsDerived k d → (n : ℕ) (f : Fact) → slice_get d.facts n ≡ Some f → (x : Context) (r : PropId2) (y : Context) → f ≡ Edge x r y → Has closure r
  first_edge s n f at x r y e = edge_below s (n + 1) n f (omega arith) at x r y e

  -- so the properties of two edges are there
  pub edges_have : {d : Derived} → IsDerived k d → (numbers : List ℕ) (older : List Fact) (p q : PropId2) → AreAt d.facts numbers older → chained_properties older ≡ Some (p, q) → Has closure p × Has closure q
  edges_have {d} s numbers [] p q at e = absurd (none-some _ e)
  edges_have {d} s numbers (f ∷ []) p q at e = absurd (none-some _ e)
  edges_have {d} s numbers (f ∷ g ∷ h ∷ more) p q at e = absurd (none-some _ e)
  edges_have {d} s numbers (In _ _ ∷ g ∷ []) p q at e = absurd (none-some _ e)
  edges_have {d} s numbers (Edge _ _ _ ∷ In _ _ ∷ []) p q at e = absurd (none-some _ e)
  edges_have {d} s [] (Edge x r y ∷ Edge _ _ _ ∷ []) p q at e = absurd (cc)
  edges_have {d} s (n ∷ []) (Edge x r y ∷ Edge _ _ _ ∷ []) p q at e = absurd (cc)
  edges_have {d} s (n ∷ m ∷ ns) (Edge x r y ∷ Edge z o v ∷ []) p q at e =
      let here : slice_get d.facts n ≡ Some (Edge x r y) = cc in
      let behind : slice_get d.facts m ≡ Some (Edge z o v) = cc in
      let same = same_Some _ _ e in (
        subst (Has closure) (ap (λ (pair : PropId2 × PropId2). pair.0) same) (first_edge s n (Edge x r y) here x r y refl),
        subst (Has closure) (ap (λ (pair : PropId2 × PropId2). pair.1) same) (first_edge s m (Edge z o v) behind z o v refl),
      )

  -- and so is that of an edge before a class
  pub filled_has : {d : Derived} → IsDerived k d → (numbers : List ℕ) (older : List Fact) (p : PropId2) (c : Class2) → AreAt d.facts numbers older → filled_property older ≡ Some (p, c) → Has closure p
  filled_has {d} s numbers [] p c at e = absurd (none-some _ e)
  filled_has {d} s numbers (f ∷ []) p c at e = absurd (none-some _ e)
  filled_has {d} s numbers (f ∷ g ∷ h ∷ more) p c at e = absurd (none-some _ e)
  filled_has {d} s numbers (In _ _ ∷ g ∷ []) p c at e = absurd (none-some _ e)
  filled_has {d} s numbers (Edge _ _ _ ∷ Edge _ _ _ ∷ []) p c at e = absurd (none-some _ e)
  filled_has {d} s [] (Edge x r y ∷ In _ _ ∷ []) p c at e = absurd (cc)
  filled_has {d} s (n ∷ ns) (Edge x r y ∷ In a z ∷ []) p c at e =
      let here : slice_get d.facts n ≡ Some (Edge x r y) = cc in
      subst (Has closure) (ap (λ (pair : PropId2 × Class2). pair.0) (same_Some _ _ e)) (first_edge s n (Edge x r y) here x r y refl)

-- the property of each edge is there
pub has_property : (k : Problem) {closure : Known} → IsClosureOf k.forms closure → {d : Derived} → IsDerived k d → (n : ℕ) (f : Fact) → slice_get d.facts n ≡ Some f → HasProperty closure f
has_property k closed s n (In a x) at = tt
has_property k closed s n (Edge x r y) at = first_edge k closed s n (Edge x r y) at x r y refl

pub property_there : (k : Problem) {closure : Known} → IsClosureOf k.forms closure → {d : Derived} → IsDerived k d → (n : ℕ) (f : Fact) (p : PropId2) → slice_get d.facts n ≡ Some f → IsBy p f → Has closure p
property_there k closed s n (In a x) p at by = absurd by
property_there k {closure = closure} closed s n (Edge x r y) p at by = subst (Has closure) by (first_edge k closed s n (Edge x r y) at x r y refl)
