-- One or two older facts by their numbers: that they are there, to which properties they are lifted, and what shows them.
use Rattle.std.proofs.Common.{◌≡◌, ℕ, ◌<◌, List, [], ◌∷◌, ◌++◌, length, map, slice_get, Option, Some, Contains, sym, ap, ap₂, ◌∙◌, subst}
use Rattle.lemmas.proofs.Members.{Contains-first, Contains-later}
use Rattle.lemmas.proofs.Places.{slice_get_there}
use Rattle.certificate.specs.Certificate.{Line}
use Rattle.closure.specs.Denotations.{Prefixes}
use Rattle.explain.proofs.Births.{same_each}
use Rattle.explain.proofs.Conclusions.{showing_two}
use Rattle.explain.specs.Premises.{AreShowingEach, LiftTo, LiftsTo, first_property, second_property, lifted_to, taken}
use Rattle.explain.specs.LinesOfFacts.{AreShowing}
use Rattle.facts.specs.Births.{numbers_of}
use Rattle.facts.specs.declared.births.FactId.{FactId}
use Rattle.facts.specs.declared.births.Older.{Older}
use Rattle.facts.specs.declared.births.Older.TheVariants.{One, Two}
use Rattle.facts.specs.declared.contexts.Fact.{Fact}
use Rattle.normal_forms.specs.declared.forms.Form.{Form}
use Rattle.normal_forms.specs.declared.forms.PropId2.{PropId2}

pub only_number : (older : Older) (m : FactId) → older ≡ One m → Contains (numbers_of older) m.0
only_number older m e = subst (λ o. Contains (numbers_of o) m.0) (sym e) (Contains-first m.0 [])

pub first_number : (older : Older) (m n : FactId) → older ≡ Two m n → Contains (numbers_of older) m.0
first_number older m n e = subst (λ o. Contains (numbers_of o) m.0) (sym e) (Contains-first m.0 (n.0 ∷ []))

pub second_number : (older : Older) (m n : FactId) → older ≡ Two m n → Contains (numbers_of older) n.0
second_number older m n e = subst (λ o. Contains (numbers_of o) n.0) (sym e) (Contains-later m.0 n.0 (n.0 ∷ []) (Contains-first n.0 []))

one_at : (facts : List Fact) (older : Older) (m : FactId) (f : Fact) → older ≡ One m → slice_get facts m.0 ≡ Some f → map (slice_get facts) (numbers_of older) ≡ map Some (f ∷ [])
one_at facts older m f e there = ap (λ o. map (slice_get facts) (numbers_of o)) e ∙ ap (λ z. z ∷ []) there

two_at : (facts : List Fact) (older : Older) (m n : FactId) (f g : Fact) → older ≡ Two m n → slice_get facts m.0 ≡ Some f → slice_get facts n.0 ≡ Some g → map (slice_get facts) (numbers_of older) ≡ map Some (f ∷ g ∷ [])
two_at facts older m n f g e there also = ap (λ o. map (slice_get facts) (numbers_of o)) e ∙ ap₂ (λ z w. z ∷ w ∷ []) there also

module _ (facts : List Fact) (forms : List Form) (form : Form) (older : Older) (below : (fs : List Fact) → map (slice_get facts) (numbers_of older) ≡ map Some fs → LiftTo forms form fs) where
  pub only_leads : (m : FactId) (p : Option PropId2) (f : Fact) → older ≡ One m → p ≡ first_property form → slice_get facts m.0 ≡ Some f → LiftsTo forms p f
  only_leads m p f e is there = subst (λ q. LiftsTo forms q f) (sym is) (below (f ∷ []) (one_at facts older m f e there))

  pub first_leads : (m n : FactId) (p : Option PropId2) (f : Fact) → older ≡ Two m n → p ≡ first_property form → n.0 < length facts → slice_get facts m.0 ≡ Some f → LiftsTo forms p f
  first_leads m n p f e is within there =
      let (g, also) = slice_get_there facts n.0 within in
      subst (λ q. LiftsTo forms q f) (sym is) (below (f ∷ g ∷ []) (two_at facts older m n f g e there also)).0

  pub second_leads : (m n : FactId) (p : Option PropId2) (g : Fact) → older ≡ Two m n → p ≡ second_property form → m.0 < length facts → slice_get facts n.0 ≡ Some g → LiftsTo forms p g
  second_leads m n p g e is within also =
      let (f, there) = slice_get_there facts m.0 within in
      subst (λ q. LiftsTo forms q g) (sym is) (below (f ∷ g ∷ []) (two_at facts older m n f g e there also)).1

module _ (b : Prefixes) (lines : List Line) (facts : List Fact) (form : Form) (older : Older) where
  pub two_taken : (m n : FactId) (p q : Option PropId2) (first second numbers : List ℕ) → older ≡ Two m n → p ≡ first_property form → q ≡ second_property form → m.0 < length facts → n.0 < length facts → numbers ≡ first ++ second
      → ((f : Fact) → slice_get facts m.0 ≡ Some f → AreShowing b lines first (lifted_to p f)) → ((g : Fact) → slice_get facts n.0 ≡ Some g → AreShowing b lines second (lifted_to q g))
      → (fs : List Fact) → map (slice_get facts) (numbers_of older) ≡ map Some fs → AreShowingEach b lines numbers (taken form fs)
  two_taken m n p q first second numbers e is_p is_q within_m within_n is shown also fs at =
      let (f, at_m) = slice_get_there facts m.0 within_m in
      let (g, at_n) = slice_get_there facts n.0 within_n in
      let same : f ∷ g ∷ [] ≡ fs = same_each (f ∷ g ∷ []) fs (sym (two_at facts older m n f g e at_m at_n) ∙ at) in
      subst (λ gs. AreShowingEach b lines numbers (taken form gs)) same
      (subst (λ ns. AreShowingEach b lines ns (taken form (f ∷ g ∷ []))) (sym is)
      (showing_two (subst (λ r. AreShowing b lines first (lifted_to r f)) is_p (shown f at_m)) (subst (λ r. AreShowing b lines second (lifted_to r g)) is_q (also g at_n))))
