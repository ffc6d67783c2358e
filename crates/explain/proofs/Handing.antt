-- Which individual a form puts in the place of which, as the two facts tell.
use Rattle.std.proofs.Common.{◌≡◌, ◌⊎◌, ℕ, inl, inr, List, slice_get, Some, sym, ap, ap₂, ◌∙◌, subst}
use Rattle.axioms.specs.declared.ids.IndId.{IndId}
use Rattle.explain.specs.Exchanges.{HandsOnBy}
use Rattle.explain.specs.Search.{LinksBy}
use Rattle.facts.proofs.Sameness.{turned_link}
use Rattle.facts.specs.Closure.{HandsOn, Links}
use Rattle.facts.specs.declared.contexts.Context.{Context}
use Rattle.facts.specs.declared.contexts.Context.TheVariants.{Individual}
use Rattle.facts.specs.declared.contexts.Fact.{Fact}
use Rattle.facts.specs.declared.contexts.Fact.TheVariants.{In, Edge}
use Rattle.normal_forms.specs.declared.forms.Class2.{Class2}
use Rattle.normal_forms.specs.declared.forms.Form.{Form}
use Rattle.normal_forms.specs.declared.forms.PropId2.{PropId2}

-- the two individuals of a class
record HandsClass (form : Form) (c d : Class2) (x y : Context) : Type 0 where
  pub i : IndId
  pub j : IndId
  pub link : Links form i j
  pub x_is : x ≡ Individual i
  pub y_is : y ≡ Individual j
  pub same : c ≡ d

class_hands : {form : Form} {g f : Fact} → HandsOn form g f → (c d : Class2) (x y : Context) → g ≡ In c x → f ≡ In d y → HandsClass form c d x y
class_hands (HandsOn.class {i = i} {j = j} link) c d x y e h = record { i = i; j = j; link = link; x_is = cc; y_is = cc; same = cc }
class_hands (HandsOn.source link) c d x y e h = absurd cc
class_hands (HandsOn.target link) c d x y e h = absurd cc

-- the two individuals of an edge, at its source or at its target
record HandsSource (form : Form) (x z y w : Context) : Type 0 where
  pub i : IndId
  pub j : IndId
  pub link : Links form i j
  pub x_is : x ≡ Individual i
  pub z_is : z ≡ Individual j
  pub same : y ≡ w

edge_hands : {form : Form} {g f : Fact} → HandsOn form g f → (x y z w : Context) (r s : PropId2) → g ≡ Edge x r y → f ≡ Edge z s w → (HandsSource form x z y w ⊎ HandsSource form y w x z) × (r ≡ s)
edge_hands (HandsOn.class link) x y z w r s e h = absurd cc
edge_hands (HandsOn.source {i = i} {j = j} link) x y z w r s e h = (inl (record { i = i; j = j; link = link; x_is = cc; z_is = cc; same = cc }), cc)
edge_hands (HandsOn.target {i = i} {j = j} link) x y z w r s e h = (inr (record { i = i; j = j; link = link; x_is = cc; z_is = cc; same = cc }), cc)

one_individual : {x : Context} {i j : IndId} → x ≡ Individual i → x ≡ Individual j → i ≡ j
one_individual {x} {i} {j} e h = cc

linked : (forms : List Form) (n : ℕ) {form : Form} {i j old new : IndId} → slice_get forms n ≡ Some form → Links form i j → i ≡ old → j ≡ new → LinksBy forms n new old
linked forms n {form = form} {i = i} {j = j} {old = old} at link e h = (form, at, subst (λ k. Links form k old) h (subst (Links form j) e (turned_link form i j link)))

-- none stands for another, where both would be one
abbrev NoneStands : Context → Context → Type 0
NoneStands before now = (i j : IndId) → before ≡ Individual i → now ≡ Individual j → i ≡ j

module _ (forms : List Form) (n : ℕ) (g f : Fact) (hands : HandsOnBy forms n g f) (two : g ≡ f → ⊥) where
  module _ (c d : Class2) (x y : Context) (g_is : g ≡ In c x) (f_is : f ≡ In d y) where
    of_class : HandsClass hands.0 c d x y
    of_class = class_hands hands.2 c d x y g_is f_is

    pub class_stands : NoneStands x y → ⊥
    class_stands none =
        let h = of_class in
        two (g_is ∙ ap₂ In h.same (h.x_is ∙ ap Individual (none h.i h.j h.x_is h.y_is) ∙ sym h.y_is) ∙ sym f_is)

    pub class_linked : (old new : IndId) → x ≡ Individual old → y ≡ Individual new → LinksBy forms n new old
    class_linked old new e k = let h = of_class in linked forms n hands.1 h.link (one_individual h.x_is e) (one_individual h.y_is k)

    pub class_now : (new : IndId) → y ≡ Individual new → In c (Individual new) ≡ f
    class_now new k = ap₂ In of_class.same (sym k) ∙ sym f_is

  module _ (x y z w : Context) (r s : PropId2) (g_is : g ≡ Edge x r y) (f_is : f ≡ Edge z s w) where
    of_edge : (HandsSource hands.0 x z y w ⊎ HandsSource hands.0 y w x z) × (r ≡ s)
    of_edge = edge_hands hands.2 x y z w r s g_is f_is

    edges : x ≡ z → y ≡ w → ⊥
    edges e h = two (g_is ∙ ap₂ (λ u v. Edge u r v) e h ∙ ap (λ q. Edge z q w) of_edge.1 ∙ sym f_is)

    -- it is at its source, where another individual stands there
    at_source : (old new : IndId) → x ≡ Individual old → z ≡ Individual new → (old ≡ new → ⊥) → HandsSource hands.0 x z y w
    at_source old new e h apart = elim of_edge.0 [ inl k ↦ k | inr k ↦ absurd (apart (one_individual (sym k.same ∙ e) h)) ]

    pub source_linked : (old new : IndId) → x ≡ Individual old → z ≡ Individual new → (old ≡ new → ⊥) → LinksBy forms n new old
    source_linked old new e h apart = let k = at_source old new e h apart in linked forms n hands.1 k.link (one_individual k.x_is e) (one_individual k.z_is h)

    pub source_now : (old new : IndId) → x ≡ Individual old → z ≡ Individual new → (old ≡ new → ⊥) → Edge (Individual new) r y ≡ f
    source_now old new e h apart = let k = at_source old new e h apart in ap₂ (λ u v. Edge u r v) (sym h) k.same ∙ ap (λ q. Edge z q w) of_edge.1 ∙ sym f_is

    -- else it is at its target
    at_target : NoneStands x z → HandsSource hands.0 y w x z
    at_target none = elim of_edge.0 [ inl k ↦ absurd (edges (k.x_is ∙ ap Individual (none k.i k.j k.x_is k.z_is) ∙ sym k.z_is) k.same) | inr k ↦ k ]

    pub target_stands : NoneStands x z → NoneStands y w → ⊥
    target_stands none also =
        let k = at_target none in
        edges k.same (k.x_is ∙ ap Individual (also k.i k.j k.x_is k.z_is) ∙ sym k.z_is)

    pub target_linked : NoneStands x z → (old new : IndId) → y ≡ Individual old → w ≡ Individual new → LinksBy forms n new old
    target_linked none old new e h = let k = at_target none in linked forms n hands.1 k.link (one_individual k.x_is e) (one_individual k.z_is h)

    pub target_now : NoneStands x z → (new : IndId) → w ≡ Individual new → Edge x r (Individual new) ≡ f
    target_now none new h = let k = at_target none in ap₂ (λ u v. Edge u r v) k.same (sym h) ∙ ap (λ q. Edge z q w) of_edge.1 ∙ sym f_is
