-- Facts that give nothing with one another.
use Rattle.std.proofs.Common.{◌≡◌, ℕ, [], ◌∷◌, slice_get, Some, refl, sym, ap, subst}
use Rattle.normal_forms.specs.declared.forms.Form.{Form}
use Rattle.normal_forms.specs.declared.forms.Form.TheVariants.{N1, N2, N3, N4, N5, N6, N7, N8, N9, N10, N12}
use Rattle.normal_forms.specs.declared.forms.Class2.{Class2}
use Rattle.normal_forms.specs.declared.forms.PropId2.{PropId2}
use Rattle.normal_forms.specs.Properties.{IsAtOrBelow}
use Rattle.facts.specs.declared.contexts.Context.{Context}
use Rattle.facts.specs.declared.contexts.Fact.{Fact}
use Rattle.facts.specs.declared.contexts.Fact.TheVariants.{In, Edge}
use Rattle.facts.specs.Closure.{Problem, AreDisjointAt, FromTwo, Carries, in_thing, in_itself, by_form, unsatisfiable, loop, apart, nothing}
use Rattle.indexes.specs.Keys.{class_key, property_key, by_first, by_second, by_filler, by_chain}
use Rattle.inference.specs.Visits.{GiveNothing, NoneUnder, IsEdge, IsBy, IsNotCarried, IsOfClass, IsOfClasses}
use Rattle.inference.specs.Derivations.{Derived}
use Rattle.inference.specs.Completeness.{DrawnUpToRedundancy}

-- two facts give something by a form, or owl:Nothing is carried back, or a list of disjoint classes has the two that they put into a context
by_form_back_or_list : (k : Problem) (f g : Fact) → ((n : ℕ) (form : Form) (h : Fact) → slice_get k.forms n ≡ Some form → FromTwo k form f g h → ⊥) → ((h : Fact) → Carries f g h → ⊥)
    → ((l : ℕ) (a b : Class2) (x : Context) → AreDisjointAt k l a b → f ≡ In a x → g ≡ In b x → ⊥) → GiveNothing k f g
by_form_back_or_list k f g forms back lists _ _ h (in_thing c) = c
by_form_back_or_list k f g forms back lists _ _ h (in_itself c) = c
by_form_back_or_list k f g forms back lists _ _ h (by_form n form at gives) = forms n form h at gives
by_form_back_or_list k f g forms back lists _ _ h (unsatisfiable b) = back h b
by_form_back_or_list k f g forms back lists _ _ h (loop x n form at l c) = c
by_form_back_or_list k _ _ forms back lists _ _ _ (apart l a b x w) = lists l a b x w refl refl

-- an edge and another fact by a form, or owl:Nothing is carried back
pub by_form_or_back : (k : Problem) (f g : Fact) → IsEdge f → ((n : ℕ) (form : Form) (h : Fact) → slice_get k.forms n ≡ Some form → FromTwo k form f g h → ⊥) → ((h : Fact) → Carries f g h → ⊥) → GiveNothing k f g
by_form_or_back k f g is forms back = by_form_back_or_list k f g forms back (λ l a b x w e _. subst IsEdge e is)

-- two classes in contexts by an intersection, or by a list of disjoint classes
pub by_form_or_list : (k : Problem) (a b : Class2) (x y : Context) → ((n : ℕ) (form : Form) (h : Fact) → slice_get k.forms n ≡ Some form → FromTwo k form (In a x) (In b y) h → ⊥) → ((l : ℕ) → AreDisjointAt k l a b → ⊥)
    → GiveNothing k (In a x) (In b y)
by_form_or_list k a b x y forms lists = by_form_back_or_list k (In a x) (In b y) forms (λ h c. c)
    (λ l c d z w e f. lists l (subst (λ (p : Class2). AreDisjointAt k l p b) (sym (one_class a c x z e)) (subst (λ (q : Class2). AreDisjointAt k l c q) (sym (one_class b d y z f)) w)))
  where
    one_class : (p q : Class2) (u v : Context) → In p u ≡ In q v → p ≡ q
    one_class p q u v e = cc

-- a form that gives something from two classes in a context has them as operands
pub first_operand : (k : Problem) (form : Form) (a b : Class2) (x y : Context) (h : Fact) → FromTwo k form (In a x) (In b y) h → by_first form ≡ Some (class_key a)
first_operand k (N1 _ _) a b x y h w = absurd w
first_operand k (N2 _ _ _) a b x y h w = ap (λ d. Some (class_key d)) (sym w.0)
first_operand k (N3 _ _ _) a b x y h w = absurd w
first_operand k (N4 _ _ _) a b x y h w = absurd w
first_operand k (N5 _ _) a b x y h w = absurd w
first_operand k (N6 _ _ _) a b x y h w = absurd w
first_operand k (N7 _) a b x y h w = absurd w
first_operand k (N8 _ _) a b x y h w = absurd w
first_operand k (N9 _ _ _) a b x y h w = absurd w
first_operand k (N10 _ _) a b x y h w = absurd w
first_operand k (N12 _ _ _) a b x y h w = absurd w

pub second_operand : (k : Problem) (form : Form) (a b : Class2) (x y : Context) (h : Fact) → FromTwo k form (In a x) (In b y) h → by_second form ≡ Some (class_key b)
second_operand k (N1 _ _) a b x y h w = absurd w
second_operand k (N2 _ _ _) a b x y h w = ap (λ d. Some (class_key d)) (sym w.1)
second_operand k (N3 _ _ _) a b x y h w = absurd w
second_operand k (N4 _ _ _) a b x y h w = absurd w
second_operand k (N5 _ _) a b x y h w = absurd w
second_operand k (N6 _ _ _) a b x y h w = absurd w
second_operand k (N7 _) a b x y h w = absurd w
second_operand k (N8 _ _) a b x y h w = absurd w
second_operand k (N9 _ _ _) a b x y h w = absurd w
second_operand k (N10 _ _) a b x y h w = absurd w
second_operand k (N12 _ _ _) a b x y h w = absurd w

-- from an edge and a class at its target, the class as its filler
filler : (k : Problem) (form : Form) (x y z : Context) (r : PropId2) (c : Class2) (h : Fact) → FromTwo k form (Edge x r y) (In c z) h → by_filler form ≡ Some (class_key c)
filler k (N1 _ _) x y z r c h w = absurd w
filler k (N2 _ _ _) x y z r c h w = absurd w
filler k (N3 _ _ _) x y z r c h w = absurd w
filler k (N4 _ _ _) x y z r c h w = ap (λ d. Some (class_key d)) (sym w.1)
filler k (N5 _ _) x y z r c h w = absurd w
filler k (N6 _ _ _) x y z r c h w = absurd w
filler k (N7 _) x y z r c h w = absurd w
filler k (N8 _ _) x y z r c h w = absurd w
filler k (N9 _ _ _) x y z r c h w = absurd w
filler k (N10 _ _) x y z r c h w = absurd w
filler k (N12 _ _ _) x y z r c h w = absurd w

-- from two edges, a property at or above that of the first
pub prefix : (k : Problem) (form : Form) (x y z v : Context) (p q : PropId2) (h : Fact) → FromTwo k form (Edge x p y) (Edge z q v) h → (r : PropId2) × IsAtOrBelow k.forms p r × (by_chain form ≡ Some (property_key r))
prefix k (N1 _ _) x y z v p q h w = absurd w
prefix k (N2 _ _ _) x y z v p q h w = absurd w
prefix k (N3 _ _ _) x y z v p q h w = absurd w
prefix k (N4 _ _ _) x y z v p q h w = absurd w
prefix k (N5 _ _) x y z v p q h w = absurd w
prefix k (N6 r s t) x y z v p q h w = (r, w.0, refl)
prefix k (N7 _) x y z v p q h w = absurd w
prefix k (N8 _ _) x y z v p q h w = absurd w
prefix k (N9 _ _ _) x y z v p q h w = absurd w
prefix k (N10 _ _) x y z v p q h w = absurd w
prefix k (N12 _ _ _) x y z v p q h w = absurd w

-- ---- pairs of facts that give nothing

pub no_classes : (k : Problem) (a b : Class2) (x y : Context) → ((n : ℕ) → IsOfClasses k.forms a b n → ⊥) → ((l : ℕ) → AreDisjointAt k l a b → ⊥) → GiveNothing k (In a x) (In b y)
no_classes k a b x y none lists = by_form_or_list k a b x y (λ n form h at w. none n ((form, at, first_operand k form a b x y h w), (form, at, second_operand k form a b x y h w))) lists

-- a class that is in no list with the other, and begins or ends no intersection with it
pub no_class_before : (k : Problem) (a b : Class2) (y : Context) (f : Fact) → IsOfClass a f → ((n : ℕ) → IsOfClasses k.forms a b n → ⊥) → ((l : ℕ) → AreDisjointAt k l a b → ⊥) → GiveNothing k f (In b y)
no_class_before k a b y (In c x) of none lists = rw (of) (no_classes k a b x y none lists)
no_class_before k a b y (Edge x r z) of none lists = absurd of

pub no_class_behind : (k : Problem) (a b : Class2) (y : Context) (f : Fact) → IsOfClass a f → ((n : ℕ) → IsOfClasses k.forms b a n → ⊥) → ((l : ℕ) → AreDisjointAt k l b a → ⊥) → GiveNothing k (In b y) f
no_class_behind k a b y (In c x) of none lists = rw (of) (no_classes k b a y x none lists)
no_class_behind k a b y (Edge x r z) of none lists = absurd of

no_filler : (k : Problem) (x y z : Context) (r : PropId2) (c : Class2) → (c ≡ nothing → ⊥) → NoneUnder by_filler k.forms (class_key c) → GiveNothing k (Edge x r y) (In c z)
no_filler k x y z r c other none = by_form_or_back k (Edge x r y) (In c z) tt (λ n form h at w. none n (form, at, filler k form x y z r c h w)) (λ h b. other b.0)

no_chain : (k : Problem) (x y z v : Context) (p q : PropId2) → ((r : PropId2) → IsAtOrBelow k.forms p r → NoneUnder by_chain k.forms (property_key r)) → GiveNothing k (Edge x p y) (Edge z q v)
no_chain k x y z v p q none = by_form_or_back k (Edge x p y) (Edge z q v) tt (λ n form h at w. let b = prefix k form x y z v p q h w in none b.0 b.1 n (form, at, b.2)) (λ h b. b)

pub uncarried : (k : Problem) (c : Class2) (z : Context) → (c ≡ nothing → ⊥) → NoneUnder by_filler k.forms (class_key c) → IsNotCarried k (In c z)
uncarried k c z other none (In b y) is = absurd is
uncarried k c z other none (Edge x r y) is = no_filler k x y z r c other none

-- ---- so nothing is missing

pub nothing_missing : (k : Problem) (f g : Fact) (facts : Derived) → GiveNothing k f g → DrawnUpToRedundancy k (f ∷ g ∷ []) facts
nothing_missing k f g facts none condition form h gives = absurd (none condition form h gives)

-- nothing is carried for a class along an edge
pub not_carried : (k : Problem) (c : Class2) (z : Context) (g : Fact) (facts : Derived) → (c ≡ nothing → ⊥) → NoneUnder by_filler k.forms (class_key c) → IsEdge g → DrawnUpToRedundancy k (g ∷ In c z ∷ []) facts
not_carried k c z g facts other none is = nothing_missing k g (In c z) facts (uncarried k c z other none g is)

-- no chain begins with an edge
pub no_prefix : (k : Problem) (p : PropId2) (f g : Fact) (facts : Derived) → IsBy p f → ((r : PropId2) → IsAtOrBelow k.forms p r → NoneUnder by_chain k.forms (property_key r)) → IsEdge g → DrawnUpToRedundancy k (f ∷ g ∷ []) facts
no_prefix k p (In a x) g facts by none is = absurd by
no_prefix k p (Edge x r y) (In b z) facts by none is = absurd is
no_prefix k p (Edge x r y) (Edge z q v) facts by none is =
    nothing_missing k (Edge x r y) (Edge z q v) facts (no_chain k x y z v r q (subst (λ s. (t : PropId2) → IsAtOrBelow k.forms s t → NoneUnder by_chain k.forms (property_key t)) (sym by) none))
