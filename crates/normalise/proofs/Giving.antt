-- What single steps of the code give.
use Rattle.std.proofs.Common.{◌≡◌, ℕ, zero, suc, ◌+◌, ◌-◌, ◌<◌, ◌≤◌, ◌⊎◌, inl, inr, Bool, true, List, [], ◌∷◌, length, take, map, slice_get, Some, refl, sym, ap, ◌∙◌, subst, arith, add-one}
use Rattle.std.specs.Prelude.{◌↔◌, slice_index}
use Rattle.std.proofs.lemmas.Bool.Decides.{nat_tests}
use Rattle.std.proofs.lemmas.Bool.{cases_eq}
use Rattle.std.proofs.lemmas.Option.{none-some, same_Some, slice_get_within}
use Rattle.lemmas.proofs.Choices.{one_value}
use Rattle.lemmas.proofs.Places.{slice_get_push_cases}
use Rattle.axioms.specs.Growth.{Numbers}
use Rattle.axioms.specs.Ontology.{Axiom, Node, Class, And, Exists, SubProperty}
use Rattle.axioms.specs.WellFormedness.{AreDistinct}
use Rattle.axioms.specs.declared.ids.ExprId.{ExprId}
use Rattle.axioms.specs.declared.ids.PropId.{PropId}
use Rattle.normalise.specs.Lengths.{IsShorter}
use Rattle.normal_forms.specs.declared.forms.Class2 as code_class
use Rattle.normal_forms.specs.declared.forms.Class2.TheVariants as classes
use Rattle.normal_forms.specs.declared.forms.PropId2 as code_property
use Rattle.normal_forms.specs.declared.forms.PropId2.TheVariants as properties
use Rattle.normal_forms.specs.declared.forms.Form.TheVariants as forms
use Rattle.normal_forms.specs.declared.forms.Origin.{Origin}
use Rattle.normal_forms.specs.declared.forms.Origin.TheVariants as origins
use Rattle.normal_forms.specs.Forms.{Class2, Property2, Form, Whole, Prefix, Property, Steps, N1, N2, N3, N4, N5, N6, N10, N11, first_of, first_steps}
use Rattle.normal_forms.specs.Origins.{AndGives, AxiomGives, ChainGives, CircleGives, LeftGives, NextGives, PairGives, RightGives, disjoint, subsumed}
use Rattle.normalise.specs.declared.made.Made.{Made}
use Rattle.normalise.specs.View.{Lists, SaysClass, SaysProperty, Says, StartsClass, StartsProperty, class_number, property_number, Keeps, HasClass, HasProperty, Adds, IsOne, From}
use Rattle.normalise.specs.Steps.{BelowOperand, ChainStep, ExpressedAt, ExpressedBy, MoreOperands, MoreSteps, Names, OperandStep, SideGives, StatedAt, Within}
use Rattle.normalise.proofs.Adding.{lengthens_same, lengthens_numbered, numbered_there, says_class_more, says_property_more, adds_behind_names, adds_none, adds_same, adds_both, from_same}

-- a step that gives one form
pub from_one : {s t : Made} (p : Origin) (f : Form) (F : Form → Type 0) → F f → ((g : Form) → F g → g ≡ f) → Adds s t (IsOne p f) → Adds s t (From p F)
from_one p f F here only = from_same p (λ g. g ≡ f) F (λ g e. subst F (sym e) here) only

pub circle_adds : {s t : Made} (p : Origin) (make : ℕ → ℕ → Form) (cs : List ℕ) (many k m c d : ℕ) → length cs ≡ many → slice_get cs k ≡ Some c → slice_get cs m ≡ Some d → (m ≡ k + 1) ⊎ ((k + 1 ≡ many) × (m ≡ 0)) → Adds s t (IsOne p (make c d)) → Adds s t (From p (CircleGives make cs k))
circle_adds p make cs many k m c d long gc gd next = from_one p (make c d) (CircleGives make cs k) (c, d, gc, there next, refl) only
  where
    there : (m ≡ k + 1) ⊎ ((k + 1 ≡ many) × (m ≡ 0)) → (slice_get cs (k + 1) ≡ Some d) ⊎ ((k + 1 ≡ length cs) × (slice_get cs 0 ≡ Some d))
    there (inl e) = inl (subst (λ n. slice_get cs n ≡ Some d) e gd)
    there (inr (l, e)) = inr (l ∙ sym long, subst (λ n. slice_get cs n ≡ Some d) e gd)

    second : (y : ℕ) → (slice_get cs (k + 1) ≡ Some y) ⊎ ((k + 1 ≡ length cs) × (slice_get cs 0 ≡ Some y)) → (slice_get cs (k + 1) ≡ Some d) ⊎ ((k + 1 ≡ length cs) × (slice_get cs 0 ≡ Some d)) → y ≡ d
    second y (inl a) (inl b) = one_value _ y d a b
    second y (inl a) (inr b) = absurd (omega (arith, slice_get_within cs (k + 1) y a, b.0))
    second y (inr a) (inl b) = absurd (omega (arith, slice_get_within cs (k + 1) d b, a.0))
    second y (inr a) (inr b) = one_value _ y d a.1 b.1

    only : (g : Form) → CircleGives make cs k g → g ≡ make c d
    only g (x, y, gx, n, e) = e ∙ ap (λ z. make z y) (one_value _ x c gx gc) ∙ ap (make c) (second y n (there next))

pub pair_adds : {s t : Made} (p : Origin) (make : ℕ → ℕ → Form) (cs : List ℕ) (m n c d : ℕ) → m < n → slice_get cs m ≡ Some c → slice_get cs n ≡ Some d → Adds s t (IsOne p (make c d)) → Adds s t (From p (PairGives make cs m n))
pair_adds p make cs m n c d lt gc gd = from_one p (make c d) (PairGives make cs m n) (c, d, lt, gc, gd, refl) only
  where
    only : (g : Form) → PairGives make cs m n g → g ≡ make c d
    only g (x, y, lt', gx, gy, e) = e ∙ ap (λ z. make z y) (one_value _ x c gx gc) ∙ ap (make c) (one_value _ y d gy gd)

pub next_adds : {s t : Made} (p : Origin) (make : ℕ → ℕ → Form) (xs : List ℕ) (k a b : ℕ) → slice_get xs k ≡ Some a → slice_get xs (k + 1) ≡ Some b → Adds s t (IsOne p (make a b)) → Adds s t (From p (NextGives make xs k))
next_adds p make xs k a b ga gb = from_one p (make a b) (NextGives make xs k) (a, b, ga, gb, refl) only
  where
    only : (g : Form) → NextGives make xs k g → g ≡ make a b
    only g (x, y, gx, gy, e) = e ∙ ap (λ z. make z y) (one_value _ x a gx ga) ∙ ap (make a) (one_value _ y b gy gb)

pub operand_adds : {s t : Made} (p : Origin) (ds : List ℕ) (e n d : ℕ) (f : Form) → BelowOperand ds e n f → slice_get ds n ≡ Some d → Adds s t (IsOne p f) → Adds s t (From p (BelowOperand ds e n))
operand_adds p ds e n d f (y, gy, ey) gd = from_one p f (BelowOperand ds e n) (y, gy, ey) (λ g h. (let same : h.0 ≡ y = one_value _ h.0 y h.1 gy in cc))

-- ---- different places give different forms

at_one_place : (cs : List ℕ) → AreDistinct cs → (m n c d : ℕ) → slice_get cs m ≡ Some c → slice_get cs n ≡ Some d → c ≡ d → m ≡ n
at_one_place cs one m n c d gm gn e = one m n c gm (gn ∙ ap Some (sym e))

pub circle_once : (make : ℕ → ℕ → Form) → ((a b c d : ℕ) → make a b ≡ make c d → a ≡ c) → (cs : List ℕ) → AreDistinct cs → (m n : ℕ) (g : Form) → CircleGives make cs m g → CircleGives make cs n g → m ≡ n
circle_once make first cs one m n g (c, d, gc, _, e) (c', d', gc', _, e') = at_one_place cs one m n c c' gc gc' (first c d c' d' (sym e ∙ e'))

pub subsumed_first : (a b c d : ℕ) → subsumed a b ≡ subsumed c d → a ≡ c
subsumed_first a b c d e = cc

pub n5_first : (a b c d : ℕ) → N5 a b ≡ N5 c d → a ≡ c
n5_first a b c d e = cc

pub next_once : (make : ℕ → ℕ → Form) → ((a b c d : ℕ) → make a b ≡ make c d → a ≡ c) → (xs : List ℕ) → AreDistinct xs → (m n : ℕ) (g : Form) → NextGives make xs m g → NextGives make xs n g → m ≡ n
next_once make first xs one m n g (a, b, ga, _, e) (a', b', ga', _, e') = at_one_place xs one m n a a' ga ga' (first a b a' b' (sym e ∙ e'))

pub n10_first : (a b c d : ℕ) → N10 a b ≡ N10 c d → a ≡ c
n10_first a b c d e = cc

pub pair_once : (make : ℕ → ℕ → Form) → ((a b c d : ℕ) → make a b ≡ make c d → b ≡ d) → (cs : List ℕ) → AreDistinct cs → (k m n : ℕ) (g : Form) → PairGives make cs k m g → PairGives make cs k n g → m ≡ n
pair_once make second cs one k m n g (c, d, _, _, gd, e) (c', d', _, _, gd', e') = at_one_place cs one m n d d' gd gd' (second c d c' d' (sym e ∙ e'))

pub row_once : (make : ℕ → ℕ → Form) → ((a b c d : ℕ) → make a b ≡ make c d → a ≡ c) → (cs : List ℕ) → AreDistinct cs → (m n : ℕ) (g : Form) → ((k : ℕ) × PairGives make cs m k g) → ((k : ℕ) × PairGives make cs n k g) → m ≡ n
row_once make first cs one m n g (_, (c, d, _, gc, _, e)) (_, (c', d', _, gc', _, e')) = at_one_place cs one m n c c' gc gc' (first c d c' d' (sym e ∙ e'))

pub disjoint_first : (a b c d : ℕ) → disjoint a b ≡ disjoint c d → a ≡ c
disjoint_first a b c d e = cc

pub disjoint_second : (a b c d : ℕ) → disjoint a b ≡ disjoint c d → b ≡ d
disjoint_second a b c d e = cc

pub n11_first : (a b c d : ℕ) → N11 a b ≡ N11 c d → a ≡ c
n11_first a b c d e = cc

pub n11_second : (a b c d : ℕ) → N11 a b ≡ N11 c d → b ≡ d
n11_second a b c d e = cc

pub operand_once : (ds : List ℕ) (e : ℕ) → AreDistinct ds → (m n : ℕ) (g : Form) → BelowOperand ds e m g → BelowOperand ds e n g → m ≡ n
operand_once ds e one m n g (d, gd, i) (d', gd', i') = at_one_place ds one m n d d' gd gd' (let f : N1 (Whole e) (Whole d) ≡ N1 (Whole e) (Whole d') = sym i ∙ i' in let j : d ≡ d' = cc in j)

-- ---- prefixes

pub take_long : (k : ℕ) (ds : List ℕ) → k ≤ length ds → length (take k ds) ≡ k
take_long zero ds l = refl
take_long (suc k) [] l = absurd (omega arith)
take_long (suc k) (d ∷ ds) l = ap suc (take_long k ds (omega arith))

-- a list that begins with one number
begins : (k : ℕ) (ds : List ℕ) (c : ℕ) → 0 < k → k < length ds → take k ds ≡ c ∷ [] → (k ≡ 1) × (slice_index ds 0 ≡ c)
begins zero ds c p l e = absurd (omega arith)
begins (suc k) [] c p l e = absurd (omega arith)
begins (suc zero) (d ∷ ds) c p l e = (refl, cc)
begins (suc (suc k)) ds c p l e = absurd (omega (arith, take_long (suc (suc k)) ds (omega arith), ap length e))

pub first_whole : (ds : List ℕ) (e n : ℕ) → n ≡ length ds → first_of ds e n ≡ Whole e
first_whole ds e n i = grind (arith, nat_tests)

pub first_one : (ds : List ℕ) (e n : ℕ) → n ≡ 1 → n < length ds → first_of ds e n ≡ Whole (slice_index ds 0)
first_one ds e n i l = grind (arith, nat_tests)

pub first_more : (ds : List ℕ) (e n : ℕ) → 2 ≤ n → n < length ds → first_of ds e n ≡ Prefix (take n ds)
first_more ds e n i l = grind (arith, nat_tests)

steps_whole : (ds : List ℕ) (s : Property2) (n : ℕ) → n ≡ length ds → first_steps ds s n ≡ s
steps_whole ds s n i = grind (arith, nat_tests)

steps_one : (ds : List ℕ) (s : Property2) (n : ℕ) → n ≡ 1 → n < length ds → first_steps ds s n ≡ Property (slice_index ds 0)
steps_one ds s n i l = grind (arith, nat_tests)

pub steps_more : (ds : List ℕ) (s : Property2) (n : ℕ) → 2 ≤ n → n < length ds → first_steps ds s n ≡ Steps (take n ds)
steps_more ds s n i l = grind (arith, nat_tests)

-- prefixes of different lengths are different
first_apart : (ds : List ℕ) (e m n : ℕ) → 2 ≤ m → m ≤ length ds → 2 ≤ n → n ≤ length ds → first_of ds e m ≡ first_of ds e n → m ≡ n
first_apart ds e m n pm lm pn ln h = elim (cases_eq m (length ds)) [
  | inl i ↦ elim (cases_eq n (length ds)) [
    | inl j ↦ i ∙ sym j
    | inr j ↦ (let f : Whole e ≡ Prefix (take n ds) = sym (first_whole ds e m i) ∙ h ∙ first_more ds e n pn (omega arith) in absurd cc)
  ]
  | inr i ↦ elim (cases_eq n (length ds)) [
    | inl j ↦ (let f : Prefix (take m ds) ≡ Whole e = sym (first_more ds e m pm (omega arith)) ∙ h ∙ first_whole ds e n j in absurd cc)
    | inr j ↦ (let f : Prefix (take m ds) ≡ Prefix (take n ds) = sym (first_more ds e m pm (omega arith)) ∙ h ∙ first_more ds e n pn (omega arith) in
        let k : take m ds ≡ take n ds = cc in sym (take_long m ds lm) ∙ ap length k ∙ take_long n ds ln)
  ]
]

steps_apart : (rs : List ℕ) (s m n : ℕ) → 2 ≤ m → m ≤ length rs → 2 ≤ n → n ≤ length rs → first_steps rs (Property s) m ≡ first_steps rs (Property s) n → m ≡ n
steps_apart ds s m n pm lm pn ln h = elim (cases_eq m (length ds)) [
  | inl i ↦ elim (cases_eq n (length ds)) [
    | inl j ↦ i ∙ sym j
    | inr j ↦ (let f : Property s ≡ Steps (take n ds) = sym (steps_whole ds (Property s) m i) ∙ h ∙ steps_more ds (Property s) n pn (omega arith) in absurd cc)
  ]
  | inr i ↦ elim (cases_eq n (length ds)) [
    | inl j ↦ (let f : Steps (take m ds) ≡ Property s = sym (steps_more ds (Property s) m pm (omega arith)) ∙ h ∙ steps_whole ds (Property s) n j in absurd cc)
    | inr j ↦ (let f : Steps (take m ds) ≡ Steps (take n ds) = sym (steps_more ds (Property s) m pm (omega arith)) ∙ h ∙ steps_more ds (Property s) n pn (omega arith) in
        let k : take m ds ≡ take n ds = cc in sym (take_long m ds lm) ∙ ap length k ∙ take_long n ds ln)
  ]
]

pub and_once : (ds : List ℕ) (e m n : ℕ) (g : Form) → AndGives ds e m g → AndGives ds e n g → m ≡ n
and_once ds e m n g (d, pm, gm, i) (d', pn, gn, i') =
    let f : N2 (first_of ds e m) (Whole d) (first_of ds e (m + 1)) ≡ N2 (first_of ds e n) (Whole d') (first_of ds e (n + 1)) = sym i ∙ i' in
    let k : first_of ds e (m + 1) ≡ first_of ds e (n + 1) = n2_last _ _ _ _ _ _ f in
    let same : m + 1 ≡ n + 1 = first_apart ds e (m + 1) (n + 1) (omega arith) (omega (arith, slice_get_within ds m d gm)) (omega arith) (omega (arith, slice_get_within ds n d' gn)) k in
    omega arith
  where
    n2_last : (a b c a' b' c' : Class2) → N2 a b c ≡ N2 a' b' c' → c ≡ c'
    n2_last a b c a' b' c' e = cc

pub chain_once : (rs : List ℕ) (s m n : ℕ) (g : Form) → ChainGives rs s m g → ChainGives rs s n g → m ≡ n
chain_once ds s m n g (d, pm, gm, i) (d', pn, gn, i') =
    let f : N6 (first_steps ds (Property s) m) (Property d) (first_steps ds (Property s) (m + 1)) ≡ N6 (first_steps ds (Property s) n) (Property d') (first_steps ds (Property s) (n + 1)) = sym i ∙ i' in
    let k : first_steps ds (Property s) (m + 1) ≡ first_steps ds (Property s) (n + 1) = n6_last _ _ _ _ _ _ f in
    let same : m + 1 ≡ n + 1 = steps_apart ds s (m + 1) (n + 1) (omega arith) (omega (arith, slice_get_within ds m d gm)) (omega arith) (omega (arith, slice_get_within ds n d' gn)) k in
    omega arith
  where
    n6_last : (a b c a' b' c' : Property2) → N6 a b c ≡ N6 a' b' c' → c ≡ c'
    n6_last a b c a' b' c' e = cc

starts_say : (t : Lists) (c : code_class.Class2) (ds : List ℕ) (e k : ℕ) → 0 < k → k < length ds → StartsClass t c (take k ds) → SaysClass t c (first_of ds e k)
starts_say t (classes.Expr x) ds e k p l h = let b = begins k ds x.0 p l h in first_one ds e k b.0 l ∙ ap Whole b.1
starts_say t (classes.Partial n) ds e k p l h = (take k ds, h.0, first_more ds e k (omega (arith, h.1, take_long k ds (omega arith))) l)

steps_say : (t : Lists) (q : code_property.PropId2) (rs : List ℕ) (s : Property2) (k : ℕ) → 0 < k → k < length rs → StartsProperty t q (take k rs) → SaysProperty t q (first_steps rs s k)
steps_say t (properties.Property x) rs s k p l h = let b = begins k rs x.0 p l h in steps_one rs s k b.0 l ∙ ap Property b.1
steps_say t (properties.Partial n) rs s k p l h = (take k rs, h.0, steps_more rs s k (omega (arith, h.1, take_long k rs (omega arith))) l)

take_suc : (xs : List ℕ) (n : ℕ) → take n (take (suc n) xs) ≡ take n xs
take_suc xs zero = refl
take_suc [] (suc n) = refl
take_suc (x ∷ xs) (suc n) = ap (λ ys. x ∷ ys) (take_suc xs n)

-- the first k are one less than the first k + 1
take_less : (ds : List ℕ) (k : ℕ) → k < length ds → take (length (take (k + 1) ds) - 1) (take (k + 1) ds) ≡ take k ds
take_less ds k l =
    let less : length (take (k + 1) ds) - 1 ≡ k = omega (arith, take_long (k + 1) ds (omega arith)) in
    ap (λ n. take n (take (k + 1) ds)) less ∙ ap (λ n. take k (take n ds)) (add-one k) ∙ take_suc ds k

pub shorter_class : (t : Lists) (c : code_class.Class2) (ds : List ℕ) (k : ℕ) → 0 < k → k < length ds → StartsClass t c (take k ds) → IsShorter t (class_number c) (take (k + 1) ds)
shorter_class t (classes.Expr e) ds k p l h = let b = begins k ds e.0 p l h in omega (arith, b.0, take_long (k + 1) ds (omega arith))
shorter_class t (classes.Partial n) ds k p l h = h.0 ∙ ap Some (sym (take_less ds k l))

pub shorter_property : (t : Lists) (q : code_property.PropId2) (rs : List ℕ) (k : ℕ) → 0 < k → k < length rs → StartsProperty t q (take k rs) → IsShorter t (property_number q) (take (k + 1) rs)
shorter_property t (properties.Property e) rs k p l h = let b = begins k rs e.0 p l h in omega (arith, b.0, take_long (k + 1) rs (omega arith))
shorter_property t (properties.Partial n) rs k p l h = h.0 ∙ ap Some (sym (take_less rs k l))

some_name : (old new : Lists) (list : List ℕ) (k n : ℕ) → k + 1 < length list → Numbers old (take (k + 1) list) new n → Names old new list k
some_name old new list k n l numbers = record { some = λ _. (n, numbers); all = λ e. absurd (omega arith) }

-- a list with a number was there, or is the prefix that got it
named_cases : (old new : Lists) (list : List ℕ) (k : ℕ) → k < length list → Names old new list k → (n : ℕ) (xs : List ℕ) → slice_get new n ≡ Some xs → (slice_get old n ≡ Some xs) ⊎ ((k + 1 < length list) × (xs ≡ take (k + 1) list))
named_cases old new list k within names n xs g = elim (cases_eq (k + 1) (length list)) [
  | inl e ↦ inl (ap (λ ys. slice_get ys n) (sym (names.all e)) ∙ g)
  | inr ne ↦ (let l : k + 1 < length list = omega arith in let m = names.some l in elim m.1 [
    | inl h ↦ inl (ap (λ ys. slice_get ys n) (sym h.1) ∙ g)
    | inr h ↦ elim (slice_get_push_cases old (take (k + 1) list) n xs (ap (λ ys. slice_get ys n) (sym h.2) ∙ g)) [ inl i ↦ inl i | inr i ↦ inr (l, sym i.1) ]
  ])
]

pub more_numbered : (s t : Made) (ds : List ℕ) (e k n : ℕ) → 0 < k → k + 1 < length ds → t.entries ≡ s.entries → t.apart ≡ s.apart → t.steps ≡ s.steps → Numbers s.operands (take (k + 1) ds) t.operands n → MoreOperands s t ds e k (classes.Partial n)
more_numbered s t ds e k n p l es ea ss numbers =
    let there = numbered_there s.operands (take (k + 1) ds) t.operands n numbers in
    let many : 2 ≤ length (take (k + 1) ds) = omega (arith, take_long (k + 1) ds (omega arith)) in
    record { entries = es; apart = ea; steps = ss; operands = lengthens_numbered _ _ _ n numbers; names = some_name s.operands t.operands ds k n l numbers; starts = λ _. (there, many); says = (take (k + 1) ds, there, first_more ds e (k + 1) (omega arith) l) }

pub steps_numbered : (s t : Made) (rs : List ℕ) (whole k n : ℕ) → 0 < k → k + 1 < length rs → t.entries ≡ s.entries → t.apart ≡ s.apart → t.operands ≡ s.operands → Numbers s.steps (take (k + 1) rs) t.steps n → MoreSteps s t rs whole k (properties.Partial n)
steps_numbered s t ds whole k n p l es ea ss numbers =
    let there = numbered_there s.steps (take (k + 1) ds) t.steps n numbers in
    let many : 2 ≤ length (take (k + 1) ds) = omega (arith, take_long (k + 1) ds (omega arith)) in
    record { entries = es; apart = ea; operands = ss; steps = lengthens_numbered _ _ _ n numbers; names = some_name s.steps t.steps ds k n l numbers; starts = λ _. (there, many); says = (take (k + 1) ds, there, steps_more ds (Property whole) (k + 1) (omega arith) l) }

starts_class_more : (t u : Lists) → Keeps t u → (c : code_class.Class2) (ds : List ℕ) → StartsClass t c ds → StartsClass u c ds
starts_class_more t u k (classes.Expr e) ds h = h
starts_class_more t u k (classes.Partial n) ds h = (k n ds h.0, h.1)

starts_property_more : (t u : Lists) → Keeps t u → (q : code_property.PropId2) (rs : List ℕ) → StartsProperty t q rs → StartsProperty u q rs
starts_property_more t u k (properties.Property p) rs h = h
starts_property_more t u k (properties.Partial n) rs h = (k n rs h.0, h.1)

pub operand_step : (s u t : Made) (ds : List ℕ) (e k : ℕ) (origin : Origin) (shorter c : code_class.Class2) (x : ExprId) → 0 < k → StartsClass s.operands shorter (take k ds) → slice_get ds k ≡ Some x.0 → MoreOperands s u ds e k c → ((g : Form) → Says u.operands u.steps (forms.N2 shorter (classes.Expr x) c) g → Adds u t (IsOne origin g)) → OperandStep s t ds e k origin c
operand_step s u t ds e k origin shorter c x pos st gd more adds = record {
  starts = λ l. starts_class_more u.operands t.operands one.operands.keeps c (take (k + 1) ds) (more.starts l);
  adds = from_one origin form (AndGives ds e k) (x.0, pos, gd, refl) only (adds_behind_names s u t (IsOne origin form) more.entries more.apart more.operands (lengthens_same s.steps u.steps more.steps) classes (λ n rs g. inl (ap (λ ys. slice_get ys n) (sym more.steps) ∙ g)) one);
}
  where
    form : Form
    form = N2 (first_of ds e k) (Whole x.0) (first_of ds e (k + 1))

    one : Adds u t (IsOne origin form)
    one = adds form (first_of ds e k, Whole x.0, first_of ds e (k + 1), says_class_more s.operands u.operands more.operands.keeps shorter _ (starts_say s.operands shorter ds e k pos (slice_get_within ds k x.0 gd) st), refl, more.says, refl)

    within : k < length ds
    within = slice_get_within ds k x.0 gd

    classes : (n : ℕ) (list : List ℕ) → slice_get u.operands n ≡ Some list → (slice_get s.operands n ≡ Some list) ⊎ HasClass (IsOne origin form) list
    classes n list g = elim (named_cases s.operands u.operands ds k within more.names n list g) [
      | inl h ↦ inl h
      | inr h ↦ inr (origin, first_of ds e k, Whole x.0, (refl, ap (N2 (first_of ds e k) (Whole x.0)) (ap Prefix h.1 ∙ sym (first_more ds e (k + 1) (omega arith) h.0))))
    ]

    only : (g : Form) → AndGives ds e k g → g ≡ form
    only g (d, _, gd', i) = i ∙ ap (λ y. N2 (first_of ds e k) (Whole y) (first_of ds e (k + 1))) (one_value _ d x.0 gd' gd)

pub chain_step : (s u t : Made) (rs : List ℕ) (whole k : ℕ) (origin : Origin) (shorter q : code_property.PropId2) (x : PropId) → 0 < k → StartsProperty s.steps shorter (take k rs) → slice_get rs k ≡ Some x.0 → MoreSteps s u rs whole k q → ((g : Form) → Says u.operands u.steps (forms.N6 shorter (properties.Property x) q) g → Adds u t (IsOne origin g)) → t.steps ≡ u.steps → ChainStep s t rs whole k origin q
chain_step s u t rs whole k origin shorter q x pos st gd more adds same = record {
  names = record {
    some = λ l. (let m = more.names.some l in (m.0, subst (λ ys. Numbers s.steps (take (k + 1) rs) ys m.0) (sym same) m.1));
    all = λ e. same ∙ more.names.all e;
  };
  starts = λ l. starts_property_more u.steps t.steps one.steps.keeps q (take (k + 1) rs) (more.starts l);
  adds = from_one origin form (ChainGives rs whole k) (x.0, pos, gd, refl) only (adds_behind_names s u t (IsOne origin form) more.entries more.apart (lengthens_same s.operands u.operands more.operands) more.steps (λ n ds g. inl (ap (λ ys. slice_get ys n) (sym more.operands) ∙ g)) properties one);
}
  where
    form : Form
    form = N6 (first_steps rs (Property whole) k) (Property x.0) (first_steps rs (Property whole) (k + 1))

    one : Adds u t (IsOne origin form)
    one = adds form (first_steps rs (Property whole) k, Property x.0, first_steps rs (Property whole) (k + 1), says_property_more s.steps u.steps more.steps.keeps shorter _ (steps_say s.steps shorter rs (Property whole) k pos (slice_get_within rs k x.0 gd) st), refl, more.says, refl)

    within : k < length rs
    within = slice_get_within rs k x.0 gd

    properties : (n : ℕ) (list : List ℕ) → slice_get u.steps n ≡ Some list → (slice_get s.steps n ≡ Some list) ⊎ HasProperty (IsOne origin form) list
    properties n list g = elim (named_cases s.steps u.steps rs k within more.names n list g) [
      | inl h ↦ inl h
      | inr h ↦ inr (origin, first_steps rs (Property whole) k, Property x.0, (refl, ap (N6 (first_steps rs (Property whole) k) (Property x.0)) (ap Steps h.1 ∙ sym (steps_more rs (Property whole) (k + 1) (omega arith) h.0))))
    ]

    only : (g : Form) → ChainGives rs whole k g → g ≡ form
    only g (d, _, gd', i) = i ∙ ap (λ y. N6 (first_steps rs (Property whole) k) (Property y) (first_steps rs (Property whole) (k + 1))) (one_value _ d x.0 gd' gd)

-- ---- properties

pub plain_gives : {s t : Made} (p : Origin) (rs : List ℕ) (r whole : ℕ) → length rs ≡ 1 → slice_get rs 0 ≡ Some r → Adds s t (IsOne p (N5 r whole)) → Adds s t (From p (AxiomGives (SubProperty rs whole)))
plain_gives p [] r whole long g = absurd (none-some r g)
plain_gives p (q ∷ []) r whole long g = from_one p (N5 r whole) (AxiomGives (SubProperty (q ∷ []) whole)) (inl (r, ap (λ z. z ∷ []) (same_Some q r g), refl)) only
  where
    only : (f : Form) → AxiomGives (SubProperty (q ∷ []) whole) f → f ≡ N5 r whole
    only f (inl (x, e, i)) = i ∙ ap (λ z. N5 z whole) (let k : x ≡ q = cc in k ∙ same_Some q r g)
    only f (inr (n, (x, pos, gx, i))) = absurd (omega (arith, slice_get_within (q ∷ []) n x gx))
plain_gives p (q ∷ y ∷ rs) r whole long g = absurd (omega arith)

pub chain_gives : {s t : Made} (p : Origin) (rs : List ℕ) (whole : ℕ) → (length rs ≡ 1 → ⊥) → Adds s t (From p (λ g. (n : ℕ) × ChainGives rs whole n g)) → Adds s t (From p (AxiomGives (SubProperty rs whole)))
chain_gives p rs whole ne = from_same p (λ g. (n : ℕ) × ChainGives rs whole n g) (AxiomGives (SubProperty rs whole)) (λ g h. inr h) (λ g h. elim h [ inl x ↦ absurd (ne (ap length x.1)) | inr y ↦ y ])

-- ---- places

pub within_none : (s : Made) (F : ℕ → Origin → Form → Type 0) (k : ℕ) → Adds s s (Within F k k)
within_none s F k = adds_none s (Within F k k) (λ o g h. absurd (omega (arith, h.1, h.2)))

pub within_more : {s t u : Made} (F : ℕ → Origin → Form → Type 0) (from k : ℕ) → from ≤ k → ((m n : ℕ) (o : Origin) (g : Form) → F m o g → F n o g → m ≡ n) → Adds s t (Within F from k) → Adds t u (F k) → Adds s u (Within F from (k + 1))
within_more F from k le one a b = adds_same _ (Within F from (k + 1)) to back (adds_both (Within F from k) (F k) apart a b)
  where
    apart : (o : Origin) (g : Form) → Within F from k o g → F k o g → ⊥
    apart o g (n, l, m, f) f' = omega (arith, m, one n k o g f f')

    to : (o : Origin) (g : Form) → Within F from k o g ⊎ F k o g → Within F from (k + 1) o g
    to o g (inl (n, l, m, f)) = (n, l, omega arith, f)
    to o g (inr f) = (k, le, omega arith, f)

    back : (o : Origin) (g : Form) → Within F from (k + 1) o g → Within F from k o g ⊎ F k o g
    back o g (n, l, m, f) = elim (cases_eq n k) [
      | inl i ↦ inr (let P : ℕ → Type 0 = λ j. F j o g in subst P i f)
      | inr ne ↦ inl (n, l, omega arith, f)
    ]

pub stated_once : (axioms : List Axiom) (m n : ℕ) (o : Origin) (g : Form) → StatedAt axioms m o g → StatedAt axioms n o g → m ≡ n
stated_once axioms m n o g (a, _, e, _) (b, _, f, _) = let h : origins.Axiom (m + 1) ≡ origins.Axiom (n + 1) = sym e ∙ f in let i : m + 1 ≡ n + 1 = cc in omega arith

pub expressed_once : (nodes : List Node) (R L : ℕ → Type 0) (numbers : List ℕ) → AreDistinct numbers → (m n : ℕ) (o : Origin) (g : Form) → ExpressedBy nodes R L numbers m o g → ExpressedBy nodes R L numbers n o g → m ≡ n
expressed_once nodes R L numbers one m n o g (x, gx, (a, _, e, _)) (y, gy, (b, _, f, _)) = one m n x gx (gy ∙ ap Some (ap number (sym f ∙ e)))
  where
    number : Origin → ℕ
    number (origins.Expr x) = x.0
    number (origins.Axiom k) = 0

pub stated : {s t : Made} (axioms : List Axiom) (k : ℕ) (a : Axiom) → slice_get axioms k ≡ Some a → Adds s t (From (origins.Axiom (k + 1)) (AxiomGives a)) → Adds s t (StatedAt axioms k)
stated axioms k a g = adds_same (From (origins.Axiom (k + 1)) (AxiomGives a)) (StatedAt axioms k) (λ o f h. (a, g, h.0, h.1)) (λ o f h. (h.2, (let P : Axiom → Type 0 = λ b. AxiomGives b f in subst P (one_value _ h.0 a h.1 g) h.3)))

-- the two sides give nothing in common
pub sides_apart : (whole : ℕ) (node : Node) (g : Form) → RightGives whole node g → LeftGives whole node g → ⊥
sides_apart e (Class c) g h i = h
sides_apart e (And ds) g (d, _, i) (n, (d', _, _, j)) = let f : N1 (Whole e) (Whole d) ≡ N2 (first_of ds e n) (Whole d') (first_of ds e (n + 1)) = sym i ∙ j in absurd cc
sides_apart e (Exists r c) g h i = let f : N3 (Whole e) r c ≡ N4 r (Whole c) (Whole e) = sym h ∙ i in absurd cc

pub sides_both : {s t u : Made} (node : Node) (whole : ExprId) (right left : Bool) → Adds s t (From (origins.Expr whole) (λ g. (right ≡ true) × RightGives whole.0 node g)) → Adds t u (From (origins.Expr whole) (λ g. (left ≡ true) × LeftGives whole.0 node g)) → Adds s u (SideGives node whole right left)
sides_both node whole right left a b = adds_same _ (SideGives node whole right left) (λ o g h. elim h [ inl x ↦ (x.0, inl x.1) | inr y ↦ (y.0, inr y.1) ]) (λ o g h. elim h.1 [ inl x ↦ inl (h.0, x) | inr y ↦ inr (h.0, y) ]) (adds_both _ _ (λ o g h i. sides_apart whole.0 node g h.1.1 i.1.1) a b)

pub expressed : {s t : Made} (nodes : List Node) (R L : ℕ → Type 0) (k : ℕ) (node : Node) (r l : Bool) → slice_get nodes k ≡ Some node → (r ≡ true) ↔ R k → (l ≡ true) ↔ L k → Adds s t (SideGives node (record { 0 = k }) r l) → Adds s t (ExpressedAt nodes R L k)
expressed nodes R L k node r l gn er el = adds_same (SideGives node (record { 0 = k }) r l) (ExpressedAt nodes R L k) to from
  where
    to : (o : Origin) (g : Form) → SideGives node (record { 0 = k }) r l o g → ExpressedAt nodes R L k o g
    to o g (e, h) = (node, gn, e, elim h [ inl x ↦ inl (er.0 x.0, x.1) | inr y ↦ inr (el.0 y.0, y.1) ])

    from : (o : Origin) (g : Form) → ExpressedAt nodes R L k o g → SideGives node (record { 0 = k }) r l o g
    from o g (m, gm, e, h) =
        let same : m ≡ node = one_value _ m node gm gn in
        let P : Node → Type 0 = λ z. RightGives k z g in let Q : Node → Type 0 = λ z. LeftGives k z g in
        (e, elim h [ inl x ↦ inl (er.1 x.0, subst P same x.1) | inr y ↦ inr (el.1 y.0, subst Q same y.1) ])

-- the expression whose number stands at that place
pub expressed_by : {s t : Made} (nodes : List Node) (R L : ℕ → Type 0) (numbers : List ℕ) (place n : ℕ) → slice_get numbers place ≡ Some n → Adds s t (ExpressedAt nodes R L n) → Adds s t (ExpressedBy nodes R L numbers place)
expressed_by nodes R L numbers place n at = adds_same (ExpressedAt nodes R L n) (ExpressedBy nodes R L numbers place) (λ o g h. (n, at, h))
    (λ o g h. (let P : ℕ → Type 0 = λ k. ExpressedAt nodes R L k o g in subst P (one_value _ h.0 n h.1 at) h.2))

pub take_first : (ds : List ℕ) (d : ℕ) → slice_get ds 0 ≡ Some d → take 1 ds ≡ d ∷ []
take_first [] d g = absurd (none-some d g)
take_first (x ∷ ds) d g = ap (λ y. y ∷ []) (same_Some x d g)

pub map-take : {A B : Type 0} (f : A → B) (k : ℕ) (xs : List A) → map f (take k xs) ≡ take k (map f xs)
map-take f zero xs = refl
map-take f (suc k) [] = refl
map-take f (suc k) (x ∷ xs) = ap (λ ys. f x ∷ ys) (map-take f k xs)
