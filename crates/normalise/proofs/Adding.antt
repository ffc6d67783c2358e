-- Lists of forms that grow: by nothing, by one form, by two steps, by those of a list.
use Rattle.std.proofs.Common.{◌≡◌, ℕ, zero, suc, ◌+◌, ◌-◌, ◌<◌, ◌≤◌, ◌⊎◌, inl, inr, List, [], ◌∷◌, ◌++◌, length, slice_get, Some, Contains, refl, sym, ap, ap₂, ◌∙◌, subst, arith, length-append}
use Rattle.std.proofs.lemmas.Bool.{cases_eq, cases_order}
use Rattle.std.proofs.lemmas.Option.{none-some, slice_get_within}
use Rattle.lemmas.proofs.Choices.{one_value}
use Rattle.lemmas.proofs.Members.{Contains-from_slice_get}
use Rattle.lemmas.proofs.Places.{slice_get_there, slice_get_push, slice_get_push_cases, keeps_push}
use Rattle.axioms.specs.Growth.{Numbers}
use Rattle.axioms.specs.WellFormedness.{AreDistinct}
use Rattle.normal_forms.specs.declared.forms.Class2 as code_class
use Rattle.normal_forms.specs.declared.forms.Class2.TheVariants as classes
use Rattle.normal_forms.specs.declared.forms.PropId2 as code_property
use Rattle.normal_forms.specs.declared.forms.PropId2.TheVariants as properties
use Rattle.normal_forms.specs.declared.forms.Form as code_form
use Rattle.normal_forms.specs.declared.forms.Form.TheVariants as forms
use Rattle.normal_forms.specs.declared.forms.Origin.{Origin}
use Rattle.normal_forms.specs.Forms.{Class2, Property2, Form, Prefix, Steps, N1, N2, N3, N4, N6, N8}
use Rattle.normalise.specs.Apart.{Apartness, AreNumbered, IsOfList, different_individuals, disjoint_classes, joined_apartness, no_apartness}
use Rattle.normalise.specs.declared.entries.Entry.{Entry}
use Rattle.normalise.specs.declared.made.Made.{Made}
use Rattle.normalise.specs.View.{Lists, SaysClass, SaysProperty, Says, Keeps, KeepsApart, Lengthens, IsAt, Place, AtEntry, AtClasses, AtIndividuals, IsBehind, Listed, HasClass, HasProperty, Adds, IsOne, From, Below}

-- ---- lists that grow

pub keeps_same : {X : Type 0} (xs ys : List X) → ys ≡ xs → Keeps xs ys
keeps_same xs ys e n x g = ap (λ zs. slice_get zs n) e ∙ g

pub keeps_long : {X : Type 0} (xs ys : List X) → Keeps xs ys → length xs ≤ length ys
keeps_long [] ys k = omega arith
keeps_long {X} (x ∷ xs) ys k = go (length xs) refl
  where
    go : (n : ℕ) → length xs ≡ n → length (x ∷ xs) ≤ length ys
    go n e = let last = slice_get_there (x ∷ xs) n (omega arith) in omega (arith, slice_get_within ys n last.0 (k n last.0 last.1))

pub lengthens_same : {X : Type 0} (xs ys : List X) → ys ≡ xs → Lengthens xs ys
lengthens_same xs ys e = record { keeps = keeps_same xs ys e; distinct = λ one. subst AreDistinct (sym e) one }

pub lengthens_both : {X : Type 0} (xs ys zs : List X) → Lengthens xs ys → Lengthens ys zs → Lengthens xs zs
lengthens_both xs ys zs a b = record { keeps = λ n x g. b.keeps n x (a.keeps n x g); distinct = λ one. b.distinct (a.distinct one) }

pub lengthens_numbered : {X : Type 0} (old : List X) (x : X) (new : List X) (n : ℕ) → Numbers old x new n → Lengthens old new
lengthens_numbered old x new n (inl h) = lengthens_same old new h.1
lengthens_numbered {X} old x new n (inr h) = record {
  keeps = λ k y g. ap (λ zs. slice_get zs k) h.2 ∙ keeps_push old x k y g;
  distinct = λ one. subst AreDistinct (sym h.2) (pushed one);
}
  where
    pushed : AreDistinct old → AreDistinct (old ++ x ∷ [])
    pushed one i j y gi gj = elim (slice_get_push_cases old x i y gi) [
      | inl a ↦ elim (slice_get_push_cases old x j y gj) [
        | inl b ↦ one i j y a b
        | inr b ↦ absurd (h.0 (subst (Contains old) (sym b.1) (Contains-from_slice_get old i y a)))
      ]
      | inr a ↦ elim (slice_get_push_cases old x j y gj) [
        | inl b ↦ absurd (h.0 (subst (Contains old) (sym a.1) (Contains-from_slice_get old j y b)))
        | inr b ↦ a.0 ∙ sym b.0
      ]
    ]

pub numbered_there : {X : Type 0} (old : List X) (x : X) (new : List X) (n : ℕ) → Numbers old x new n → slice_get new n ≡ Some x
numbered_there old x new n (inl h) = ap (λ zs. slice_get zs n) h.1 ∙ h.0
numbered_there {X} old x new n (inr h) = let P : List X → Type 0 = λ zs. slice_get zs n ≡ Some x in subst P (sym h.2) (ap (slice_get (old ++ x ∷ [])) h.1 ∙ slice_get_push old x)

-- ---- lists of what is apart that become more

pub apart_same : (a b : Apartness) → b ≡ a → KeepsApart a b
apart_same a b e = record {
  classes = keeps_same a.lists.classes b.lists.classes classes;
  individuals = keeps_same a.lists.individuals b.lists.individuals individuals;
  disjoint_axioms = keeps_same a.disjoint_axioms b.disjoint_axioms (ap (λ (x : Apartness). x.disjoint_axioms) e);
  different_axioms = keeps_same a.different_axioms b.different_axioms (ap (λ (x : Apartness). x.different_axioms) e);
  classes_numbered = λ l low high. absurd (omega (arith, low, high, ap length classes));
  individuals_numbered = λ l low high. absurd (omega (arith, low, high, ap length individuals));
  numbered = λ h. subst (λ (x : Apartness). AreNumbered x.lists x.disjoint_axioms x.different_axioms) (sym e) h;
}
  where
    classes : b.lists.classes ≡ a.lists.classes
    classes = ap (λ (x : Apartness). x.lists.classes) e

    individuals : b.lists.individuals ≡ a.lists.individuals
    individuals = ap (λ (x : Apartness). x.lists.individuals) e

-- each list of the last from that number on has an axiom, where it has one in the middle or was not there
numbered_both : {X : Type 0} (lists lists' : List (List X)) (axioms axioms' : List ℕ) (from : ℕ) → Keeps axioms axioms' → ((l : ℕ) → from ≤ l → l < length lists → (n : ℕ) × (slice_get axioms l ≡ Some n))
    → ((l : ℕ) → length lists ≤ l → l < length lists' → (n : ℕ) × (slice_get axioms' l ≡ Some n)) → (l : ℕ) → from ≤ l → l < length lists' → (n : ℕ) × (slice_get axioms' l ≡ Some n)
numbered_both lists lists' axioms axioms' from keeps first second l low high = elim (cases_order l (length lists)) [
  | inl e ↦ second l (omega arith) high
  | inr (inl lt) ↦ (let q = first l low lt in (q.0, keeps l q.0 q.1))
  | inr (inr gt) ↦ second l (omega arith) high
]

pub apart_both : (a b c : Apartness) → KeepsApart a b → KeepsApart b c → KeepsApart a c
apart_both a b c h k = record {
  classes = λ n x g. k.classes n x (h.classes n x g);
  individuals = λ n x g. k.individuals n x (h.individuals n x g);
  disjoint_axioms = λ n x g. k.disjoint_axioms n x (h.disjoint_axioms n x g);
  different_axioms = λ n x g. k.different_axioms n x (h.different_axioms n x g);
  classes_numbered = numbered_both b.lists.classes c.lists.classes b.disjoint_axioms c.disjoint_axioms (length a.lists.classes) k.disjoint_axioms h.classes_numbered k.classes_numbered;
  individuals_numbered = numbered_both b.lists.individuals c.lists.individuals b.different_axioms c.different_axioms (length a.lists.individuals) k.different_axioms h.individuals_numbered k.individuals_numbered;
  numbered = λ n. k.numbered (h.numbered n);
}

of_list_more : {X : Type 0} (make : X → X → Form) (lists lists' : List (List X)) (axioms axioms' : List ℕ) → Keeps lists lists' → Keeps axioms axioms' → (l m n : ℕ) (o : Origin) (g : Form) → IsOfList make lists axioms l m n o g → IsOfList make lists' axioms' l m n o g
of_list_more make lists lists' axioms axioms' k j l m n o g h = record {
  members = h.members;
  there = k l h.members h.there;
  number = h.number;
  numbered = j l h.number h.numbered;
  one = h.one;
  other = h.other;
  later = h.later;
  at_first = h.at_first;
  at_second = h.at_second;
  origin = h.origin;
  form = h.form;
}

-- a list that was there, with its axiom, holds what it did
of_list_back : {X : Type 0} (make : X → X → Form) (lists lists' : List (List X)) (axioms axioms' : List ℕ) → Keeps lists lists' → Keeps axioms axioms' → (l m n : ℕ) (o : Origin) (g : Form) → l < length lists → (number : ℕ) × (slice_get axioms l ≡ Some number)
    → IsOfList make lists' axioms' l m n o g → IsOfList make lists axioms l m n o g
of_list_back make lists lists' axioms axioms' k j l m n o g low (number, at) h =
    let q = slice_get_there lists l low in
    let same : q.0 ≡ h.members = one_value _ q.0 h.members (k l q.0 q.1) h.there in
    let same_number : number ≡ h.number = one_value _ number h.number (j l number at) h.numbered in
    record {
      members = h.members;
      there = q.1 ∙ ap Some same;
      number = h.number;
      numbered = at ∙ ap Some same_number;
      one = h.one;
      other = h.other;
      later = h.later;
      at_first = h.at_first;
      at_second = h.at_second;
      origin = h.origin;
      form = h.form;
    }

-- ---- what a form says

pub says_class_more : (t u : Lists) → Keeps t u → (a : code_class.Class2) (x : Class2) → SaysClass t a x → SaysClass u a x
says_class_more t u k (classes.Expr e) x h = h
says_class_more t u k (classes.Partial n) x h = (h.0, k n h.0 h.1, h.2)

pub says_property_more : (t u : Lists) → Keeps t u → (a : code_property.PropId2) (x : Property2) → SaysProperty t a x → SaysProperty u a x
says_property_more t u k (properties.Property e) x h = h
says_property_more t u k (properties.Partial n) x h = (h.0, k n h.0 h.1, h.2)

pub says_more : (t t' u u' : Lists) → Keeps t t' → Keeps u u' → (f : code_form.Form) (g : Form) → Says t u f g → Says t' u' f g
says_more t t' u u' k l (forms.N1 a b) g (x, y, h, i, e) = (x, y, says_class_more t t' k a x h, says_class_more t t' k b y i, e)
says_more t t' u u' k l (forms.N2 a b c) g (x, y, z, h, i, j, e) = (x, y, z, says_class_more t t' k a x h, says_class_more t t' k b y i, says_class_more t t' k c z j, e)
says_more t t' u u' k l (forms.N3 a r b) g (x, h, e) = (x, says_class_more t t' k a x h, e)
says_more t t' u u' k l (forms.N4 r a b) g (x, y, h, i, e) = (x, y, says_class_more t t' k a x h, says_class_more t t' k b y i, e)
says_more t t' u u' k l (forms.N5 r s) g h = h
says_more t t' u u' k l (forms.N6 p q r) g (x, y, z, h, i, j, e) = (x, y, z, says_property_more u u' l p x h, says_property_more u u' l q y i, says_property_more u u' l r z j, e)
says_more t t' u u' k l (forms.N7 r) g h = h
says_more t t' u u' k l (forms.N8 i a) g (x, h, e) = (x, says_class_more t t' k a x h, e)
says_more t t' u u' k l (forms.N9 a r b) g h = h
says_more t t' u u' k l (forms.N10 a b) g h = h
says_more t t' u u' k l (forms.N12 a r b) g h = h

class_one : (t : Lists) (a : code_class.Class2) (x y : Class2) → SaysClass t a x → SaysClass t a y → x ≡ y
class_one t (classes.Expr e) x y h i = h ∙ sym i
class_one t (classes.Partial n) x y h i = h.2 ∙ ap Prefix (one_value _ h.0 i.0 h.1 i.1) ∙ sym i.2

property_one : (t : Lists) (a : code_property.PropId2) (x y : Property2) → SaysProperty t a x → SaysProperty t a y → x ≡ y
property_one t (properties.Property e) x y h i = h ∙ sym i
property_one t (properties.Partial n) x y h i = h.2 ∙ ap Steps (one_value _ h.0 i.0 h.1 i.1) ∙ sym i.2

-- one form for one of the code
pub says_one : (t u : Lists) (f : code_form.Form) (g h : Form) → Says t u f g → Says t u f h → g ≡ h
says_one t u (forms.N1 a b) g h (x, y, i, j, e) (x', y', i', j', e') = e ∙ ap₂ N1 (class_one t a x x' i i') (class_one t b y y' j j') ∙ sym e'
says_one t u (forms.N2 a b c) g h (x, y, z, i, j, k, e) (x', y', z', i', j', k', e') =
    e ∙ ap₂ (λ p q. N2 p q z) (class_one t a x x' i i') (class_one t b y y' j j') ∙ ap (N2 x' y') (class_one t c z z' k k') ∙ sym e'
says_one t u (forms.N3 a r b) g h (x, i, e) (x', i', e') = e ∙ ap (λ p. N3 p r.0 b.0) (class_one t a x x' i i') ∙ sym e'
says_one t u (forms.N4 r a b) g h (x, y, i, j, e) (x', y', i', j', e') = e ∙ ap₂ (N4 r.0) (class_one t a x x' i i') (class_one t b y y' j j') ∙ sym e'
says_one t u (forms.N5 r s) g h e e' = e ∙ sym e'
says_one t u (forms.N6 p q r) g h (x, y, z, i, j, k, e) (x', y', z', i', j', k', e') =
    e ∙ ap₂ (λ p q. N6 p q z) (property_one u p x x' i i') (property_one u q y y' j j') ∙ ap (N6 x' y') (property_one u r z z' k k') ∙ sym e'
says_one t u (forms.N7 r) g h e e' = e ∙ sym e'
says_one t u (forms.N8 a b) g h (x, i, e) (x', i', e') = e ∙ ap (N8 a.0) (class_one t b x x' i i') ∙ sym e'
says_one t u (forms.N9 a r b) g h e e' = e ∙ sym e'
says_one t u (forms.N10 a b) g h e e' = e ∙ sym e'
says_one t u (forms.N12 a r b) g h e e' = e ∙ sym e'

pub at_one : (entries : List Entry) (t u : Lists) (n : ℕ) (o p : Origin) (g h : Form) → IsAt entries t u n o g → IsAt entries t u n p h → (o ≡ p) × (g ≡ h)
at_one entries t u n o p g h (f, at, says) (f', at', says') =
    let same = one_value _ _ _ at at' in let P : code_form.Form → Type 0 = λ x. Says t u x g in
    (ap (λ e. e.origin) same, says_one t u f' g h (subst P (ap (λ e. e.form) same) says) says')

pub at_within : (entries : List Entry) (t u : Lists) (n : ℕ) (o : Origin) (g : Form) → IsAt entries t u n o g → n < length entries
at_within entries t u n o g (f, at, says) = slice_get_within entries n _ at

-- ---- steps

at_or_past : (many n : ℕ) → (n < many) ⊎ (many ≤ n)
at_or_past many n = elim (cases_order n many) [ inl e ↦ inr (omega arith) | inr (inl l) ↦ inl l | inr (inr l) ↦ inr (omega arith) ]

pub listed_more : (s t : Made) → Keeps s.entries t.entries → KeepsApart s.apart t.apart → Keeps s.operands t.operands → Keeps s.steps t.steps → (p : Place) (o : Origin) (g : Form) → Listed s p o g → Listed t p o g
listed_more s t k a l m (AtEntry n) o g (f, at, says) = (f, k n _ at, says_more _ _ _ _ l m f g says)
listed_more s t k a l m (AtClasses x y z) o g h = of_list_more disjoint_classes s.apart.lists.classes t.apart.lists.classes s.apart.disjoint_axioms t.apart.disjoint_axioms a.classes a.disjoint_axioms x y z o g h
listed_more s t k a l m (AtIndividuals x y z) o g h = of_list_more different_individuals s.apart.lists.individuals t.apart.lists.individuals s.apart.different_axioms t.apart.different_axioms a.individuals a.different_axioms x y z o g h

-- the place is one of an entry or of a list that is there
abbrev pub IsWithin : Made → Place → Type 0
IsWithin s (AtEntry n) = n < length s.entries
IsWithin s (AtClasses l _ _) = l < length s.apart.lists.classes
IsWithin s (AtIndividuals l _ _) = l < length s.apart.lists.individuals

pub listed_within : (s : Made) (p : Place) (o : Origin) (g : Form) → Listed s p o g → IsWithin s p
listed_within s (AtEntry n) o g h = at_within s.entries s.operands s.steps n o g h
listed_within s (AtClasses l m n) o g h = slice_get_within s.apart.lists.classes l h.members h.there
listed_within s (AtIndividuals l m n) o g h = slice_get_within s.apart.lists.individuals l h.members h.there

within_or_behind : (s : Made) (p : Place) → IsWithin s p ⊎ IsBehind s p
within_or_behind s (AtEntry n) = at_or_past (length s.entries) n
within_or_behind s (AtClasses l m n) = at_or_past (length s.apart.lists.classes) l
within_or_behind s (AtIndividuals l m n) = at_or_past (length s.apart.lists.individuals) l

not_both : (s : Made) (p : Place) → IsWithin s p → IsBehind s p → ⊥
not_both s (AtEntry n) h k = omega (arith, h, k)
not_both s (AtClasses l m n) h k = omega (arith, h, k)
not_both s (AtIndividuals l m n) h k = omega (arith, h, k)

-- where there is no more of the second, what is behind it is behind the first
pub behind_longer : (s t : Made) → length s.entries ≤ length t.entries → length s.apart.lists.classes ≤ length t.apart.lists.classes → length s.apart.lists.individuals ≤ length t.apart.lists.individuals → (p : Place) → IsBehind t p → IsBehind s p
behind_longer s t e c i (AtEntry n) h = let l : length s.entries ≤ n = omega (arith, e, h) in l
behind_longer s t e c i (AtClasses l m n) h = let k : length s.apart.lists.classes ≤ l = omega (arith, c, h) in k
behind_longer s t e c i (AtIndividuals l m n) h = let k : length s.apart.lists.individuals ≤ l = omega (arith, i, h) in k

behind_same : (s u : Made) → u.entries ≡ s.entries → u.apart ≡ s.apart → (p : Place) → IsBehind s p → IsBehind u p
behind_same s u e a = behind_longer u s (omega (arith, ap length e)) (omega (arith, ap (λ (x : Apartness). length x.lists.classes) a)) (omega (arith, ap (λ (x : Apartness). length x.lists.individuals) a))

pub behind_nothing : (s : Made) → s.entries ≡ [] → s.apart ≡ no_apartness → (p : Place) → IsBehind s p
behind_nothing s e a (AtEntry n) = let l : length s.entries ≤ n = omega (arith, ap length e) in l
behind_nothing s e a (AtClasses l m n) = let k : length s.apart.lists.classes ≤ l = omega (arith, ap (λ (x : Apartness). length x.lists.classes) a) in k
behind_nothing s e a (AtIndividuals l m n) = let k : length s.apart.lists.individuals ≤ l = omega (arith, ap (λ (x : Apartness). length x.lists.individuals) a) in k

pub adds_none : (s : Made) (G : Origin → Form → Type 0) → ((o : Origin) (g : Form) → G o g → ⊥) → Adds s s G
adds_none s G none = record {
  entries = λ n x g. g;
  apart = apart_same s.apart s.apart refl;
  operands = lengthens_same s.operands s.operands refl;
  steps = lengthens_same s.steps s.steps refl;
  says = λ n low high. absurd (omega arith);
  each = λ p o g low h. absurd (not_both s p (listed_within s p o g h) low);
  all = λ o g h. absurd (none o g h);
  once = λ p q o g low _ h _. absurd (not_both s p (listed_within s p o g h) low);
  classes = λ n ds g. inl g;
  properties = λ n rs g. inl g;
}

-- names alone are made before, for prefixes that the forms have last
pub adds_behind_names : (s u t : Made) (G : Origin → Form → Type 0) → u.entries ≡ s.entries → u.apart ≡ s.apart → Lengthens s.operands u.operands → Lengthens s.steps u.steps
    → ((n : ℕ) (ds : List ℕ) → slice_get u.operands n ≡ Some ds → (slice_get s.operands n ≡ Some ds) ⊎ HasClass G ds)
    → ((n : ℕ) (rs : List ℕ) → slice_get u.steps n ≡ Some rs → (slice_get s.steps n ≡ Some rs) ⊎ HasProperty G rs)
    → Adds u t G → Adds s t G
adds_behind_names s u t G e i k l classes properties a = record {
  entries = λ n x g. a.entries n x (keeps_same s.entries u.entries e n x g);
  apart = apart_both s.apart u.apart t.apart (apart_same s.apart u.apart i) a.apart;
  operands = lengthens_both _ _ _ k a.operands;
  steps = lengthens_both _ _ _ l a.steps;
  says = λ n low high. a.says n (omega (arith, low, ap length e)) high;
  each = λ p o g low h. a.each p o g (behind_same s u e i p low) h;
  all = λ o g h. (let x = a.all o g h in (x.0, behind_same u s (sym e) (sym i) x.0 x.1, x.2));
  once = λ p q o g lp lq. a.once p q o g (behind_same s u e i p lp) (behind_same s u e i q lq);
  classes = λ n ds g. elim (a.classes n ds g) [ inl h ↦ classes n ds h | inr h ↦ inr h ];
  properties = λ n rs g. elim (a.properties n rs g) [ inl h ↦ properties n rs h | inr h ↦ inr h ];
}

pub adds_one : (s t : Made) (f : code_form.Form) (p : Origin) (g : Form) → t.entries ≡ s.entries ++ record { form = f; origin = p } ∷ [] → t.apart ≡ s.apart → t.operands ≡ s.operands → t.steps ≡ s.steps → Says s.operands s.steps f g → Adds s t (IsOne p g)
adds_one s t f p g e a b c says = record {
  entries = λ n x h. ap (λ zs. slice_get zs n) e ∙ keeps_push s.entries _ n x h;
  apart = apart_same s.apart t.apart a;
  operands = lengthens_same _ _ b;
  steps = lengthens_same _ _ c;
  says = λ n low high. (p, (g, (let i : n ≡ length s.entries = omega (arith, low, high, long) in let P : ℕ → Type 0 = λ m. Listed t (AtEntry m) p g in subst P (sym i) here)));
  each = λ q o h low at. given q o h at (only q o h low at);
  all = λ o h is. (
    AtEntry (length s.entries),
    (let l : length s.entries ≤ length s.entries = omega arith in l),
    (let P : Origin → Type 0 = λ q. Listed t (AtEntry (length s.entries)) q h in let Q : Form → Type 0 = λ k. Listed t (AtEntry (length s.entries)) p k in subst P (sym is.0) (subst Q (sym is.1) here)),
  );
  once = λ q r o h low low' x y. only q o h low x ∙ sym (only r o h low' y);
  classes = λ n ds h. inl (ap (λ zs. slice_get zs n) (sym b) ∙ h);
  properties = λ n rs h. inl (ap (λ zs. slice_get zs n) (sym c) ∙ h);
}
  where
    long : length t.entries ≡ length s.entries + 1
    long = ap length e ∙ length-append s.entries _

    here : Listed t (AtEntry (length s.entries)) p g
    here = (f, ap (λ zs. slice_get zs (length s.entries)) e ∙ slice_get_push s.entries _, says_more _ _ _ _ (keeps_same _ _ b) (keeps_same _ _ c) f g says)

    only : (q : Place) (o : Origin) (h : Form) → IsBehind s q → Listed t q o h → q ≡ AtEntry (length s.entries)
    only (AtEntry n) o h low at = ap AtEntry (let l = at_within t.entries t.operands t.steps n o h at in omega (arith, low, l, long))
    only (AtClasses l m n) o h low at = absurd (omega (arith, low, slice_get_within t.apart.lists.classes l at.members at.there, ap (λ (x : Apartness). length x.lists.classes) a))
    only (AtIndividuals l m n) o h low at = absurd (omega (arith, low, slice_get_within t.apart.lists.individuals l at.members at.there, ap (λ (x : Apartness). length x.lists.individuals) a))

    given : (q : Place) (o : Origin) (h : Form) → Listed t q o h → q ≡ AtEntry (length s.entries) → IsOne p g o h
    given q o h at is = let P : Place → Type 0 = λ r. Listed t r o h in at_one t.entries t.operands t.steps (length s.entries) o p h g (subst P is at) here

pub adds_same : {s t : Made} (G H : Origin → Form → Type 0) → ((o : Origin) (g : Form) → G o g → H o g) → ((o : Origin) (g : Form) → H o g → G o g) → Adds s t G → Adds s t H
adds_same G H to from a = record {
  entries = a.entries;
  apart = a.apart;
  operands = a.operands;
  steps = a.steps;
  says = a.says;
  each = λ p o g low h. to o g (a.each p o g low h);
  all = λ o g h. a.all o g (from o g h);
  once = a.once;
  classes = λ n ds g. elim (a.classes n ds g) [ inl h ↦ inl h | inr h ↦ inr (h.0, h.1, h.2, to h.0 _ h.3) ];
  properties = λ n rs g. elim (a.properties n rs g) [ inl h ↦ inl h | inr h ↦ inr (h.0, h.1, h.2, to h.0 _ h.3) ];
}

-- two steps that give nothing in common
pub adds_both : {s t u : Made} (G H : Origin → Form → Type 0) → ((o : Origin) (g : Form) → G o g → H o g → ⊥) → Adds s t G → Adds t u H → Adds s u (λ o g. G o g ⊎ H o g)
adds_both {s} {t} {u} G H apart a b = record {
  entries = λ n x h. b.entries n x (a.entries n x h);
  apart = apart_both s.apart t.apart u.apart a.apart b.apart;
  operands = lengthens_both _ _ _ a.operands b.operands;
  steps = lengthens_both _ _ _ a.steps b.steps;
  says = λ n low high. elim (at_or_past (length t.entries) n) [
    | inl l ↦ (let e = a.says n low l in (e.0, (e.1.0, more (AtEntry n) e.0 e.1.0 e.1.1)))
    | inr l ↦ b.says n l high
  ];
  each = λ p o g low h. elim (within_or_behind t p) [
    | inl x ↦ inl (a.each p o g low (early p low x o g h))
    | inr x ↦ inr (b.each p o g x h)
  ];
  all = λ o g h. elim h [
    | inl k ↦ (let e = a.all o g k in (e.0, e.1, more e.0 o g e.2))
    | inr k ↦ (let e = b.all o g k in (e.0, behind_longer s t (keeps_long _ _ a.entries) (keeps_long _ _ a.apart.classes) (keeps_long _ _ a.apart.individuals) e.0 e.1, e.2))
  ];
  once = λ p q o g lp lq hp hq. elim (within_or_behind t p) [
    | inl x ↦ elim (within_or_behind t q) [
      | inl y ↦ a.once p q o g lp lq (early p lp x o g hp) (early q lq y o g hq)
      | inr y ↦ absurd (apart o g (a.each p o g lp (early p lp x o g hp)) (b.each q o g y hq))
    ]
    | inr x ↦ elim (within_or_behind t q) [
      | inl y ↦ absurd (apart o g (a.each q o g lq (early q lq y o g hq)) (b.each p o g x hp))
      | inr y ↦ b.once p q o g x y hp hq
    ]
  ];
  classes = λ n ds g. elim (b.classes n ds g) [
    | inl h ↦ elim (a.classes n ds h) [ inl i ↦ inl i | inr i ↦ inr (i.0, i.1, i.2, inl i.3) ]
    | inr h ↦ inr (h.0, h.1, h.2, inr h.3)
  ];
  properties = λ n rs g. elim (b.properties n rs g) [
    | inl h ↦ elim (a.properties n rs h) [ inl i ↦ inl i | inr i ↦ inr (i.0, i.1, i.2, inl i.3) ]
    | inr h ↦ inr (h.0, h.1, h.2, inr h.3)
  ];
}
  where
    more : (p : Place) (o : Origin) (g : Form) → Listed t p o g → Listed u p o g
    more = listed_more t u b.entries b.apart b.operands.keeps b.steps.keeps

    early : (p : Place) → IsBehind s p → IsWithin t p → (o : Origin) (g : Form) → Listed u p o g → Listed t p o g
    early (AtEntry n) low high o g h =
        let e = a.says n low high in
        let same = at_one u.entries u.operands u.steps n e.0 o e.1.0 g (more (AtEntry n) e.0 e.1.0 e.1.1) h in
        let P : Origin → Type 0 = λ q. Listed t (AtEntry n) q g in let Q : Form → Type 0 = λ k. Listed t (AtEntry n) e.0 k in
        subst P same.0 (subst Q same.1 e.1.1)
    early (AtClasses l m n) low high o g h =
        of_list_back disjoint_classes t.apart.lists.classes u.apart.lists.classes t.apart.disjoint_axioms u.apart.disjoint_axioms b.apart.classes b.apart.disjoint_axioms l m n o g high (a.apart.classes_numbered l low high) h
    early (AtIndividuals l m n) low high o g h =
        of_list_back different_individuals t.apart.lists.individuals u.apart.lists.individuals t.apart.different_axioms u.apart.different_axioms b.apart.individuals b.apart.different_axioms l m n o g high (a.apart.individuals_numbered l low high) h

-- ---- behind other forms

behind : {X : Type 0} (xs ys : List X) (n : ℕ) → length xs ≤ n → slice_get (xs ++ ys) n ≡ slice_get ys (n - length xs)
behind [] ys n l = ap (slice_get ys) (let e : n ≡ n - 0 = omega arith in e)
behind (x ∷ xs) ys zero l = absurd (omega arith)
behind (x ∷ xs) ys (suc n) l = behind xs ys n (omega arith) ∙ ap (slice_get ys) (let e : n - length xs ≡ suc n - suc (length xs) = omega arith in e)

pub before : {X : Type 0} (xs ys : List X) → Keeps xs (xs ++ ys)
before [] ys n x g = absurd (none-some x g)
before (y ∷ xs) ys zero x g = g
before (y ∷ xs) ys (suc n) x g = before xs ys n x g

module _ {X : Type 0} (make : X → X → Form) (lists more : List (List X)) (axioms others : List ℕ) (num : length axioms ≡ length lists) (l m n : ℕ) (o : Origin) (g : Form) where
  of_list_down : length lists ≤ l → IsOfList make (lists ++ more) (axioms ++ others) l m n o g → IsOfList make more others (l - length lists) m n o g
  of_list_down low h = record {
    members = h.members;
    there = sym (behind lists more l low) ∙ h.there;
    number = h.number;
    numbered = ap (λ k. slice_get others (l - k)) (sym num) ∙ sym (behind axioms others l (omega (arith, low, num))) ∙ h.numbered;
    one = h.one;
    other = h.other;
    later = h.later;
    at_first = h.at_first;
    at_second = h.at_second;
    origin = h.origin;
    form = h.form;
  }

  of_list_up : IsOfList make more others l m n o g → IsOfList make (lists ++ more) (axioms ++ others) (length lists + l) m n o g
  of_list_up h = record {
    members = h.members;
    there = behind lists more (length lists + l) (omega arith) ∙ ap (slice_get more) (let e : (length lists + l) - length lists ≡ l = omega arith in e) ∙ h.there;
    number = h.number;
    numbered = behind axioms others (length lists + l) (omega (arith, num)) ∙ ap (slice_get others) (let e : (length lists + l) - length axioms ≡ l = omega (arith, num) in e) ∙ h.numbered;
    one = h.one;
    other = h.other;
    later = h.later;
    at_first = h.at_first;
    at_second = h.at_second;
    origin = h.origin;
    form = h.form;
  }

numbered_behind : {X : Type 0} (lists more : List (List X)) (axioms others : List ℕ) → length axioms ≡ length lists → length others ≡ length more → (l : ℕ) → length lists ≤ l → l < length (lists ++ more) → (n : ℕ) × (slice_get (axioms ++ others) l ≡ Some n)
numbered_behind lists more axioms others e f l low high =
    let q = slice_get_there others (l - length axioms) (omega (arith, e, f, low, high, length-append lists more)) in
    (q.0, behind axioms others l (omega (arith, e, low)) ∙ q.1)

as_many_joined : {X : Type 0} (lists more : List (List X)) (axioms others : List ℕ) → length axioms ≡ length lists → length others ≡ length more → length (axioms ++ others) ≡ length (lists ++ more)
as_many_joined lists more axioms others e f = omega (arith, e, f, length-append lists more, length-append axioms others)

pub apart_behind : (a b : Apartness) → AreNumbered a.lists a.disjoint_axioms a.different_axioms → AreNumbered b.lists b.disjoint_axioms b.different_axioms → KeepsApart a (joined_apartness a b)
apart_behind a b h k = record {
  classes = before a.lists.classes b.lists.classes;
  individuals = before a.lists.individuals b.lists.individuals;
  disjoint_axioms = before a.disjoint_axioms b.disjoint_axioms;
  different_axioms = before a.different_axioms b.different_axioms;
  classes_numbered = numbered_behind a.lists.classes b.lists.classes a.disjoint_axioms b.disjoint_axioms h.0 k.0;
  individuals_numbered = numbered_behind a.lists.individuals b.lists.individuals a.different_axioms b.different_axioms h.1 k.1;
  numbered = λ _. (as_many_joined a.lists.classes b.lists.classes a.disjoint_axioms b.disjoint_axioms h.0 k.0, as_many_joined a.lists.individuals b.lists.individuals a.different_axioms b.different_axioms h.1 k.1);
}

-- what was made from nothing can stand behind other forms
module _ (xs : List Entry) (w : Apartness) (num : AreNumbered w.lists w.disjoint_axioms w.different_axioms) (s t : Made) (G : Origin → Form → Type 0) (none : s.entries ≡ []) (no_lists : s.apart ≡ no_apartness) (a : Adds s t G) where
  abbrev Front : Made
  Front = record { entries = xs; apart = w; operands = s.operands; steps = s.steps }

  abbrev All : Made
  All = record { entries = xs ++ t.entries; apart = joined_apartness w t.apart; operands = t.operands; steps = t.steps }

  lowered : Place → Place
  lowered (AtEntry n) = AtEntry (n - length xs)
  lowered (AtClasses l m n) = AtClasses (l - length w.lists.classes) m n
  lowered (AtIndividuals l m n) = AtIndividuals (l - length w.lists.individuals) m n

  raised : Place → Place
  raised (AtEntry n) = AtEntry (length xs + n)
  raised (AtClasses l m n) = AtClasses (length w.lists.classes + l) m n
  raised (AtIndividuals l m n) = AtIndividuals (length w.lists.individuals + l) m n

  raised_back : (p : Place) → IsBehind Front p → raised (lowered p) ≡ p
  unfolding lowered raised
  raised_back (AtEntry n) low = ap AtEntry (omega (arith, low))
  raised_back (AtClasses l m n) low = ap (λ k. AtClasses k m n) (omega (arith, low))
  raised_back (AtIndividuals l m n) low = ap (λ k. AtIndividuals k m n) (omega (arith, low))

  one_place : (p q : Place) → IsBehind Front p → IsBehind Front q → lowered p ≡ lowered q → p ≡ q
  one_place p q lp lq same = sym (raised_back p lp) ∙ ap raised same ∙ raised_back q lq

  raised_behind : (p : Place) → IsBehind Front (raised p)
  unfolding raised
  raised_behind (AtEntry n) = let k : length xs ≤ length xs + n = omega arith in k
  raised_behind (AtClasses l m n) = let k : length w.lists.classes ≤ length w.lists.classes + l = omega arith in k
  raised_behind (AtIndividuals l m n) = let k : length w.lists.individuals ≤ length w.lists.individuals + l = omega arith in k

  down : (p : Place) (o : Origin) (g : Form) → IsBehind Front p → Listed All p o g → Listed t (lowered p) o g
  unfolding lowered
  down (AtEntry n) o g low (f, at, says) = (f, sym (behind xs t.entries n low) ∙ at, says)
  down (AtClasses l m n) o g low h = of_list_down disjoint_classes w.lists.classes t.apart.lists.classes w.disjoint_axioms t.apart.disjoint_axioms num.0 l m n o g low h
  down (AtIndividuals l m n) o g low h = of_list_down different_individuals w.lists.individuals t.apart.lists.individuals w.different_axioms t.apart.different_axioms num.1 l m n o g low h

  up : (p : Place) (o : Origin) (g : Form) → Listed t p o g → Listed All (raised p) o g
  unfolding raised
  up (AtEntry n) o g (f, at, says) =
      let place : (length xs + n) - length xs ≡ n = omega arith in
      (f, behind xs t.entries (length xs + n) (omega arith) ∙ ap (slice_get t.entries) place ∙ at, says)
  up (AtClasses l m n) o g h = of_list_up disjoint_classes w.lists.classes t.apart.lists.classes w.disjoint_axioms t.apart.disjoint_axioms num.0 l m n o g h
  up (AtIndividuals l m n) o g h = of_list_up different_individuals w.lists.individuals t.apart.lists.individuals w.different_axioms t.apart.different_axioms num.1 l m n o g h

  entry_up : (n : ℕ) (o : Origin) (g : Form) → length xs ≤ n → Listed t (AtEntry (n - length xs)) o g → Listed All (AtEntry n) o g
  entry_up n o g low (f, at, says) = (f, behind xs t.entries n low ∙ at, says)

  pub adds_behind : Adds Front All G
  adds_behind = record {
    entries = before xs t.entries;
    apart = apart_behind w t.apart num (a.apart.numbered (subst (λ (x : Apartness). AreNumbered x.lists x.disjoint_axioms x.different_axioms) (sym no_lists) (refl, refl)));
    operands = a.operands;
    steps = a.steps;
    says = λ n low high. (
        let e = a.says (n - length xs) (omega (arith, ap length none)) (omega (arith, low, high, length-append xs t.entries)) in
        (e.0, (e.1.0, entry_up n e.0 e.1.0 low e.1.1))
        );
    each = λ p o g low h. a.each (lowered p) o g (behind_nothing s none no_lists (lowered p)) (down p o g low h);
    all = λ o g h. (let e = a.all o g h in (raised e.0, raised_behind e.0, up e.0 o g e.2));
    once = λ p q o g lp lq hp hq.
        one_place p q lp lq (a.once (lowered p) (lowered q) o g (behind_nothing s none no_lists (lowered p)) (behind_nothing s none no_lists (lowered q)) (down p o g lp hp) (down q o g lq hq));
    classes = a.classes;
    properties = a.properties;
  }

-- ---- all of one origin

pub from_same : {s t : Made} (p : Origin) (F G : Form → Type 0) → ((g : Form) → F g → G g) → ((g : Form) → G g → F g) → Adds s t (From p F) → Adds s t (From p G)
from_same p F G to from = adds_same (From p F) (From p G) (λ o g h. (h.0, to g h.1)) (λ o g h. (h.0, from g h.1))

pub from_none : (s : Made) (p : Origin) (F : Form → Type 0) → ((g : Form) → F g → ⊥) → Adds s s (From p F)
from_none s p F none = adds_none s (From p F) (λ o g h. none g h.1)

pub below_none : (s : Made) (p : Origin) (F : ℕ → Form → Type 0) → Adds s s (From p (Below F 0))
below_none s p F = from_none s p (Below F 0) (λ g h. absurd (omega (arith, h.1)))

-- one number more, where no two numbers give the same form
pub below_more : {s t u : Made} (p : Origin) (F : ℕ → Form → Type 0) (k : ℕ) → ((m n : ℕ) (g : Form) → F m g → F n g → m ≡ n) → Adds s t (From p (Below F k)) → Adds t u (From p (F k)) → Adds s u (From p (Below F (k + 1)))
below_more p F k one a b = adds_same _ (From p (Below F (k + 1))) to from (adds_both (From p (Below F k)) (From p (F k)) apart a b)
  where
    apart : (o : Origin) (g : Form) → From p (Below F k) o g → From p (F k) o g → ⊥
    apart o g (_, (n, l, f)) (_, f') = omega (arith, l, one n k g f f')

    to : (o : Origin) (g : Form) → From p (Below F k) o g ⊎ From p (F k) o g → From p (Below F (k + 1)) o g
    to o g (inl (e, (n, l, f))) = (e, (n, omega arith, f))
    to o g (inr (e, f)) = (e, (k, omega arith, f))

    from : (o : Origin) (g : Form) → From p (Below F (k + 1)) o g → From p (Below F k) o g ⊎ From p (F k) o g
    from o g (e, (n, l, f)) = elim (cases_eq n k) [
      | inl i ↦ inr (e, (let P : ℕ → Type 0 = λ m. F m g in subst P i f))
      | inr ne ↦ inl (e, (n, omega arith, f))
    ]

pub below_all : {s t : Made} (p : Origin) (F : ℕ → Form → Type 0) (k : ℕ) → ((n : ℕ) (g : Form) → F n g → n < k) → Adds s t (From p (Below F k)) → Adds s t (From p (λ g. (n : ℕ) × F n g))
below_all p F k all = from_same p (Below F k) (λ g. (n : ℕ) × F n g) (λ g h. (h.0, h.2)) (λ g h. (h.0, all h.0 g h.1, h.1))
