-- Forms that become more by one list of what is apart.
use Rattle.std.proofs.Common.{◌≡◌, ℕ, ◌<◌, ◌≤◌, inl, List, [], ◌∷◌, ◌++◌, length, map, slice_get, Some, refl, sym, ap, ap₂, ◌∙◌, subst, arith, length-append}
use Rattle.std.proofs.lemmas.Option.{slice_get_within}
use Rattle.lemmas.proofs.Choices.{one_value}
use Rattle.lemmas.proofs.Mapped.{slice_get_map, slice_get_map_from}
use Rattle.lemmas.proofs.Places.{slice_get_push, keeps_push}
use Rattle.axioms.specs.View.{expr_numbers, ind_numbers}
use Rattle.axioms.specs.WellFormedness.{AreDistinct}
use Rattle.axioms.specs.declared.ids.ExprId.{ExprId}
use Rattle.axioms.specs.declared.ids.IndId.{IndId}
use Rattle.normal_forms.specs.declared.forms.Origin.{Origin}
use Rattle.normal_forms.specs.declared.forms.Origin.TheVariants as origins
use Rattle.normal_forms.specs.Forms.{Form, N11}
use Rattle.normal_forms.specs.Origins.{PairGives, disjoint}
use Rattle.normalise.specs.Apart.{Apartness, AreNumbered, IsOfList, with_classes, with_individuals}
use Rattle.normalise.specs.View.{Adds, From, IsBehind, Listed, Place, AtEntry, AtClasses, AtIndividuals}
use Rattle.normalise.specs.declared.made.Made.{Made}
use Rattle.normalise.proofs.Adding.{at_within, lengthens_same}
use Rattle.normalise.proofs.Giving.{disjoint_first, disjoint_second, n11_first, n11_second}

abbrev EachPairGives : (ℕ → ℕ → Form) → List ℕ → Form → Type 0
EachPairGives make xs g = (m : ℕ) × ((n : ℕ) × PairGives make xs m n g)

-- the lists with one more of an axiom, whose members have numbers; different members make different forms
module _ {X : Type 0} (number : X → ℕ) (make : ℕ → ℕ → Form) (first : (a b c d : ℕ) → make a b ≡ make c d → a ≡ c) (second : (a b c d : ℕ) → make a b ≡ make c d → b ≡ d)
    (lists : List (List X)) (axioms : List ℕ) (xs : List X) (k : ℕ) (num : length axioms ≡ length lists) (distinct : AreDistinct (map number xs)) where
  abbrev IsHere : ℕ → ℕ → ℕ → Origin → Form → Type 0
  IsHere l m n o g = IsOfList (λ a b. make (number a) (number b)) (lists ++ xs ∷ []) (axioms ++ k ∷ []) l m n o g

  last_number : (l : ℕ) → l ≡ length lists → slice_get (axioms ++ k ∷ []) l ≡ Some k
  last_number l e = ap (slice_get (axioms ++ k ∷ [])) (e ∙ sym num) ∙ slice_get_push axioms k

  last_list : (l : ℕ) → l ≡ length lists → slice_get (lists ++ xs ∷ []) l ≡ Some xs
  last_list l e = ap (slice_get (lists ++ xs ∷ [])) e ∙ slice_get_push lists xs

  is_last : (l : ℕ) → length lists ≤ l → l < length (lists ++ xs ∷ []) → l ≡ length lists
  is_last l low high = omega (arith, low, high, length-append lists (xs ∷ []))

  numbered_last : (l : ℕ) → length lists ≤ l → l < length (lists ++ xs ∷ []) → (n : ℕ) × (slice_get (axioms ++ k ∷ []) l ≡ Some n)
  numbered_last l low high = (k, last_number l (is_last l low high))

  as_many : length (axioms ++ k ∷ []) ≡ length (lists ++ xs ∷ [])
  as_many = omega (arith, num, length-append axioms (k ∷ []), length-append lists (xs ∷ []))

  here_last : (l m n : ℕ) (o : Origin) (g : Form) → length lists ≤ l → IsHere l m n o g → l ≡ length lists
  here_last l m n o g low h = is_last l low (slice_get_within (lists ++ xs ∷ []) l h.members h.there)

  pair_here : (l m n : ℕ) (o : Origin) (g : Form) → length lists ≤ l → IsHere l m n o g → PairGives make (map number xs) m n g
  pair_here l m n o g low h =
      let same : h.members ≡ xs = one_value _ h.members xs h.there (last_list l (here_last l m n o g low h)) in
      let at_first : slice_get xs m ≡ Some h.one = ap (λ ys. slice_get ys m) (sym same) ∙ h.at_first in
      let at_second : slice_get xs n ≡ Some h.other = ap (λ ys. slice_get ys n) (sym same) ∙ h.at_second in
      (number h.one, number h.other, h.later, slice_get_map number xs m h.one at_first, slice_get_map number xs n h.other at_second, h.form)

  list_each : (l m n : ℕ) (o : Origin) (g : Form) → length lists ≤ l → IsHere l m n o g → From (origins.Axiom k) (EachPairGives make (map number xs)) o g
  list_each l m n o g low h =
      let same : h.number ≡ k = one_value _ h.number k h.numbered (last_number l (here_last l m n o g low h)) in
      (h.origin ∙ ap origins.Axiom same, (m, (n, pair_here l m n o g low h)))

  list_all : (m n : ℕ) (o : Origin) (g : Form) → o ≡ origins.Axiom k → PairGives make (map number xs) m n g → IsHere (length lists) m n o g
  list_all m n o g origin (c, d, later, at_c, at_d, form) =
      let (one, at_one, is_one) = slice_get_map_from number xs m c at_c in
      let (other, at_other, is_other) = slice_get_map_from number xs n d at_d in
      record {
        members = xs;
        there = last_list (length lists) refl;
        number = k;
        numbered = last_number (length lists) refl;
        one = one;
        other = other;
        later = later;
        at_first = at_one;
        at_second = at_other;
        origin = origin;
        form = form ∙ ap₂ make (sym is_one) (sym is_other);
      }

  list_once : (l m n l' m' n' : ℕ) (o : Origin) (g : Form) → length lists ≤ l → length lists ≤ l' → IsHere l m n o g → IsHere l' m' n' o g → (l ≡ l') × (m ≡ m') × (n ≡ n')
  list_once l m n l' m' n' o g low low' h h' =
      let (c, d, _, at_c, at_d, form) = pair_here l m n o g low h in
      let (c', d', _, at_c', at_d', form') = pair_here l' m' n' o g low' h' in
      let same_first : c' ≡ c = sym (first c d c' d' (sym form ∙ form')) in
      let same_second : d' ≡ d = sym (second c d c' d' (sym form ∙ form')) in (
        here_last l m n o g low h ∙ sym (here_last l' m' n' o g low' h'),
        distinct m m' c at_c (at_c' ∙ ap Some same_first),
        distinct n n' d at_d (at_d' ∙ ap Some same_second),
      )

abbrev with_apart : Made → Apartness → Made
with_apart s a = record { entries = s.entries; apart = a; operands = s.operands; steps = s.steps }

-- ---- a list of classes

module _ (s : Made) (k : ℕ) (cs : List ExprId) (distinct : AreDistinct (expr_numbers cs)) (num : AreNumbered s.apart.lists s.apart.disjoint_axioms s.apart.different_axioms) where
  abbrev More : Made
  More = with_apart s (with_classes s.apart cs k)

  abbrev Given : Origin → Form → Type 0
  Given = From (origins.Axiom k) (EachPairGives disjoint (expr_numbers cs))

  classes_each : (p : Place) (o : Origin) (g : Form) → IsBehind s p → Listed More p o g → Given o g
  classes_each (AtEntry n) o g low h = absurd (omega (arith, low, at_within s.entries s.operands s.steps n o g h))
  classes_each (AtClasses l m n) o g low h = list_each (λ (e : ExprId). e.0) disjoint disjoint_first disjoint_second s.apart.lists.classes s.apart.disjoint_axioms cs k num.0 distinct l m n o g low h
  classes_each (AtIndividuals l m n) o g low h = absurd (omega (arith, low, slice_get_within s.apart.lists.individuals l h.members h.there))

  classes_once : (p q : Place) (o : Origin) (g : Form) → IsBehind s p → IsBehind s q → Listed More p o g → Listed More q o g → p ≡ q
  classes_once (AtEntry n) q o g low _ h _ = absurd (omega (arith, low, at_within s.entries s.operands s.steps n o g h))
  classes_once (AtIndividuals l m n) q o g low _ h _ = absurd (omega (arith, low, slice_get_within s.apart.lists.individuals l h.members h.there))
  classes_once (AtClasses l m n) (AtEntry n') o g _ low _ h = absurd (omega (arith, low, at_within s.entries s.operands s.steps n' o g h))
  classes_once (AtClasses l m n) (AtIndividuals l' m' n') o g _ low _ h = absurd (omega (arith, low, slice_get_within s.apart.lists.individuals l' h.members h.there))
  classes_once (AtClasses l m n) (AtClasses l' m' n') o g low low' h h' =
      let same = list_once (λ (e : ExprId). e.0) disjoint disjoint_first disjoint_second s.apart.lists.classes s.apart.disjoint_axioms cs k num.0 distinct l m n l' m' n' o g low low' h h' in
      ap₂ (λ x y. AtClasses x y n) same.0 same.1 ∙ ap (AtClasses l' m') same.2

  one_more_of_classes : Adds s More Given
  one_more_of_classes = record {
    entries = λ n x g. g;
    apart = record {
      classes = keeps_push s.apart.lists.classes cs;
      individuals = λ n x g. g;
      disjoint_axioms = keeps_push s.apart.disjoint_axioms k;
      different_axioms = λ n x g. g;
      classes_numbered = numbered_last (λ (e : ExprId). e.0) disjoint disjoint_first disjoint_second s.apart.lists.classes s.apart.disjoint_axioms cs k num.0 distinct;
      individuals_numbered = λ l low high. absurd (omega (arith, low, high));
      numbered = λ _. (as_many (λ (e : ExprId). e.0) disjoint disjoint_first disjoint_second s.apart.lists.classes s.apart.disjoint_axioms cs k num.0 distinct, num.1);
    };
    operands = lengthens_same s.operands s.operands refl;
    steps = lengthens_same s.steps s.steps refl;
    says = λ n low high. absurd (omega (arith, low, high));
    each = classes_each;
    all = λ o g h. (
      AtClasses (length s.apart.lists.classes) h.1.0 h.1.1.0,
      (let l : length s.apart.lists.classes ≤ length s.apart.lists.classes = omega arith in l),
      list_all (λ (e : ExprId). e.0) disjoint disjoint_first disjoint_second s.apart.lists.classes s.apart.disjoint_axioms cs k num.0 distinct h.1.0 h.1.1.0 o g h.0 h.1.1.1,
    );
    once = classes_once;
    classes = λ n ds g. inl g;
    properties = λ n rs g. inl g;
  }

  pub classes_add : (a : Apartness) → a ≡ with_classes s.apart cs k → Adds s (with_apart s a) Given
  classes_add a e = subst (λ (b : Apartness). Adds s (with_apart s b) Given) (sym e) one_more_of_classes

-- ---- a list of individuals

module _ (s : Made) (k : ℕ) (xs : List IndId) (distinct : AreDistinct (ind_numbers xs)) (num : AreNumbered s.apart.lists s.apart.disjoint_axioms s.apart.different_axioms) where
  abbrev Further : Made
  Further = with_apart s (with_individuals s.apart xs k)

  abbrev Differing : Origin → Form → Type 0
  Differing = From (origins.Axiom k) (EachPairGives N11 (ind_numbers xs))

  individuals_each : (p : Place) (o : Origin) (g : Form) → IsBehind s p → Listed Further p o g → Differing o g
  individuals_each (AtEntry n) o g low h = absurd (omega (arith, low, at_within s.entries s.operands s.steps n o g h))
  individuals_each (AtIndividuals l m n) o g low h = list_each (λ (e : IndId). e.0) N11 n11_first n11_second s.apart.lists.individuals s.apart.different_axioms xs k num.1 distinct l m n o g low h
  individuals_each (AtClasses l m n) o g low h = absurd (omega (arith, low, slice_get_within s.apart.lists.classes l h.members h.there))

  individuals_once : (p q : Place) (o : Origin) (g : Form) → IsBehind s p → IsBehind s q → Listed Further p o g → Listed Further q o g → p ≡ q
  individuals_once (AtEntry n) q o g low _ h _ = absurd (omega (arith, low, at_within s.entries s.operands s.steps n o g h))
  individuals_once (AtClasses l m n) q o g low _ h _ = absurd (omega (arith, low, slice_get_within s.apart.lists.classes l h.members h.there))
  individuals_once (AtIndividuals l m n) (AtEntry n') o g _ low _ h = absurd (omega (arith, low, at_within s.entries s.operands s.steps n' o g h))
  individuals_once (AtIndividuals l m n) (AtClasses l' m' n') o g _ low _ h = absurd (omega (arith, low, slice_get_within s.apart.lists.classes l' h.members h.there))
  individuals_once (AtIndividuals l m n) (AtIndividuals l' m' n') o g low low' h h' =
      let same = list_once (λ (e : IndId). e.0) N11 n11_first n11_second s.apart.lists.individuals s.apart.different_axioms xs k num.1 distinct l m n l' m' n' o g low low' h h' in
      ap₂ (λ x y. AtIndividuals x y n) same.0 same.1 ∙ ap (AtIndividuals l' m') same.2

  one_more_of_individuals : Adds s Further Differing
  one_more_of_individuals = record {
    entries = λ n x g. g;
    apart = record {
      classes = λ n x g. g;
      individuals = keeps_push s.apart.lists.individuals xs;
      disjoint_axioms = λ n x g. g;
      different_axioms = keeps_push s.apart.different_axioms k;
      classes_numbered = λ l low high. absurd (omega (arith, low, high));
      individuals_numbered = numbered_last (λ (e : IndId). e.0) N11 n11_first n11_second s.apart.lists.individuals s.apart.different_axioms xs k num.1 distinct;
      numbered = λ _. (num.0, as_many (λ (e : IndId). e.0) N11 n11_first n11_second s.apart.lists.individuals s.apart.different_axioms xs k num.1 distinct);
    };
    operands = lengthens_same s.operands s.operands refl;
    steps = lengthens_same s.steps s.steps refl;
    says = λ n low high. absurd (omega (arith, low, high));
    each = individuals_each;
    all = λ o g h. (
      AtIndividuals (length s.apart.lists.individuals) h.1.0 h.1.1.0,
      (let l : length s.apart.lists.individuals ≤ length s.apart.lists.individuals = omega arith in l),
      list_all (λ (e : IndId). e.0) N11 n11_first n11_second s.apart.lists.individuals s.apart.different_axioms xs k num.1 distinct h.1.0 h.1.1.0 o g h.0 h.1.1.1,
    );
    once = individuals_once;
    classes = λ n ds g. inl g;
    properties = λ n rs g. inl g;
  }

  pub individuals_add : (a : Apartness) → a ≡ with_individuals s.apart xs k → Adds s (with_apart s a) Differing
  individuals_add a e = subst (λ (b : Apartness). Adds s (with_apart s b) Differing) (sym e) one_more_of_individuals
